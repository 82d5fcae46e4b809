-- A part of a frame that came in a buffer, whose bytes behind it are cleared.
use Rattle.std.specs.Prelude.{ℕ, ◌≡◌, take}
use Rattle.nm_region.specs.Buffers.{Buffer}
use Rattle.nm_port.specs.Receives.{own_with_arrival}
use Rattle.nm_port.specs.Regions.{AllOf, IsBufferOf, SideState}

-- the port has the part of so many bytes, behind which so many parts follow, and what comes from one
-- region stays so
pub record HasCome (id : ℕ) (buf : Buffer) (len rest : ℕ) (old new : SideState) : Type 0 where
  pub own : new.own ≡ own_with_arrival id old.own (record { buffer = buf.index; bytes = take len buf.bytes; rest = rest })
  pub region : (region : ℕ) → AllOf region old → IsBufferOf region buf → AllOf region new
