-- An own side as its caller sees it: what the session has, and of which regions the buffers in its places
-- are.
use Rattle.std.specs.Prelude.{ℕ, ◌≡◌, List, [], ◌∷◌, Option, Some, None}
use Rattle.std.specs.List.{AllByRecursion}
use Rattle.nm_types.specs.OwnPorts.{OwnState}
use Rattle.nm_region.specs.Buffers.{Buffer}
pub use Rattle.nm_region.specs.Regions.{IsBufferOf, AreOf}
use Rattle.nm_hold.specs.Holds.{HoldState, bufs_of}
use Rattle.nm_port.specs.declared.port.UserPort.{UserPort}
use Rattle.nm_port.specs.Own.{own_seen}

-- what a session has, and the region of each of its buffers, by rising index
pub record SideState : Type 0 where
  pub own : OwnState
  pub regions : List ℕ

abbrev pub IsRegion : ℕ → ℕ → Type 0
IsRegion region r = r ≡ region

-- all buffers of a session are of a region
abbrev pub AllOf : ℕ → SideState → Type 0
AllOf region s = AllByRecursion (IsRegion region) s.regions

-- the regions of the buffers in a hold
abbrev pub regions_in : List (Option Buffer) → List ℕ
regions_in [] = []
regions_in (None ∷ bufs) = regions_in bufs
regions_in (Some buf ∷ bufs) = buf.region ∷ regions_in bufs

-- all buffers in a hold are of a region
abbrev pub HoldsOf : ℕ → HoldState → Type 0
HoldsOf region h = AllByRecursion (IsRegion region) (regions_in (bufs_of h))

abbrev pub side_seen : HoldState → List UserPort → SideState
side_seen h ports = record { own = own_seen h ports; regions = regions_in (bufs_of h) }
