-- The bytes of a buffer that a session lends.
use Rattle.std.specs.Prelude.{ℕ, List, Option}
use Rattle.std.specs.Borrow.{Lends, LendsIf, MutBor, Fml, Array, u8}
use Rattle.nm_port.specs.Regions.{SideState}
use Rattle.nm_own.specs.WrittenBytes.{side_written}
use Rattle.nm_own.specs.contracts.own.OwnSide.{the_row}

abbrev pub LendsBytesAt : MutBor SideState → ℕ → MutBor (List ℕ) → Fml
LendsBytesAt s idx r = Lends the_row (Array u8 0) s r (side_written s.now idx)

-- where no bytes are lent, the session stays as it is
abbrev pub LendsNamedAt : MutBor SideState → ℕ → Option (MutBor (List ℕ)) → Fml
LendsNamedAt s idx r = LendsIf the_row (Array u8 0) s r (side_written s.now idx) s.now
