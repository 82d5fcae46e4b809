-- What a hold is once the bytes of a buffer have been lent.
use Rattle.std.specs.Prelude.{ℕ, List, Option}
use Rattle.std.specs.Borrow.{Lends, LendsIf, MutBor, Fml, Array, u8}
use Rattle.nm_hold.specs.Holds.{HoldState, with_written}
use Rattle.nm_hold.specs.contracts.hold.Hold.{the_row}

abbrev pub LendsBytesAt : MutBor HoldState → ℕ → MutBor (List ℕ) → Fml
LendsBytesAt h idx r = Lends the_row (Array u8 0) h r (with_written h.now idx)

-- where no bytes are lent, the hold stays as it is
abbrev pub LendsNamedAt : MutBor HoldState → ℕ → Option (MutBor (List ℕ)) → Fml
LendsNamedAt h idx r = LendsIf the_row (Array u8 0) h r (with_written h.now idx) h.now
