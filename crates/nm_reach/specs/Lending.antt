-- What cells are once one of them has been lent.
use Rattle.std.specs.Prelude.{ℕ, List, slice_set}
use Rattle.std.specs.Borrow.{Lends, MutBor, Fml, RattleType, Array}
use Rattle.nm_reach.specs.Cells.{refilled}
use Rattle.nm_reach.specs.Fields.{Run}
use Rattle.nm_reach.specs.contracts.stretch.Stretch.{the_row as stretch_row}

-- the cell i ends with the value last written
abbrev pub LendsCell : (R : RattleType) → MutBor (Run R.Denot) → ℕ → MutBor R.Denot → Fml
LendsCell R s i r =
    Lends (stretch_row R) R s r (λ w. record s.now { values = slice_set s.now.values i w })

-- the cells end with the values last written
abbrev pub LendsCells : (R : RattleType) → MutBor (Run R.Denot) → MutBor (List R.Denot) → Fml
LendsCells R s r =
    Lends (stretch_row R) (Array R 0) s r (λ w. record s.now { values = refilled s.now.values w })
