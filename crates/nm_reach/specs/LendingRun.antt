-- What a right is once one of its cells has been lent.
use Rattle.std.specs.Prelude.{ℕ, List, ◌++◌, slice_set}
use Rattle.std.specs.Borrow.{Lends, MutBor, Fml, RattleType, Array}
use Rattle.nm_reach.specs.Cells.{refilled}
use Rattle.nm_reach.specs.Fields.{Run, front_of, back_of}
use Rattle.nm_reach.specs.contracts.reach.Reach.{the_row as reach_row}

-- the cell i of the run ends with the value last written
abbrev pub LendsCellOf : (R : RattleType) → MutBor (Run R.Denot) → ℕ → MutBor R.Denot → Fml
LendsCellOf R s i r =
    Lends (reach_row R) R s r (λ w. record s.now { values = slice_set s.now.values i w })

-- the cells up to the end of the field end with the values last written
abbrev pub LendsFrontOf : (R : RattleType) → MutBor (Run R.Denot) → MutBor (List R.Denot) → Fml
LendsFrontOf R s r =
    Lends (reach_row R) (Array R 0) s r (λ w. record s.now { values = refilled (front_of s.now) w ++ back_of s.now })

-- the cells from cell 0 on end with the values last written
abbrev pub LendsBackOf : (R : RattleType) → MutBor (Run R.Denot) → MutBor (List R.Denot) → Fml
LendsBackOf R s r =
    Lends (reach_row R) (Array R 0) s r (λ w. record s.now { values = front_of s.now ++ refilled (back_of s.now) w })
