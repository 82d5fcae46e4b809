-- Cells that lie side by side, and where they lie in their field.
use Rattle.std.specs.Prelude.{ℕ, ◌*◌, ◌^◌, List, ◌++◌, length, take, drop}
use Rattle.std.specs.Mem.{type_size}
use Rattle.std.specs.Ptr.{ptr_add}
use base.Fraction.{full_share}
use base.Fml.{Fml, fsep, feq, flt}
use denote.Array.{Array}
use denote.RattleType.{RattleType}
use denote.RawPtr.{Ptr, lies_at}

-- the cell `at` of a field of `size` cells from `base` on is at p, and all of the field fits into
-- memory
abbrev pub stands : RattleType → Ptr → ℕ → ℕ → Ptr → Fml
stands R base size at p = fsep (flt (size * type_size R) (2 ^ 63)) (feq Ptr p (ptr_add R at base))

-- the values xs lie side by side from p on
abbrev pub values_at : (R : RattleType) → Ptr → List R.Denot → Fml
values_at R p xs = lies_at (Array R (length xs)) full_share p xs

-- values once others were written over them, as a slice of theirs is when it was lent
abbrev pub refilled : {X : Type 0} → List X → List X → List X
refilled values written = take (length values) (written ++ drop (length written) values)
