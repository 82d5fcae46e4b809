-- What holds of each element of a list, in its parts.
use Rattle.std.proofs.Common.{ℕ, zero, suc, List, [], ◌∷◌}
use Rattle.std.specs.List.{AllByRecursion as Each, remove}

pub each-remove : {X : Type 0} (P : X → Type 0) (xs : List X) (place : ℕ) → Each P xs → Each P (remove xs place)
each-remove P [] zero all = tt
each-remove P [] (suc place) all = tt
each-remove P (x ∷ xs) zero all = all.1
each-remove P (x ∷ xs) (suc place) all = (all.0, each-remove P xs place all.1)
