use Rattle.std.proofs.Common.{◌∷◌, [], nat_eq, refl}
use Rattle.std.specs.List.{IsDistinct}
use Rattle.own_tests.proofs.own.open.Goals as goal

five_apart : IsDistinct nat_eq (2 ∷ 3 ∷ 4 ∷ 5 ∷ 6 ∷ [])
unfolding IsDistinct
five_apart = ((refl, (refl, (refl, (refl, tt)))), ((refl, (refl, (refl, tt))), ((refl, (refl, tt)), ((refl, tt), (tt, tt)))))

pub add-requires-clause-once : goal.add-requires-clause-once
add-requires-clause-once g c = rw (c.requires.tx, c.requires.extra) five_apart
