use Rattle.std.proofs.Common.{◌∷◌, [], nat_eq, refl}
use Rattle.std.specs.List.{IsDistinct}
use Rattle.own_tests.proofs.sync.open.Goals as goal

four_apart : IsDistinct nat_eq (2 ∷ 3 ∷ 4 ∷ 5 ∷ [])
unfolding IsDistinct
four_apart = ((refl, (refl, (refl, tt))), ((refl, (refl, tt)), ((refl, tt), (tt, tt))))

pub add-requires-clause-once : goal.add-requires-clause-once
add-requires-clause-once g c = rw (c.requires.tx, c.new.ensures.items) four_apart
