use Rattle.std.proofs.Common.{zero, suc, [], ◌∷◌, arith}
use Rattle.vale_batch.specs.Wants.{IsRising}
use Rattle.switch_tests.proofs.batches.Switch.send.Goals as goal

three : IsRising (4 ∷ 5 ∷ 6 ∷ [])
three zero zero d less within = absurd (omega (arith, less))
three zero (suc zero) d less within = omega arith
three zero (suc (suc zero)) d less within = omega arith
three zero (suc (suc (suc j))) d less within = absurd (omega (arith, within))
three (suc i) zero d less within = absurd (omega (arith, less))
three (suc zero) (suc zero) d less within = absurd (omega (arith, less))
three (suc zero) (suc (suc zero)) d less within = omega arith
three (suc zero) (suc (suc (suc j))) d less within = absurd (omega (arith, within))
three (suc (suc i)) (suc zero) d less within = absurd (omega (arith, less))
three (suc (suc i)) (suc (suc zero)) d less within = absurd (omega (arith, less))
three (suc (suc i)) (suc (suc (suc j))) d less within = absurd (omega (arith, within))

pub classify-requires-clause-ports : goal.classify-requires-clause-ports
classify-requires-clause-ports g c = three
