use Rattle.vale_batch.proofs.WantLemmas.{flooded-more}
use Rattle.vale_batch.proofs.alone.flooded_of.Goals as goal

pub loop-place-preserved : goal.loop-place-preserved
loop-place-preserved c = flooded-more c.args.looked.now c.loop-place.place _ _ _ c.loop-place-test.true c.loop-place.invariant c.in_ok-add_flooded.ensures
