use Rattle.std.proofs.Common.{take}
use Rattle.vale_batch.proofs.Ranks.{rising-own}
use Rattle.vale_batch.proofs.WantLemmas.{loop-more}
use Rattle.vale_batch.proofs.alone.owns_of.Goals as goal

pub loop-place-preserved : goal.loop-place-preserved
loop-place-preserved c = loop-more c.args.looked.now c.args.ports.now c.loop-place.place _ _ _ c.loop-place-test.true c.loop-place.invariant c.in_ok-near.ensures

pub add-requires : goal.add-requires
add-requires c = rising-own (take c.loop-place.place c.args.looked.now) c.args.ports.now c.loop-place.all.items c.loop-place.invariant c.requires.ports
