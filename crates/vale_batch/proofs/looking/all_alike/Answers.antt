use Rattle.nm_types.specs.Frames.{Frame}
use Rattle.vale_batch.proofs.Alike.{alike-more}
use Rattle.vale_batch.proofs.looking.all_alike.Goals as goal

pub loop-i-preserved : goal.loop-i-preserved
loop-i-preserved c =
    let other : Frame = record { bytes = c.args.other.now; no_learn = c.args.other_no_learn } in
    let frame : Frame = record { bytes = c.get-no_learn.result.0.now; no_learn = c.get-no_learn.result.1 } in
    alike-more other frame c.args.batch.now c.loop-i.i c.loop-i.invariant c.get-no_learn.ensures (c.is_one_alike.ensures c.if-not-is_one_alike.false)
