use Rattle.std.proofs.Common.{◌<◌, length}
use Rattle.std.proofs.lemmas.List.Edits.{map_over_more}
use Rattle.vale_player.specs.Kept.{grown_if}
use Rattle.vale_player.proofs.kept.grow_all.Goals as goal

pub loop-one-preserved : goal.loop-one-preserved
loop-one-preserved c =
    let inside : c.loop-one.one-index < length c.args.kept.now = c.loop-one-test.true in
    let more = map_over_more (grown_if c.args.session.now.own c.args.port.0 c.args.tail c.args.received) c.args.kept.now c.loop-one.kept c.loop-one.one-index c.one-item.result inside c.loop-one.invariant c.one-item.is in
    rw (c.in_ok-grow_if.ensures, ← c.one-item.is) more
