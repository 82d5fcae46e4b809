use Rattle.std.proofs.Common.{◌<◌, length}
use Rattle.std.proofs.lemmas.List.Edits.{map_over_more}
use Rattle.nm_own.specs.ExtraChain.{port_headed_if}
use Rattle.nm_own.proofs.extras.set_heads.Goals as goal

pub loop-port-preserved : goal.loop-port-preserved
loop-port-preserved c =
    let inside : c.loop-port.port-index < length c.args.ports.now = c.loop-port-test.true in
    let more = map_over_more (port_headed_if c.args.id.0 c.args.idx) c.args.ports.now c.loop-port.ports c.loop-port.port-index c.port-item.result inside c.loop-port.invariant c.port-item.is in
    rw (c.set_head_if.ensures, ← c.port-item.is) more
