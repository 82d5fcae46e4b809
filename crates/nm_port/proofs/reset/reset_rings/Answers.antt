use Rattle.std.proofs.Common.{◌<◌, length}
use Rattle.std.proofs.lemmas.List.Edits.{map_over_more}
use Rattle.nm_port.specs.Resets.{port_reset_if}
use Rattle.nm_port.proofs.reset.reset_rings.Goals as goal

pub loop-port-preserved : goal.loop-port-preserved
loop-port-preserved c =
    let inside : c.loop-port.port-index < length c.args.ports.now = c.loop-port-test.true in
    let more = map_over_more (port_reset_if c.args.hold.now c.args.id.0 c.args.side) c.args.ports.now c.loop-port.ports c.loop-port.port-index c.port-item.result inside c.loop-port.invariant c.port-item.is in
    rw (c.reset_if.ensures, ← c.port-item.is) more
