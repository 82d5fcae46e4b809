use Rattle.std.proofs.Common.{◌<◌, length}
use Rattle.std.proofs.lemmas.List.Edits.{map_over_more}
use Rattle.nm_types.specs.declared.id.PortId.{PortId}
use Rattle.nm_types.specs.declared.id.Side.TheVariants.{Rx}
use Rattle.nm_port.specs.Own.{port_changed_if}
use Rattle.nm_port.specs.Receives.{CanGiveBack, ring_given_back}
use Rattle.nm_port.proofs.Exchanged.{holds_for_item}
use Rattle.nm_port.proofs.receive.accept_backs.Goals as goal

pub accept_if-requires : goal.accept_if-requires
accept_if-requires c =
    let inside : c.loop-port.port-index < length c.args.ports.now = c.loop-port-test.true in
    rw (← c.port-item.is) (holds_for_item (CanGiveBack c.args.id.0) (port_changed_if c.args.id.0 Rx (λ (of : PortId). ring_given_back)) c.args.ports.now c.loop-port.ports c.loop-port.port-index c.port-item.result inside
    c.loop-port.invariant c.port-item.is c.requires)

pub loop-port-preserved : goal.loop-port-preserved
loop-port-preserved c =
    let inside : c.loop-port.port-index < length c.args.ports.now = c.loop-port-test.true in
    let more = map_over_more (port_changed_if c.args.id.0 Rx (λ (of : PortId). ring_given_back)) c.args.ports.now c.loop-port.ports c.loop-port.port-index c.port-item.result inside c.loop-port.invariant c.port-item.is in
    rw (c.accept_if.ensures, ← c.port-item.is) more
