use Rattle.std.proofs.Common.{◌<◌, length}
use Rattle.std.proofs.lemmas.List.Edits.{map_over_more}
use Rattle.nm_types.specs.declared.id.PortId.{PortId}
use Rattle.nm_types.specs.declared.id.Side.TheVariants.{Tx}
use Rattle.nm_port.specs.Own.{port_changed_if}
use Rattle.nm_port.specs.Exchanges.{CanAccept, ring_pushed_out}
use Rattle.nm_port.proofs.Exchanged.{holds_for_item}
use Rattle.nm_port.proofs.exchange.accept_pushes.Goals as goal

pub accept_if-requires : goal.accept_if-requires
accept_if-requires c =
    let inside : c.loop-port.port-index < length c.args.ports.now = c.loop-port-test.true in
    rw (← c.port-item.is) (holds_for_item (CanAccept c.args.id.0 c.args.taken) (port_changed_if c.args.id.0 Tx (λ (of : PortId). ring_pushed_out c.args.taken)) c.args.ports.now c.loop-port.ports c.loop-port.port-index c.port-item.result inside
    c.loop-port.invariant c.port-item.is c.requires)

pub loop-port-preserved : goal.loop-port-preserved
loop-port-preserved c =
    let inside : c.loop-port.port-index < length c.args.ports.now = c.loop-port-test.true in
    let more = map_over_more (port_changed_if c.args.id.0 Tx (λ (of : PortId). ring_pushed_out c.args.taken)) c.args.ports.now c.loop-port.ports c.loop-port.port-index c.port-item.result inside c.loop-port.invariant c.port-item.is in
    rw (c.accept_if.ensures, ← c.port-item.is) more
