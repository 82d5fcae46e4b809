use Rattle.std.proofs.Common.{◌≡◌, ◌∙◌, [], map, refl, ap}
use Rattle.std.specs.Vec.{with_items}
use Rattle.nm_types.specs.declared.id.PortId.{PortId}
use Rattle.nm_types.specs.declared.id.Side.TheVariants.{Rx}
use Rattle.nm_port.specs.Own.{own_seen, port_changed_if}
use Rattle.nm_port.specs.Receives.{ring_given_back}
use Rattle.nm_own.proofs.KeptPorts.{changed_over}
use Rattle.nm_own.proofs.OnePort.{kept_with}
use Rattle.nm_own.proofs.GivenBack.{can_give_back, changes}
use Rattle.nm_own.proofs.Lent.{its, taken, around, now_back, ports_accepted, received_is_seen, received_of}
use Rattle.nm_own.proofs.lend.LentBack.received.Goals as goal

pub accept_backs-requires : goal.accept_backs-requires
accept_backs-requires c =
    let x = c.requires.1.1 in
    let w = its c.requires.0 c.requires.1.0 c.args.self x in
    rw c.deref_mut.ensures.value (can_give_back w.was c.args.self.lent.ports.items c.args.self.port w.p x.r w.passes)

-- the ports once the push is accepted
accepted : (c : goal.After-ports-2-1) → (with_items c.args.self.lent.ports c.accept_backs.new.ports).items ≡ map (port_changed_if c.args.self.port.0 Rx (λ (of : PortId). ring_given_back)) c.args.self.lent.ports.items
accepted c = changed_over c.args.self.lent.ports (port_changed_if c.args.self.port.0 Rx (λ (of : PortId). ring_given_back)) c.accept_backs.new.ports (rw c.deref_mut.ensures.value at c.accept_backs.ensures)

pub invariant_of-result : goal.invariant_of-result
invariant_of-result c =
    let s = c.requires.0 in
    let lent = c.requires.1.0 in
    let l = c.args.self in
    let x = c.requires.1.1 in
    let w = its s lent l x in
    kept_with (record { hold = w.was; ports = l.lent.ports; marks = l.lent.marks }) _ l.port w.p (now_back s lent l x) w.kept w.passes.has.same_id (around s lent l x)
    (changes w.was l.lent.ports.items l.port w.p x.r w.passes w.exchanged l.lent.hold w.exchange [] lent (taken s lent l x) w.kept.whole) (accepted c ∙ ports_accepted s lent l x) refl

pub returns-clause-own : goal.returns-clause-own
returns-clause-own c s lent x = ap (own_seen c.args.self.lent.hold) (accepted c) ∙ received_is_seen s lent c.args.self x

pub returns-clause-region : goal.returns-clause-region
returns-clause-region c s lent x region of = received_of s lent c.args.self x region of
