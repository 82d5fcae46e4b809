use Rattle.std.proofs.Common.{◌≡◌, [], ap, sym, subst, refl, ◌∙◌}
use Rattle.nm_types.specs.OwnPorts.{OwnState}
use Rattle.vale_fabric.specs.Fabrics.{knowing}
use Rattle.nm_user.specs.Sessions.{SessionState, session_seen, own_in}
use Rattle.nm_user.proofs.Plain.{may}
use Rattle.nm_user.proofs.LeavingPorts.{GoesOn, first-of, none-left, first-there, goes-on, fewer-left, left-all, leave-asks, left-as}
use Rattle.nm_user.proofs.session.Session.leave.Goals as goal

pub detach-requires : goal.detach-requires
detach-requires g c =
    let t = c.loop-port.session in
    first-there t.own c.in-Some.port (first-of t.own.ports c.in-Some.port (sym c.first_port.ensures.first ∙ c.in-Some.is))

pub loop-port-smaller : goal.loop-port-smaller
loop-port-smaller g c =
    let t = c.loop-port.session in
    let f = first-of t.own.ports c.in-Some.port (sym c.first_port.ensures.first ∙ c.in-Some.is) in
    fewer-left {s = t} f c.first_port.ensures.apart c.detach.ensures.detached

pub loop-port-preserved : goal.loop-port-preserved
loop-port-preserved g c =
    let t = c.loop-port.session in
    let f = first-of t.own.ports c.in-Some.port (sym c.first_port.ensures.first ∙ c.in-Some.is) in
    record {
      fabric = c.detach.ensures.detached.fabric ∙ c.loop-port.invariant.fabric;
      id = c.detach.ensures.detached.id_is ∙ c.loop-port.invariant.id;
      goes = goes-on c.args.self {t = t} f c.first_port.ensures.apart c.detach.ensures.detached c.loop-port.invariant.goes;
    }

pub leave-requires-clause-may : goal.leave-requires-clause-may
leave-requires-clause-may g c =
    let none = none-left c.loop-port.session.own.ports (sym c.first_port.ensures.first ∙ c.in_default.is) in
    may c.session.invariant.there
    (leave-asks c.session.inside.id c.session.invariant.there refl (subst (λ (u : SessionState). u.own.ports ≡ []) (sym c.session.view_is) none))

pub close-requires : goal.close-requires
close-requires g c =
    let none = none-left c.loop-port.session.own.ports (sym c.first_port.ensures.first ∙ c.in_default.is) in
    ap (λ (o : OwnState). o.ports) (sym (ap own_in c.in-Some-own.is)) ∙ subst (λ (u : SessionState). u.own.ports ≡ []) (sym c.session.view_is) none

pub returns-clause-left : goal.returns-clause-left
returns-clause-left g c =
    let t = session_seen c.session.inside in
    let none = none-left c.loop-port.session.own.ports (sym c.first_port.ensures.first ∙ c.in_default.is) in
    let id = ap (λ (u : SessionState). u.id) c.session.view_is ∙ c.loop-port.invariant.id in
    record {
      last = t;
      detached = left-all c.args.self t (subst (GoesOn c.args.self) (sym c.session.view_is) c.loop-port.invariant.goes) (subst (λ (u : SessionState). u.own.ports ≡ []) (sym c.session.view_is) none);
      left = left-as t (knowing c.leave.new.pass) c.session.inside.id c.args.self.id id c.leave.ensures.made;
    }
