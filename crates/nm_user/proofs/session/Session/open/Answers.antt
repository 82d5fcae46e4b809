use Rattle.std.proofs.Common.{◌≡◌, sym, ap, subst, ◌∙◌, arith, Result, Err, IfErr}
use Rattle.std.proofs.lemmas.Result.{err_from_is_err_and}
use Rattle.nm_types.specs.declared.fault.OpenFault.{OpenFault}
use Rattle.nm_types.specs.declared.id.PortId.{PortId}
use Rattle.vale_entry.specs.declared.entry.Reply.TheVariants.{Opened}
use Rattle.vale_fabric.specs.Fabrics.{fixed_in, knowing}
use Rattle.nm_user.specs.Sessions.{SessionState, session_seen, own_in}
use Rattle.nm_user.specs.Calls.{Made}
use Rattle.nm_user.specs.Ports.{OpensNot}
use Rattle.nm_user.specs.Opening.{IsReady}
use Rattle.nm_user.proofs.Plain.{may}
use Rattle.nm_user.proofs.Written.{session-passed}
use Rattle.nm_user.proofs.Opened.{IsAdded, MayOpen, opening, open-asks, can-add, is-added, opened-region, unopened-there, unopened}
use Rattle.nm_user.proofs.session.Session.open.Given as given
use Rattle.nm_user.proofs.session.Session.open.Goals.{In_ok-new}
use Rattle.nm_user.proofs.session.Session.open.Goals as goal

-- the session may ask for it, and has all memory for it
may-open : (g : given.Over) (c : In_ok-new g) → MayOpen (session_seen c.self.inside) c.args.name.now c.args.tx c.args.rx c.args.extra
may-open g c =
    open-asks {s = session_seen c.self.inside} c.args.name.now c.args.tx c.args.rx c.args.extra c.self.invariant.there c.in_ok-new.ensures.named
    (omega (arith, c.ranges.tx)) (omega (arith, c.ranges.rx)) (omega (arith, c.ranges.extra))

ready : (g : given.Over) (c : In_ok-new g) → IsReady (session_seen c.self.inside).own c.args.name.now c.args.tx c.args.rx c.args.extra c.in_ok-new.new
ready g c = subst (λ (t : SessionState). IsReady t.own c.args.name.now c.args.tx c.args.rx c.args.extra c.in_ok-new.new) (sym c.self.view_is) c.in_ok-new.ensures.ready

pub open-requires-clause-may : goal.open-requires-clause-may
open-requires-clause-may g c = may c.self.invariant.there (may-open g (goal.at.open-requires-clause-may g c).In_ok-new)

pub invariant_of-self : goal.invariant_of-self
invariant_of-self g c =
    session-passed c.self.invariant c.open.ensures.pass
    (unopened-there (session_seen c.self.inside) (knowing c.open.new.pass) c.args.name.now c.args.tx c.args.rx c.args.extra c.self.invariant.there (may-open g (goal.at.invariant_of-self g c).In_ok-new)
    c.in_err-opened.field-0.0 c.in_err-opened.ensures.unopened)

pub returns-in_err-opened-clause-unopened : goal.returns-in_err-opened-clause-unopened
returns-in_err-opened-clause-unopened g c =
    let s = session_seen c.self.inside in
    let w = knowing c.open.new.pass in
    let p = err_from_is_err_and c.from_residual-in_err-opened.result c.from_residual-in_err-opened.ensures.1 in
    let is : c.from_residual-in_err-opened.result ≡ Err c.in_err-opened.field-0.0 = p.1 ∙ ap (λ (fault : OpenFault). Err fault) p.2 in
    let not = unopened s w c.args.name.now c.args.tx c.args.rx c.args.extra c.in_err-opened.field-0.0 c.in_err-opened.ensures.unopened in
    subst (λ (u : SessionState). IfErr c.from_residual-in_err-opened.result (OpensNot u (record s { knows = w }) (opening u c.args.name.now c.args.tx c.args.rx c.args.extra))) c.self.view_is
    (subst (λ (r : Result PortId OpenFault). IfErr r (OpensNot s (record s { knows = w }) (opening s c.args.name.now c.args.tx c.args.rx c.args.extra))) (sym is) not)

pub add-requires : goal.add-requires
add-requires g c =
    let at = (goal.at.add-requires g c).In_ok-new in
    let e = c.in_ok-opened.ensures in
    can-add (session_seen c.self.inside) (knowing c.open.new.pass) c.args.name.now c.args.tx c.args.rx c.args.extra c.self.invariant.there (may-open g at) e.made c.in_ok-opened.opened e.port e.hands
    c.self.inside.own c.in_ok-new.new c.self.invariant.own c.self.invariant.own_is (ap own_in (sym c.self.invariant.own_is)) (ready g at)

-- the port is added
added : (g : given.Over) (c : goal.After-add g) → MayOpen (session_seen c.self.inside) c.args.name.now c.args.tx c.args.rx c.args.extra → IsReady (session_seen c.self.inside).own c.args.name.now c.args.tx c.args.rx c.args.extra c.in_ok-new.new
    → IsAdded (session_seen c.self.inside) (knowing c.open.new.pass) c.add.new.own (opening (session_seen c.self.inside) c.args.name.now c.args.tx c.args.rx c.args.extra)
added g c may ready =
    let e = c.in_ok-opened.ensures in
    is-added (session_seen c.self.inside) (knowing c.open.new.pass) c.args.name.now c.args.tx c.args.rx c.args.extra c.self.invariant.there may e.made c.in_ok-opened.opened e.port e.hands
    c.self.inside.own c.add.new.own c.in_ok-new.new c.self.invariant.own c.self.invariant.own_is (ap own_in (sym c.self.invariant.own_is)) ready c.add.ensures.own

pub invariant_of-self-2 : goal.invariant_of-self-2
invariant_of-self-2 g c =
    let at = (goal.at.invariant_of-self-2 g c).In_ok-new in
    let k = added g c (may-open g at) (ready g at) in
    let region = (fixed_in c.self.inside.fabric.now).region in
    record {
      pass = c.open.ensures.pass;
      own = k.side;
      own_is = k.side_is;
      region = opened-region region c.self.inside.own c.add.new.own c.self.invariant.own k.side c.in_ok-opened.opened.tx.items c.in_ok-opened.opened.extra.items c.self.invariant.own_is k.side_is c.self.invariant.region
          (c.add.ensures.region region) c.in_ok-opened.ensures.hands.region_is;
      there = k.there;
    }

pub returns-clause-made : goal.returns-clause-made
returns-clause-made g c =
    let at = (goal.at.returns-clause-made g c).In_ok-new in
    subst (λ (u : SessionState). Made u (record (session_seen c.self.inside) { knows = knowing c.open.new.pass; own = own_in c.add.new.own }) (opening u c.args.name.now c.args.tx c.args.rx c.args.extra) Opened) c.self.view_is
    (added g c (may-open g at) (ready g at)).made
