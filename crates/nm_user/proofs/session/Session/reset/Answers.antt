use Rattle.std.proofs.Common.{◌≡◌, ◌∙◌, None, Some, refl, ap, sym, subst}
use Rattle.nm_types.specs.OwnPorts.{OwnState}
use Rattle.nm_types.specs.OwnSyncs.{own_after_reset}
use Rattle.nm_types.specs.OwnPorts.{refusal_at}
use Rattle.nm_port.specs.Regions.{SideState}
use Rattle.vale_fabric.specs.Fabrics.{knowing}
use Rattle.nm_user.specs.Sessions.{SessionState, IsThere, own_in, session_seen}
use Rattle.nm_user.proofs.After.{there-still}
use Rattle.nm_user.proofs.Plain.{may}
use Rattle.nm_user.proofs.Written.{region-kept, session-passed}
use Rattle.nm_user.proofs.Resets.{reset-asks, reset-there}
use Rattle.nm_user.proofs.session.Session.reset.Goals as goal

pub reset-requires-clause-may : goal.reset-requires-clause-may
reset-requires-clause-may g c =
    let refused = subst (λ (s : SessionState). refusal_at c.args.side c.args.port.0 s.own ≡ Some c.args.fault) (sym c.self.view_is) c.requires.refused in
    let fits = c.requires.fits in
    may c.self.invariant.there (reset-asks c.args.side c.args.port c.args.fault c.self.invariant.there refused fits)

pub invariant_of-self : goal.invariant_of-self
invariant_of-self g c = session-passed c.self.invariant c.reset.ensures.pass (there-still c.self.invariant.there c.in_err-reset.ensures.full.none)

pub invariant_of-self-2 : goal.invariant_of-self-2
invariant_of-self-2 g c =
    let s = session_seen c.self.inside in
    let refused = subst (λ (s : SessionState). refusal_at c.args.side c.args.port.0 s.own ≡ Some c.args.fault) (sym c.self.view_is) c.requires.refused in
    let fits = c.requires.fits in
    let asks = reset-asks {s = s} c.args.side c.args.port c.args.fault c.self.invariant.there refused fits in
    let own : c.reset-in-Some.new.self.own ≡ own_after_reset c.args.port.0 c.args.side s.own =
    ap (λ (side : SideState). side.own) c.reset-in-Some.ensures ∙ ap (own_after_reset c.args.port.0 c.args.side) (sym (ap own_in c.in-Some.is)) in
    record {
      pass = c.reset.ensures.pass;
      own = c.reset-in-Some.new.self;
      own_is = refl;
      region = region-kept c.self.inside c.in-Some.own c.reset-in-Some.new.self (own_after_reset c.args.port.0 c.args.side c.in-Some.own.own) c.self.invariant c.in-Some.is c.reset-in-Some.ensures;
      there = subst (λ (o : OwnState). IsThere None (record s { knows = knowing c.reset.new.pass; own = o })) (sym own) (reset-there {s = s} c.args.side c.args.port c.args.fault c.self.invariant.there asks c.in_ok-reset.ensures.made);
    }

pub returns-in_err-reset-clause-there : goal.returns-in_err-reset-clause-there
returns-in_err-reset-clause-there g c = (invariant_of-self g c).there

pub returns-clause-there : goal.returns-clause-there
returns-clause-there g c = (invariant_of-self-2 g c).there
