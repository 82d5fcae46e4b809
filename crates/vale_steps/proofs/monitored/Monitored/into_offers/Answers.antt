use Rattle.std.proofs.Common.{◌∙◌, ap, subst, sym, length, ◌≤◌, map}
use Rattle.std.proofs.lemmas.List.{length-map}
use Rattle.vale_batch.specs.Wants.{wanted}
use Rattle.vale_steps.specs.Monitored.{offers_to}
use Rattle.vale_steps.proofs.MonitoredWants.{reverse-one}
use Rattle.vale_steps.proofs.monitored.Monitored.into_offers.Goals as goal

pub returns-clause-offers : goal.returns-clause-offers
returns-clause-offers c =
    let m = c.self.inside in
    let few : length (map wanted m.wants.items) ≤ 1 = subst (λ k. k ≤ 1) (sym (length-map m.wants.items wanted)) c.self.invariant.few in
    ap (offers_to c.args.entry c.args.session) (reverse-one (map wanted m.wants.items) few ∙ c.self.view_is)

pub returns-clause-to : goal.returns-clause-to
returns-clause-to c = rw (← c.self.view_is) (c.from.ensures ∙ c.self.invariant.to)

pub invariant_of-offers : goal.invariant_of-offers
invariant_of-offers c = record { rooms = c.self.invariant.rooms; few = c.self.invariant.small }
