use Rattle.vale_steps.proofs.TakenWants.{IsTaken, taken}
use Rattle.vale_steps.proofs.offers.take_next.Goals as goal

out : (c : goal.After-take_last-2) → IsTaken c.take_last-2.new.self.items c.take_last.new.self.items c.take_last-2.result c.take_last.result
out c =
    let o = c.offers.inside in
    taken o.rooms.items c.take_last-2.new.self.items o.wants.items c.take_last.new.self.items c.take_last-2.result c.take_last.result
    c.offers.invariant.rooms c.offers.invariant.few c.take_last-2.ensures.items c.take_last.ensures.items

pub invariant_of-offers : goal.invariant_of-offers
invariant_of-offers c = record { rooms = (out c).left; few = (out c).others }

pub returns-clause-few : goal.returns-clause-few
returns-clause-few c = (out c).few
