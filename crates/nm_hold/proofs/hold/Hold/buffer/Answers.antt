use Rattle.nm_hold.proofs.Shown.{stored_shown}
use Rattle.nm_hold.proofs.hold.Hold.buffer.Goals as goal

pub returns-in-Some-clause-hold : goal.returns-in-Some-clause-hold
returns-in-Some-clause-hold c = rw (← c.self.view_is) (stored_shown c.self.inside c.self.invariant)

pub returns-in-None-clause-hold : goal.returns-in-None-clause-hold
returns-in-None-clause-hold c = rw (← c.self.view_is) (stored_shown c.self.inside c.self.invariant)
