use Rattle.nm_hold.proofs.Shown.{stored_shown}
use Rattle.nm_hold.proofs.hold.Hold.bytes.Goals as goal

pub returns-in-Some-clause-hold : goal.returns-in-Some-clause-hold
returns-in-Some-clause-hold c = rw (← c.self.view_is) (stored_shown c.self.inside c.self.invariant)

pub returns-in_default-clause-hold : goal.returns-in_default-clause-hold
returns-in_default-clause-hold c = rw (← c.self.view_is) (stored_shown c.self.inside c.self.invariant)
