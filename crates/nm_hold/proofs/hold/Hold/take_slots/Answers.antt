use Rattle.nm_hold.specs.Takes.{place_in}
use Rattle.nm_hold.proofs.Shown.{held_has_number, IsHold-stored}
use Rattle.nm_hold.proofs.hold.Hold.take_slots.Goals as goal

pub take_slots-requires-clause-held : goal.take_slots-requires-clause-held
take_slots-requires-clause-held c k below = held_has_number c.self.inside.cells c.self.inside.ports.tables (place_in c.args.run k) c.self.invariant.tied (rw (← c.self.view_is) at (c.requires.held k below))

pub returns-clause-hold : goal.returns-clause-hold
returns-clause-hold c = let whole = c.take_slots.ensures.whole in IsHold-stored _ _ whole.low whole.high whole.tables whole.once whole.tied
