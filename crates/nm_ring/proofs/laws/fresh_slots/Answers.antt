use Rattle.nm_ring.proofs.RingLaws.{fresh_slots}
use Rattle.nm_ring.proofs.laws.fresh_slots.Goals as goal

pub returns : goal.returns
returns c = fresh_slots
