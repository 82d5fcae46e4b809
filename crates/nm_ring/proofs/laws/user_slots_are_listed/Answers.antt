use Rattle.nm_ring.proofs.RingLaws.{listed_are_user_slots}
use Rattle.nm_ring.proofs.laws.user_slots_are_listed.Goals as goal

pub returns-clause-none_else : goal.returns-clause-none_else
returns-clause-none_else c = listed_are_user_slots
