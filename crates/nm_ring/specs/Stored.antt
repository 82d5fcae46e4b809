-- The fields of a ring, which are its positions.
use Rattle.nm_types.specs.Positions.{RingState, IsRing}
use Rattle.nm_ring.specs.declared.ring.Ring.TheInside.{Inside}

abbrev pub seen : Inside → RingState
seen r = record { size = r.size; head = r.head; cur = r.cur; tail = r.tail; accepted_head = r.accepted_head; last_tail = r.last_tail }

abbrev pub fields : RingState → Inside
fields r = record { size = r.size; head = r.head; cur = r.cur; tail = r.tail; accepted_head = r.accepted_head; last_tail = r.last_tail }

abbrev pub IsStored : Inside → Type 0
IsStored r = IsRing (seen r)
