-- What a user asks of a ring between two syncs.
use Rattle.std.specs.Prelude.{ℕ, if◌then◌else◌, nat_lt}
use Rattle.nm_types.specs.Positions.{RingState, dist}

-- how many slots there are from the head to before the tail: 0 if the head is no slot of the ring
abbrev pub space : RingState → ℕ
space ring = if nat_lt ring.head ring.size then dist ring.size ring.head ring.tail else 0
