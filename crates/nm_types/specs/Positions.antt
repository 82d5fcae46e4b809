-- Positions of a ring, after netmap(4): a ring has slots 0 to size - 1 that go round. The user writes
-- head and cur, the kernel side the tail; it keeps the last accepted head and the last tail.
use Rattle.std.specs.Prelude.{ℕ, ◌≡◌, ◌+◌, ◌-◌, ◌%◌, ◌<◌, ◌≤◌, Bool, ◌&&◌, nat_lt, List, map}
use Rattle.std.specs.List.{range_with_len}
use Rattle.nm_types.specs.Limits.{least_ring, most_ring}

pub record RingState : Type 0 where
  pub size : ℕ
  pub head : ℕ
  pub cur : ℕ
  pub tail : ℕ
  pub accepted_head : ℕ
  pub last_tail : ℕ

abbrev pub IsRingSize : ℕ → Type 0
IsRingSize size = (least_ring ≤ size) × (size ≤ most_ring)

-- how many steps it is from one position to another, going round
abbrev pub dist : ℕ → ℕ → ℕ → ℕ
dist size from to = (to + size - from) % size

-- the position some steps on, going round
abbrev pub step_on : ℕ → ℕ → ℕ → ℕ
step_on size at steps = (at + steps) % size

-- what the kernel side keeps true of a ring; head and cur may be any numbers
pub record IsRing (ring : RingState) : Type 0 where
  pub is_size : IsRingSize ring.size
  pub accepted : ring.accepted_head < ring.size
  pub within : ring.tail < ring.size
  pub one_tail : ring.tail ≡ ring.last_tail

-- an opened transmit ring has all its slots but one with the user, an opened receive ring none
abbrev pub opened_tx : ℕ → RingState
opened_tx size = record { size = size; head = 0; cur = 0; tail = size - 1; accepted_head = 0; last_tail = size - 1 }

abbrev pub opened_rx : ℕ → RingState
opened_rx size = record { size = size; head = 0; cur = 0; tail = 0; accepted_head = 0; last_tail = 0 }

-- positions that a sync accepts: seen from the accepted head the head is no farther than the tail,
-- and seen from the head so is the cur
pub record Fits (size accepted_head last_tail head cur : ℕ) : Type 0 where
  pub head_within : head < size
  pub cur_within : cur < size
  pub head_reach : dist size accepted_head head ≤ dist size accepted_head last_tail
  pub cur_reach : dist size head cur ≤ dist size head last_tail

abbrev pub FitsRing : RingState → ℕ → ℕ → Type 0
FitsRing ring head cur = Fits ring.size ring.accepted_head ring.last_tail head cur

-- a ring whose positions were accepted, with the tail that the sync left
abbrev pub advanced : RingState → ℕ → ℕ → ℕ → RingState
advanced ring head cur tail = record { size = ring.size; head = head; cur = cur; tail = tail; accepted_head = head; last_tail = tail }

-- the slots from a position on, so many, going round
abbrev pub slots_from : ℕ → ℕ → ℕ → List ℕ
slots_from size at count = map (step_on size at) (range_with_len 0 count)

-- the slots that the user may read and write, from the accepted head to before the tail
abbrev pub user_slots : RingState → List ℕ
user_slots ring = slots_from ring.size ring.accepted_head (dist ring.size ring.accepted_head ring.last_tail)

abbrev pub is_user_slot : RingState → ℕ → Bool
is_user_slot ring at = nat_lt at ring.size && nat_lt (dist ring.size ring.accepted_head at) (dist ring.size ring.accepted_head ring.last_tail)

abbrev pub IsUserSlot : RingState → ℕ → Type 0
IsUserSlot ring at = (at < ring.size) × (dist ring.size ring.accepted_head at < dist ring.size ring.accepted_head ring.last_tail)

-- the slots that a sync at this head pushes, from the accepted head to before it
abbrev pub pushed_slots : RingState → ℕ → List ℕ
pushed_slots ring head = slots_from ring.size ring.accepted_head (dist ring.size ring.accepted_head head)

-- the slots of frames that a pipe has not taken: behind the tail up to before the accepted head
abbrev pub pending_slots : RingState → List ℕ
pending_slots ring = slots_from ring.size (step_on ring.size ring.last_tail 1) (dist ring.size (step_on ring.size ring.last_tail 1) ring.accepted_head)

-- how many slots from a head on are neither the user's nor the one that the kernel side keeps
abbrev pub kernel_count : ℕ → ℕ → ℕ → ℕ
kernel_count size head tail = size - 1 - dist size head tail

-- the tail after a transmit sync that took everything: the slot before the head
abbrev pub tail_after_send : ℕ → ℕ → ℕ
tail_after_send size head = step_on size head (size - 1)
