-- Laws of a ring's positions, on which the layers above lean.
use Rattle.std.specs.Prelude.{ℕ, ◌≡◌, ◌+◌, ◌-◌, ◌<◌, ◌≤◌, [], ◌++◌, length, take, drop, Some, slice_get, nat_eq}
use Rattle.std.specs.List.{range_with_len, IsDistinct}
use Rattle.nm_types.specs.Positions.{RingState, IsRingSize, IsRing, FitsRing, dist, step_on, advanced, kernel_count, tail_after_send, opened_tx, opened_rx, user_slots, IsUserSlot, pushed_slots, pending_slots}
use Rattle.nm_types.specs.Reset.{reset_positions}

-- once round is where one began, steps add up, and a distance is the number of steps that lead there
abbrev pub StepsGoRound : Type 0
StepsGoRound = (size at : ℕ) → at < size → step_on size at size ≡ at

abbrev pub StepsAddUp : Type 0
StepsAddUp = (size at k more : ℕ) → step_on size (step_on size at k) more ≡ step_on size at (k + more)

abbrev pub DistanceLeadsThere : Type 0
DistanceLeadsThere = (size from to : ℕ) → from < size → to < size → step_on size from (dist size from to) ≡ to

abbrev pub DistanceCountsSteps : Type 0
DistanceCountsSteps = (size at k : ℕ) → at < size → k < size → dist size at (step_on size at k) ≡ k

-- the ring after an accepted sync whose tail went on by so many slots
abbrev pub ring_synced : RingState → ℕ → ℕ → ℕ → RingState
ring_synced ring head cur moved = advanced ring head cur (step_on ring.size ring.last_tail moved)

pub record FitsAgain (ring : RingState) : Type 0 where
  pub is_ring : IsRing ring
  pub fits : FitsRing ring ring.head ring.cur

-- an accepted sync leaves positions that fit, wherever the tail goes within the kernel side's slots:
-- on by all of them after a send, by the frames taken on a pipe, by the frames given on a receive ring
abbrev pub PositionsFitAfterSync : Type 0
PositionsFitAfterSync = (ring : RingState) (head cur moved : ℕ) → IsRing ring → FitsRing ring head cur
    → moved ≤ kernel_count ring.size head ring.last_tail → FitsAgain (ring_synced ring head cur moved)

abbrev pub PositionsFitAfterReset : Type 0
PositionsFitAfterReset = (ring : RingState) → IsRing ring → FitsAgain (reset_positions ring)

abbrev pub PositionsFitAtOpening : Type 0
PositionsFitAtOpening = (size : ℕ) → IsRingSize size → FitsAgain (opened_tx size) × FitsAgain (opened_rx size)

-- a send takes all that is pushed: the tail is then the slot before the head
abbrev pub SendTakesAll : Type 0
SendTakesAll = (size head tail : ℕ) → head < size → tail < size → step_on size tail (kernel_count size head tail) ≡ tail_after_send size head

-- what the tail passes is no longer the kernel side's
abbrev pub TailGivesBack : Type 0
TailGivesBack = (size head tail moved : ℕ) → head < size → tail < size → moved ≤ kernel_count size head tail
    → kernel_count size head (step_on size tail moved) ≡ kernel_count size head tail - moved

-- the frames that a pipe has not taken are as many as the positions say
abbrev pub PendingAreCounted : Type 0
PendingAreCounted = (ring : RingState) → IsRing ring → length (pending_slots ring) ≡ ring.size - 1 - dist ring.size ring.accepted_head ring.last_tail

-- a sync offers the frames that are still pending, and then those that it pushes
abbrev pub PushedBecomePending : Type 0
PushedBecomePending = (ring : RingState) (head cur : ℕ) → IsRing ring → FitsRing ring head cur
    → pending_slots (advanced ring head cur ring.last_tail) ≡ pending_slots ring ++ pushed_slots ring head

-- the frames taken are the first ones pending
abbrev pub TakenLeavePending : Type 0
TakenLeavePending = (ring : RingState) (head cur moved : ℕ) → IsRing ring → FitsRing ring head cur → moved ≤ kernel_count ring.size head ring.last_tail
    → pending_slots (ring_synced ring head cur moved) ≡ drop moved (pending_slots (advanced ring head cur ring.last_tail))

abbrev pub FreshSlots : Type 0
FreshSlots = (size : ℕ) → IsRingSize size → (user_slots (opened_tx size) ≡ range_with_len 0 (size - 1)) × (user_slots (opened_rx size) ≡ [])

-- pushed are the first of the user's slots
abbrev pub PushedAreUserSlots : Type 0
PushedAreUserSlots = (ring : RingState) (head cur : ℕ) → FitsRing ring head cur
    → pushed_slots ring head ≡ take (dist ring.size ring.accepted_head head) (user_slots ring)

-- a user slot stands in the list of them at its distance from the accepted head
abbrev pub UserSlotsAreListed : Type 0
UserSlotsAreListed = (ring : RingState) (at : ℕ) → IsRing ring → IsUserSlot ring at
    → slice_get (user_slots ring) (dist ring.size ring.accepted_head at) ≡ Some at

abbrev pub ListedAreUserSlots : Type 0
ListedAreUserSlots = (ring : RingState) (k at : ℕ) → IsRing ring → slice_get (user_slots ring) k ≡ Some at
    → IsUserSlot ring at × (dist ring.size ring.accepted_head at ≡ k)

-- no slot stands twice among the user's or among those pushed
abbrev pub UserSlotsAreDistinct : Type 0
UserSlotsAreDistinct = (ring : RingState) → IsRing ring → IsDistinct nat_eq (user_slots ring)

abbrev pub PushedSlotsAreDistinct : Type 0
PushedSlotsAreDistinct = (ring : RingState) (head cur : ℕ) → IsRing ring → FitsRing ring head cur → IsDistinct nat_eq (pushed_slots ring head)
