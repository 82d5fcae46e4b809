-- The laws of positions, from how steps add up.
use Rattle.std.proofs.Common.{ℕ, zero, suc, ◌++◌, ◌≡◌, ◌≤◌, ◌<◌, ◌+◌, ◌-◌, ◌⊎◌, inl, inr, map, drop, slice_get, Some, None, refl, sym, ◌∙◌, ap, arith}
use Rattle.std.specs.List.{range_with_len}
use Rattle.std.proofs.lemmas.Bool.{cases_lt}
use Rattle.std.proofs.lemmas.List.FromFn.{take-map-range_with_len}
use Rattle.nm_types.specs.Positions.{IsRingSize, Fits, dist, step_on, slots_from, kernel_count, user_slots}
use Rattle.nm_types.proofs.RingSteps.{dist-below, step_on-below, dist-cases, step_on-cases, dist-step_on, dist-add, step_on-dist, step_on-size, step_on-step_on, dist_self, dist_behind, dist_split, slots_from-add, length-slots_from, drop-slots_from, slots_from-fresh, slots_from-distinct}
use Rattle.nm_ring.specs.Laws.{StepsGoRound, StepsAddUp, DistanceLeadsThere, DistanceCountsSteps, PositionsFitAfterSync, PositionsFitAfterReset, PositionsFitAtOpening, SendTakesAll, TailGivesBack, PendingAreCounted, PushedBecomePending, TakenLeavePending, FreshSlots, PushedAreUserSlots, UserSlotsAreListed, ListedAreUserSlots, UserSlotsAreDistinct, PushedSlotsAreDistinct}

pub steps_go_round : StepsGoRound
steps_go_round size at h = step_on-size size at h

pub steps_add_up : StepsAddUp
steps_add_up size at k more = step_on-step_on size at k more

pub distance_leads_there : DistanceLeadsThere
distance_leads_there size from to f t = step_on-dist size from to f t

pub distance_counts_steps : DistanceCountsSteps
distance_counts_steps size at k a h = dist-step_on size at k a h

-- positions fit where the head is the accepted one and the cur is in reach
fits_here : (size head tail cur : ℕ) → head < size → cur < size → dist size head cur ≤ dist size head tail → Fits size head tail head cur
fits_here size head tail cur h c reach =
    let none = dist_self size head h in
    record { head_within = h; cur_within = c; head_reach = (rw none (omega arith)); cur_reach = reach }

pub positions_fit_after_sync : PositionsFitAfterSync
positions_fit_after_sync ring head cur moved is_ring fits few =
    let below = dist-below ring.size head ring.last_tail fits.head_within in
    let tail : ring.last_tail < ring.size = omega arith in
    let farther : dist ring.size head (step_on ring.size ring.last_tail moved) ≡ dist ring.size head ring.last_tail + moved =
    dist-add ring.size head ring.last_tail moved fits.head_within tail (omega arith) in
    let reach : dist ring.size head cur ≤ dist ring.size head (step_on ring.size ring.last_tail moved) = rw farther (omega arith) in
    record {
      is_ring = record { is_size = is_ring.is_size; accepted = fits.head_within; within = step_on-below ring.size ring.last_tail moved tail; one_tail = refl };
      fits = fits_here ring.size head (step_on ring.size ring.last_tail moved) cur fits.head_within fits.cur_within reach;
    }

pub positions_fit_after_reset : PositionsFitAfterReset
positions_fit_after_reset ring is_ring =
    let none = dist_self ring.size ring.accepted_head is_ring.accepted in
    let reach : dist ring.size ring.accepted_head ring.accepted_head ≤ dist ring.size ring.accepted_head ring.last_tail = rw none (omega arith) in
    record {
      is_ring = record { is_size = is_ring.is_size; accepted = is_ring.accepted; within = (omega arith); one_tail = refl };
      fits = fits_here ring.size ring.accepted_head ring.last_tail ring.accepted_head is_ring.accepted is_ring.accepted reach;
    }

opened_fits : (size tail : ℕ) → IsRingSize size → tail < size → Fits size 0 tail 0 0
opened_fits size tail is_size t =
    let first : 0 < size = omega arith in
    let none = dist_self size 0 first in
    fits_here size 0 tail 0 first first (rw none (omega arith))

pub positions_fit_at_opening : PositionsFitAtOpening
positions_fit_at_opening size is_size = (
  record { is_ring = record { is_size = is_size; accepted = (omega arith); within = (omega arith); one_tail = refl }; fits = opened_fits size (size - 1) is_size (omega arith) },
  record { is_ring = record { is_size = is_size; accepted = (omega arith); within = (omega arith); one_tail = refl }; fits = opened_fits size 0 is_size (omega arith) },
)

pub send_takes_all : SendTakesAll
send_takes_all size head tail h t =
    let ahead = dist-cases size head tail h t in
    let below = dist-below size head tail h in
    let last = step_on-cases size head (size - 1) h (omega arith) in
    let last_below = step_on-below size head (size - 1) h in
    let stepped = step_on-cases size tail (kernel_count size head tail) t (omega arith) in
    let stepped_below = step_on-below size tail (kernel_count size head tail) t in
    found (step_on size tail (kernel_count size head tail)) (step_on size head (size - 1)) (dist size head tail) size head tail h t below last_below stepped_below ahead last stepped
  where
    found : (s e d size head tail : ℕ) → head < size → tail < size → d < size → e < size → s < size → (head + d ≡ tail) ⊎ (head + d ≡ tail + size)
        → (e ≡ head + (size - 1)) ⊎ (e + size ≡ head + (size - 1)) → (s ≡ tail + (size - 1 - d)) ⊎ (s + size ≡ tail + (size - 1 - d)) → s ≡ e
    found s e d size head tail h t below last_below stepped_below ahead last stepped = grind arith

pub tail_gives_back : TailGivesBack
tail_gives_back size head tail moved h t few =
    let below = dist-below size head tail h in
    let farther : dist size head (step_on size tail moved) ≡ dist size head tail + moved = dist-add size head tail moved h t (omega arith) in
    rw farther (omega arith)

pub pending_are_counted : PendingAreCounted
pending_are_counted ring is_ring =
    let tail : ring.last_tail < ring.size = omega arith in
    length-slots_from ring.size (step_on ring.size ring.last_tail 1) (dist ring.size (step_on ring.size ring.last_tail 1) ring.accepted_head)
    ∙ dist_behind ring.size ring.accepted_head ring.last_tail is_ring.accepted tail

pushed_become_pending_at : (size accepted head tail : ℕ) → accepted < size → head < size → tail < size → dist size accepted head ≤ dist size accepted tail
    → slots_from size (step_on size tail 1) (dist size (step_on size tail 1) head)
    ≡ slots_from size (step_on size tail 1) (dist size (step_on size tail 1) accepted) ++ slots_from size accepted (dist size accepted head)
pushed_become_pending_at size accepted head tail a h t reach =
    let next = step_on-below size tail 1 t in
    let old = dist_behind size accepted tail a t in
    let new = dist_behind size head tail h t in
    let split = dist_split size accepted head tail a h t reach in
    let below = dist-below size accepted tail a in
    let sums : dist size (step_on size tail 1) head ≡ dist size (step_on size tail 1) accepted + dist size accepted head =
    counted (dist size (step_on size tail 1) head) (dist size (step_on size tail 1) accepted) (dist size accepted head) (dist size head tail) (dist size accepted tail) size new old split below in
    let there = step_on-dist size (step_on size tail 1) accepted next a in
    let cut = slots_from-add size (step_on size tail 1) (dist size (step_on size tail 1) accepted) (dist size accepted head) in
    let whole = ap (slots_from size (step_on size tail 1)) sums in
    let moved = ap (λ (x : ℕ). slots_from size (step_on size tail 1) (dist size (step_on size tail 1) accepted) ++ slots_from size x (dist size accepted head)) there in
    whole ∙ (cut ∙ moved)
  where
    counted : (e d k r f size : ℕ) → e ≡ size - 1 - r → d ≡ size - 1 - f → k + r ≡ f → f < size → e ≡ d + k
    counted e d k r f size new old split below = omega arith

pub pushed_become_pending : PushedBecomePending
pushed_become_pending ring head cur is_ring fits =
    let tail : ring.last_tail < ring.size = omega arith in
    pushed_become_pending_at ring.size ring.accepted_head head ring.last_tail is_ring.accepted fits.head_within tail fits.head_reach

taken_leave_pending_at : (size head tail moved : ℕ) → head < size → tail < size → moved ≤ kernel_count size head tail
    → slots_from size (step_on size (step_on size tail moved) 1) (dist size (step_on size (step_on size tail moved) 1) head)
    ≡ drop moved (slots_from size (step_on size tail 1) (dist size (step_on size tail 1) head))
taken_leave_pending_at size head tail moved h t few =
    let old = dist_behind size head tail h t in
    let new = dist_behind size head (step_on size tail moved) h (step_on-below size tail moved t) in
    let back = tail_gives_back size head tail moved h t few in
    let count : dist size (step_on size (step_on size tail moved) 1) head ≡ dist size (step_on size tail 1) head - moved = new ∙ (back ∙ ap (λ (x : ℕ). x - moved) (sym old)) in
    let one = step_on-step_on size tail moved 1 in
    let other = step_on-step_on size tail 1 moved in
    let same : moved + 1 ≡ 1 + moved = omega arith in
    let start : step_on size (step_on size tail moved) 1 ≡ step_on size (step_on size tail 1) moved = one ∙ (ap (step_on size tail) same ∙ sym other) in
    let room : moved ≤ dist size (step_on size tail 1) head = rw old few in
    let dropped = drop-slots_from size (step_on size tail 1) moved (dist size (step_on size tail 1) head) room in
    ap (slots_from size (step_on size (step_on size tail moved) 1)) count
    ∙ (ap (λ (x : ℕ). slots_from size x (dist size (step_on size tail 1) head - moved)) start ∙ sym dropped)

pub taken_leave_pending : TakenLeavePending
taken_leave_pending ring head cur moved is_ring fits few =
    let tail : ring.last_tail < ring.size = omega arith in
    taken_leave_pending_at ring.size head ring.last_tail moved fits.head_within tail few

pub fresh_slots : FreshSlots
fresh_slots size is_size =
    let first : 0 < size = omega arith in
    let last : size - 1 < size = omega arith in
    let there = dist-cases size 0 (size - 1) first last in
    let below = dist-below size 0 (size - 1) first in
    let most : dist size 0 (size - 1) ≡ size - 1 = farthest (dist size 0 (size - 1)) size below there in
    let none = dist_self size 0 first in
    (ap (slots_from size 0) most ∙ slots_from-fresh size (size - 1) (omega arith), ap (slots_from size 0) none)
  where
    farthest : (d size : ℕ) → d < size → (0 + d ≡ size - 1) ⊎ (0 + d ≡ size - 1 + size) → d ≡ size - 1
    farthest d size below there = grind arith

pub pushed_are_user_slots : PushedAreUserSlots
pushed_are_user_slots ring head cur fits =
    sym (take-map-range_with_len (step_on ring.size ring.accepted_head) 0 (dist ring.size ring.accepted_head ring.last_tail) (dist ring.size ring.accepted_head head) fits.head_reach)

slice_get-slots : {X : Type 0} (f : ℕ → X) → (start count k : ℕ) → k < count → slice_get (map f (range_with_len start count)) k ≡ Some (f (start + k))
slice_get-slots f start zero k h = absurd (omega arith)
slice_get-slots f start (suc count) zero h = let same : start + 0 ≡ start = omega arith in rw same refl
slice_get-slots f start (suc count) (suc k) h =
    let rest = slice_get-slots f (start + 1) count k (omega arith) in
    let same : start + suc k ≡ start + 1 + k = omega arith in
    rw same rest

slice_get-no_slot : {X : Type 0} (f : ℕ → X) → (start count k : ℕ) → count ≤ k → slice_get (map f (range_with_len start count)) k ≡ None
slice_get-no_slot f start zero k h = refl
slice_get-no_slot f start (suc count) zero h = absurd (omega arith)
slice_get-no_slot f start (suc count) (suc k) h = slice_get-no_slot f (start + 1) count k (omega arith)

pub user_slots_are_listed : UserSlotsAreListed
user_slots_are_listed ring at is_ring user =
    let here = slice_get-slots (step_on ring.size ring.accepted_head) 0 (dist ring.size ring.accepted_head ring.last_tail) (dist ring.size ring.accepted_head at) user.1 in
    let there = step_on-dist ring.size ring.accepted_head at is_ring.accepted user.0 in
    let same : 0 + dist ring.size ring.accepted_head at ≡ dist ring.size ring.accepted_head at = omega arith in
    here ∙ ap Some (ap (step_on ring.size ring.accepted_head) same ∙ there)

pub listed_are_user_slots : ListedAreUserSlots
listed_are_user_slots ring k at is_ring listed = elim (cases_lt k (dist ring.size ring.accepted_head ring.last_tail)) [
  | inl less ↦
      let here = slice_get-slots (step_on ring.size ring.accepted_head) 0 (dist ring.size ring.accepted_head ring.last_tail) k less in
      let same : 0 + k ≡ k = omega arith in
      let is_at : step_on ring.size ring.accepted_head k ≡ at = (let found : slice_get (user_slots ring) k ≡ Some (step_on ring.size ring.accepted_head k) = rw same at here in cc) in
      let below = dist-below ring.size ring.accepted_head ring.last_tail is_ring.accepted in
      let count : dist ring.size ring.accepted_head (step_on ring.size ring.accepted_head k) ≡ k = dist-step_on ring.size ring.accepted_head k is_ring.accepted (omega arith) in
      let count_at : dist ring.size ring.accepted_head at ≡ k = rw is_at at count in
      let within = step_on-below ring.size ring.accepted_head k is_ring.accepted in
      let within_at : at < ring.size = rw is_at at within in
      ((within_at, rw count_at less), count_at)
  | inr over ↦ (let none = slice_get-no_slot (step_on ring.size ring.accepted_head) 0 (dist ring.size ring.accepted_head ring.last_tail) k over in cc)
]

pub ruleset ring_laws = (steps_go_round, steps_add_up, distance_leads_there, distance_counts_steps, positions_fit_after_sync, positions_fit_after_reset, positions_fit_at_opening, send_takes_all, tail_gives_back, pending_are_counted, pushed_become_pending, taken_leave_pending, fresh_slots, pushed_are_user_slots, user_slots_are_listed, listed_are_user_slots)

-- what counts the slots that are pending
pub ruleset counts = (dist-below, pending_are_counted)

pub user_slots_are_distinct : UserSlotsAreDistinct
user_slots_are_distinct ring is_ring =
    let below = dist-below ring.size ring.accepted_head ring.last_tail is_ring.accepted in
    slots_from-distinct ring.size ring.accepted_head (dist ring.size ring.accepted_head ring.last_tail) is_ring.accepted (omega arith)

pub pushed_slots_are_distinct : PushedSlotsAreDistinct
pushed_slots_are_distinct ring head cur is_ring fits =
    let below = dist-below ring.size ring.accepted_head head is_ring.accepted in
    slots_from-distinct ring.size ring.accepted_head (dist ring.size ring.accepted_head head) is_ring.accepted (omega arith)

pub ruleset distinct_laws = (user_slots_are_distinct, pushed_slots_are_distinct)
