-- The slots that a transmit sync offers: after its exchange each names the buffer in its place, and those
-- that are not taken stay pushed.
use Rattle.std.proofs.Common.{ℕ, zero, suc, ◌+◌, ◌-◌, ◌<◌, ◌≤◌, ◌≡◌, ◌==◌, List, [], ◌∷◌, ◌++◌, map, fold, set, drop, length, get_or, Some, None, refl, sym, ◌∙◌, ap, subst, arith, Bool}
use Rattle.std.specs.Prelude.{find}
use Rattle.std.specs.List.{AllByRecursion as Each}
use Rattle.std.proofs.lemmas.List.{length-set}
use Rattle.nm_types.specs.declared.id.Side.TheVariants.{Tx}
use Rattle.nm_types.specs.Positions.{RingState, IsRing, FitsRing, dist, step_on, slots_from, pending_slots, pushed_slots}
use Rattle.nm_types.specs.Slots.{SlotState, Pushed, slot_after_push}
use Rattle.nm_types.specs.SyncChecks.{begun_after, EachPasses}
use Rattle.nm_types.specs.OwnPorts.{OwnRing, OwnPort, OwnState, blank_slot, buffer_in, slot_in, named_of, port_with_id, pushed_at, pushed_in, is_whole, refusal_in}
use Rattle.nm_types.specs.OwnSyncs.{accepted, with_push_cleared, slots_after_push}
use Rattle.nm_types.proofs.RingSteps.{dist-below, step_on-below, step_on-dist, dist-step_on, dist_behind, step_on-step_on, slots_from-add, drop-slots_from}
use Rattle.std.proofs.lemmas.Bool.{eqb-true}
use Rattle.vale_entry.proofs.ListLaws.{place-of}
use Rattle.vale_entry.proofs.Counting.{count_of}
use Rattle.vale_entry.proofs.Each.{each-append, each-unmap}
use Rattle.vale_own.specs.Side.{buffers_on, IsPending, IsTxRing, IsSound}
use Rattle.vale_own.proofs.Trading.{ring_renamed, get-mapped}
use Rattle.vale_own.proofs.SidePlaces.{each-slot, tx-sound}
use Rattle.vale_own.proofs.SideExchange.{traded, trades, sound-port, sync-passes, each-holds}
use Rattle.vale_own.proofs.SideSound.{renamed-tx}

-- a ring whose head is accepted
module _ (ring : RingState) (is : IsRing ring) (fits-in : FitsRing ring ring.head ring.cur) where
  abbrev pub first : ℕ
  first = step_on ring.size ring.last_tail 1

  abbrev pub total : ℕ
  total = dist ring.size first ring.accepted_head + dist ring.size ring.accepted_head ring.head

  tail-in : ring.last_tail < ring.size
  tail-in = let w = is.within in let o = is.one_tail in omega arith

  pub first-in : first < ring.size
  first-in = step_on-below ring.size ring.last_tail 1 tail-in

  pub total-few : total < ring.size
  total-few =
      let behind = dist_behind ring.size ring.accepted_head ring.last_tail is.accepted tail-in in
      let below = dist-below ring.size ring.accepted_head ring.last_tail is.accepted in
      let reach = fits-in.head_reach in
      omega arith

  pub accepted-ring : (n : ℕ) → IsRing (accepted n ring)
  accepted-ring n = record { is_size = is.is_size; accepted = fits-in.head_within; within = step_on-below ring.size ring.last_tail n tail-in; one_tail = refl }

  pub offered-are : slots_from ring.size first total ≡ pending_slots ring ++ pushed_slots ring ring.head
  offered-are =
      slots_from-add ring.size first (dist ring.size first ring.accepted_head) (dist ring.size ring.accepted_head ring.head)
      ∙ ap (λ (at : ℕ). slots_from ring.size first (dist ring.size first ring.accepted_head) ++ slots_from ring.size at (dist ring.size ring.accepted_head ring.head)) (step_on-dist ring.size first ring.accepted_head first-in is.accepted)

  -- the tail goes on by what is taken
  first-next : (n : ℕ) → step_on ring.size (step_on ring.size ring.last_tail n) 1 ≡ step_on ring.size first n
  first-next n =
      let swap : n + 1 ≡ 1 + n = omega arith in
      step_on-step_on ring.size ring.last_tail n 1 ∙ (ap (step_on ring.size ring.last_tail) swap ∙ sym (step_on-step_on ring.size ring.last_tail 1 n))

  left-count : (n : ℕ) → n ≤ total → dist ring.size (step_on ring.size first n) ring.head ≡ total - n
  left-count n le =
      let few = total-few in
      let there : step_on ring.size first total ≡ ring.head =
      sym (step_on-step_on ring.size first (dist ring.size first ring.accepted_head) (dist ring.size ring.accepted_head ring.head))
      ∙ (ap (λ (at : ℕ). step_on ring.size at (dist ring.size ring.accepted_head ring.head)) (step_on-dist ring.size first ring.accepted_head first-in is.accepted)
      ∙ step_on-dist ring.size ring.accepted_head ring.head is.accepted fits-in.head_within) in
      let sums : n + (total - n) ≡ total = omega arith in
      let steps : step_on ring.size (step_on ring.size first n) (total - n) ≡ ring.head = step_on-step_on ring.size first n (total - n) ∙ (ap (step_on ring.size first) sums ∙ there) in
      ap (dist ring.size (step_on ring.size first n)) (sym steps) ∙ dist-step_on ring.size (step_on ring.size first n) (total - n) (step_on-below ring.size first n first-in) (omega arith)

  pub left-pending : (n : ℕ) → n ≤ total → pending_slots (accepted n ring) ≡ drop n (pending_slots ring ++ pushed_slots ring ring.head)
  left-pending n le =
      ap (λ (at : ℕ). slots_from ring.size at (dist ring.size at ring.head)) (first-next n)
      ∙ (ap (slots_from ring.size (step_on ring.size first n)) (left-count n le)
      ∙ (sym (drop-slots_from ring.size first n total le) ∙ ap (drop n) offered-are))

-- what a change of marks leaves of slots
seen-set : (see : SlotState → ℕ) (f : SlotState → SlotState) → ((x : SlotState) → see (f x) ≡ see x) → (slots : List SlotState) (at : ℕ) → map see (set slots at (f (get_or slots at blank_slot))) ≡ map see slots
seen-set see f keeps [] at = refl
seen-set see f keeps (x ∷ slots) zero = ap (λ (n : ℕ). n ∷ map see slots) (keeps x)
seen-set see f keeps (x ∷ slots) (suc at) = ap (λ (ns : List ℕ). see x ∷ ns) (seen-set see f keeps slots at)

pub seen-pushed : (see : SlotState → ℕ) → ((x : SlotState) → see (slot_after_push x) ≡ see x) → (ats : List ℕ) (slots : List SlotState) → map see (fold with_push_cleared slots ats) ≡ map see slots
seen-pushed see keeps [] slots = refl
seen-pushed see keeps (at ∷ ats) slots = seen-pushed see keeps ats (with_push_cleared slots at) ∙ seen-set see slot_after_push keeps slots at

see-at : (see : SlotState → ℕ) (slots : List SlotState) (at : ℕ) → get_or (map see slots) at (see blank_slot) ≡ see (get_or slots at blank_slot)
see-at see [] at = refl
see-at see (x ∷ slots) zero = refl
see-at see (x ∷ slots) (suc at) = see-at see slots at

pub pushed-length : (ats : List ℕ) (slots : List SlotState) → length (fold with_push_cleared slots ats) ≡ length slots
pushed-length [] slots = refl
pushed-length (at ∷ ats) slots = pushed-length ats (with_push_cleared slots at) ∙ length-set slots at (slot_after_push (get_or slots at blank_slot))

pub slot-seen : (see : SlotState → ℕ) → ((x : SlotState) → see (slot_after_push x) ≡ see x) → (ring : RingState) (slots : List SlotState) (at : ℕ) → see (get_or (slots_after_push ring slots) at blank_slot) ≡ see (get_or slots at blank_slot)
slot-seen see keeps ring slots at =
    sym (see-at see (slots_after_push ring slots) at) ∙ (ap (λ (ns : List ℕ). get_or ns at (see blank_slot)) (seen-pushed see keeps (pushed_slots ring ring.head) slots) ∙ see-at see slots at)

-- lengths of slots that no check refuses
pub each-short : (whole : Bool) (pool : ℕ) (named earlier : List ℕ) (begun : ℕ) (xs : List Pushed) → EachPasses Tx whole pool named earlier begun xs → Each (λ (x : Pushed). x.slot.len ≤ 2048) xs
each-short whole pool named earlier begun [] passes = tt
each-short whole pool named earlier begun (x ∷ xs) passes = (passes.0.fits_buffer refl, each-short whole pool named (earlier ++ x.slot.buf_idx ∷ []) (begun_after begun x.slot) xs passes.1)

-- the slots offered, once the buffers of a push were exchanged
module _ (id : ℕ) (s : OwnState) (p : OwnPort) (r : OwnRing) (sound : IsSound s) (once : (b : ℕ) → count_of b (buffers_on s) ≤ 1) (found : port_with_id s id ≡ Some p) (has : p.tx ≡ Some r) (passes : refusal_in Tx s p r ≡ None) where
  abbrev pub g : ℕ → ℕ
  g = traded Tx id s p r sound once found has passes

  abbrev pub exchanged-ring : OwnRing
  exchanged-ring = ring_renamed g r

  pub ring-is : IsTxRing r
  ring-is = tx-sound p r (sound-port Tx id s p r sound once found has passes) has

  id-is : p.id.0 ≡ id
  id-is = eqb-true p.id.0 id (place-of (λ (q : OwnPort). q.id.0 == id) s.ports p found).passes

  pub exchanged-is : IsTxRing exchanged-ring
  exchanged-is =
      let own-found : find (λ (q : OwnPort). q.id.0 == p.id.0) s.ports ≡ Some p = subst (λ (n : ℕ). find (λ (q : OwnPort). q.id.0 == n) s.ports ≡ Some p) (sym id-is) found in
      renamed-tx s sound once g (trades Tx id s p r sound once found has passes).fixed p (Some r) own-found (sound-port Tx id s p r sound once found has passes) has ring-is

  pushed-pending : Each (IsPending exchanged-ring) (pushed_slots r.ring r.ring.head)
  pushed-pending =
      let is = ring-is in
      let held = each-unmap (λ (x : Pushed). g x.was ≡ x.slot.buf_idx) (pushed_at Tx r) (pushed_slots r.ring r.ring.head) (each-holds Tx id s p r sound once found has passes) in
      let short = each-unmap (λ (x : Pushed). x.slot.len ≤ 2048) (pushed_at Tx r) (pushed_slots r.ring r.ring.head) (each-short (is_whole p) s.pool (named_of s) [] 0 (pushed_in Tx r) (sync-passes Tx s p r passes)) in
      let inside = each-slot (λ (at : ℕ). at < length r.held) r.ring.size r.ring.accepted_head (dist r.ring.size r.ring.accepted_head r.ring.head)
      (λ k below. let here = step_on-below r.ring.size r.ring.accepted_head k is.positions.accepted in let long = is.held in omega (arith, here, long)) in
      over (pushed_slots r.ring r.ring.head) held short inside
    where
      over : (ats : List ℕ) → Each (λ (at : ℕ). g (buffer_in Tx r at) ≡ (slot_in Tx r at).buf_idx) ats → Each (λ (at : ℕ). (slot_in Tx r at).len ≤ 2048) ats → Each (λ (at : ℕ). at < length r.held) ats → Each (IsPending exchanged-ring) ats
      over [] held short inside = tt
      over (at ∷ ats) held short inside = (record { named = sym held.0 ∙ sym (get-mapped g r.held at inside.0); fits = short.0 }, over ats held.1 short.1 inside.1)

  pub offered-pending : Each (IsPending exchanged-ring) (pending_slots r.ring ++ pushed_slots r.ring r.ring.head)
  offered-pending = each-append (IsPending exchanged-ring) (pending_slots r.ring) (pushed_slots r.ring r.ring.head) exchanged-is.pending pushed-pending
