-- The numbers of a refused sync fit their fields.
use Rattle.std.proofs.Common.{ℕ, zero, suc, ◌+◌, ◌^◌, ◌<◌, ◌≤◌, ◌≡◌, Bool, true, false, cond, not, ◌&&◌, ◌==◌, nat_le, nat_lt, List, [], ◌∷◌, ◌++◌, length, map, get_or, flat_map, Option, Some, None, option_map, refl, arith}
use Rattle.std.specs.List.{AllByRecursion as Each}
use Rattle.std.proofs.lemmas.Bool.{and_parts, leb-true}
use Rattle.std.proofs.lemmas.Bool.Decides.{nat_tests}
use Rattle.nm_types.specs.Limits.{most_ring}
use Rattle.nm_types.specs.declared.id.Side.{Side}
use Rattle.nm_types.specs.declared.refusal.RingFault.TheVariants.{HeadOut, CurOut}
use Rattle.nm_types.specs.declared.refusal.SlotFault.TheVariants.{Indirect, IndexOut, NotHeld, Doubled, Unannounced, LongLen, Fragment}
use Rattle.nm_types.specs.declared.fault.SyncFault.{SyncFault}
use Rattle.nm_types.specs.SyncFaults.{ring_sync_fault, slot_sync_fault}
use Rattle.nm_types.specs.Positions.{IsRing, FitsRing, dist, step_on, pushed_slots}
use Rattle.nm_types.specs.Slots.{SlotState, has_flag, indirect, goes_on}
use Rattle.nm_types.specs.SyncChecks.{is_tx, is_beyond, is_index_out, is_unannounced, slot_refusal, slots_refusal, first_refusal, is_closing, seen_of, begun_after}
use Rattle.nm_types.specs.OwnPorts.{OwnRing, OwnPort, named_of, blank_slot, buffer_in, slot_in, index_of, pushed_at, pushed_in, is_whole}
use Rattle.nm_types.proofs.RingChecks.{Fits-from_beyond}
use Rattle.nm_types.proofs.RingSteps.{step_on-below}
use Rattle.vale_entry.specs.Holdings.{is_buffer_index}
use Rattle.vale_entry.specs.Legal.{standing_of, fits_u16, fits_u32}
use Rattle.vale_entry.proofs.Counting.{count_of, count_of-append}
use Rattle.vale_entry.proofs.Each.{each-find}
use Rattle.vale_own.specs.Own.{own_of, buffers_of_lease, all_buffers_of}
use Rattle.vale_own.specs.Side.{buffers_on, IsSoundPort}
use Rattle.vale_own.specs.SideAsks.{RefusalFits, SlotFits, RefusalsFit}
use Rattle.vale_own.proofs.Buffers.{buffers-apart}
use Rattle.vale_own.proofs.SidePlaces.{count-at, each-slot, ring-sound, user-place, in-port, in-ports}

fits-32 : (n : ℕ) → n < 4294967296 → fits_u32 n ≡ true
fits-32 n less = grind (arith, nat_tests)

fits-16 : (n : ℕ) → n < 2 ^ 16 → fits_u16 n ≡ true
fits-16 n less = grind (arith, nat_tests)

first-fits : (first later : Option SyncFault) → RefusalFits first → RefusalFits later → RefusalFits (first_refusal first later)
first-fits None later one two = two
first-fits (Some fault) later one two = one

-- the numbers of a slot at a position
record Numbers (at idx was len : ℕ) : Type 0 where
  position : at < 4294967296
  index : idx < 4294967296
  place : was < 4294967296
  size : len < 2 ^ 16

slot-fits : (at idx was len : ℕ) (a b c d e f g : Bool) → Numbers at idx was len
    → RefusalFits (option_map slot_sync_fault (cond a (Some (Indirect at)) (cond b (Some (IndexOut at idx)) (cond c (Some (NotHeld at idx)) (cond d (Some (Doubled at idx)) (cond e (Some (Unannounced at idx was)) (cond f (Some (LongLen at len)) (cond g (Some (Fragment at)) None))))))))
slot-fits at idx was len true b c d e f g n = fits-32 at n.position
slot-fits at idx was len false true c d e f g n = let one = fits-32 at n.position in let two = fits-32 idx n.index in rw (one, two) refl
slot-fits at idx was len false false true d e f g n = let one = fits-32 at n.position in let two = fits-32 idx n.index in rw (one, two) refl
slot-fits at idx was len false false false true e f g n = let one = fits-32 at n.position in let two = fits-32 idx n.index in rw (one, two) refl
slot-fits at idx was len false false false false true f g n = let one = fits-32 at n.position in let two = fits-32 idx n.index in let three = fits-32 was n.place in rw (one, two, three) refl
slot-fits at idx was len false false false false false true g n = let one = fits-32 at n.position in let two = fits-16 len n.size in rw (one, two) refl
slot-fits at idx was len false false false false false false true n = fits-32 at n.position
slot-fits at idx was len false false false false false false false n = refl

abbrev NumbersAt : Side → OwnRing → ℕ → Type 0
NumbersAt sd r at = Numbers at (slot_in sd r at).buf_idx (buffer_in sd r at) (slot_in sd r at).len

slots-fit : (sd : Side) (whole : Bool) (pool : ℕ) (r : OwnRing) (named earlier : List ℕ) (begun : ℕ) (ats : List ℕ) → Each (NumbersAt sd r) ats → RefusalFits (slots_refusal sd whole pool named earlier begun (map (pushed_at sd r) ats))
slots-fit sd whole pool r named earlier begun [] all = refl
slots-fit sd whole pool r named earlier begun (at ∷ ats) all =
    let x = pushed_at sd r at in
    let seen = seen_of (is_closing whole begun (length (map (pushed_at sd r) ats))) pool named earlier x in
    first-fits (option_map slot_sync_fault (slot_refusal sd seen at x.slot)) (slots_refusal sd whole pool named (earlier ++ x.slot.buf_idx ∷ []) (begun_after begun x.slot) (map (pushed_at sd r) ats))
    (slot-fits at x.slot.buf_idx x.was x.slot.len (is_tx sd && has_flag indirect x.slot) (is_index_out seen.top x.slot.buf_idx) (not seen.held) seen.doubled (is_unannounced seen.was x.slot) (is_tx sd && nat_lt 2048 x.slot.len) (is_tx sd && (seen.closing && goes_on x.slot)) all.0)
    (slots-fit sd whole pool r named (earlier ++ x.slot.buf_idx ∷ []) (begun_after begun x.slot) ats all.1)

each-got : (slots : List SlotState) (i : ℕ) → Each SlotFits slots → SlotFits (get_or slots i blank_slot)
each-got [] i all = (omega arith, omega arith)
each-got (x ∷ slots) zero all = all.0
each-got (x ∷ slots) (suc i) all = each-got slots i all.1

pub refusals-fit : RefusalsFit
refusals-fit pool past session shut side sd p r k size found has fields = by (is_beyond r.ring.size r.ring.accepted_head r.ring.last_tail r.ring.head) (is_beyond r.ring.size r.ring.head r.ring.last_tail r.ring.cur) refl refl
  where
    sound-p : IsSoundPort p
    sound-p = each-find IsSoundPort (λ (q : OwnPort). q.id.0 == p.id.0) side.ports p k.of.sound.each found

    is : IsRing r.ring
    is = ring-sound sd p r sound-p has

    few : r.ring.size ≤ most_ring
    few = is.is_size.1

    tail : r.ring.last_tail < 4294967296
    tail = let w = is.within in let o = is.one_tail in let most = few in omega (arith, w, o, most)

    accepted : r.ring.accepted_head < 4294967296
    accepted = let a = is.accepted in let most = few in omega (arith, a, most)

    -- a buffer in a place is of the pool
    in-pool : (b : ℕ) → 1 ≤ count_of b (buffers_on side) → b < 4294967296
    in-pool b some =
        let own = own_of session (standing_of pool past) in
        let all = buffers-apart pool past session b k.legal in
        let parts = count_of-append b own.buffers (flat_map buffers_of_lease own.leases) in
        let same = k.of.of.buffers b in
        let at = index-is (count_of b (all_buffers_of own)) (is_buffer_index pool b) all (omega (arith, parts, same, some)) in
        let high = leb-true b (pool + 1) (and_parts (nat_le 2 b) (nat_le b (pool + 1)) at).1 in
        let most = size.1 in
        omega (arith, high, most)
      where
        index-is : (n : ℕ) (b : Bool) → n ≤ cond b 1 0 → 1 ≤ n → b ≡ true
        index-is n true le more = refl
        index-is n false le more = absurd (omega (arith, le, more))

    pushed : FitsRing r.ring r.ring.head r.ring.cur → Each (NumbersAt sd r) (pushed_slots r.ring r.ring.head)
    pushed fits = each-slot (NumbersAt sd r) r.ring.size r.ring.accepted_head (dist r.ring.size r.ring.accepted_head r.ring.head) (λ j below.
        let at = step_on r.ring.size r.ring.accepted_head j in
        let inside = step_on-below r.ring.size r.ring.accepted_head j is.accepted in
        let reach = fits.head_reach in
        let place = user-place sd p r j sound-p has (omega (arith, below, reach)) in
        let slot = each-got r.slots (index_of sd r.ring at) fields.slots in
        let here = count-at r.held (index_of sd r.ring at) place in
        let port = in-port sd p r (buffer_in sd r at) has in
        let all = in-ports p.id.0 side.ports p (buffer_in sd r at) found in
        let most = few in
        record { position = omega (arith, inside, most); index = slot.0; place = in-pool (buffer_in sd r at) (omega (arith, here, port, all)); size = slot.1 })

    by : (a b : Bool) → is_beyond r.ring.size r.ring.accepted_head r.ring.last_tail r.ring.head ≡ a → is_beyond r.ring.size r.ring.head r.ring.last_tail r.ring.cur ≡ b
        → RefusalFits (first_refusal (option_map ring_sync_fault (cond a (Some (HeadOut r.ring.head r.ring.accepted_head r.ring.last_tail)) (cond b (Some (CurOut r.ring.cur r.ring.head r.ring.last_tail)) None))) (slots_refusal sd (is_whole p) side.pool (named_of side) [] 0 (pushed_in sd r)))
    by true b one two = let first = fits-32 r.ring.head fields.head in let second = fits-32 r.ring.accepted_head accepted in let third = fits-32 r.ring.last_tail tail in rw (first, second, third) refl
    by false true one two = let first = fits-32 r.ring.cur fields.cur in let second = fits-32 r.ring.head fields.head in let third = fits-32 r.ring.last_tail tail in rw (first, second, third) refl
    by false false one two = slots-fit sd (is_whole p) side.pool r (named_of side) [] 0 (pushed_slots r.ring r.ring.head) (pushed (Fits-from_beyond r.ring.size r.ring.accepted_head r.ring.last_tail r.ring.head r.ring.cur one two))
