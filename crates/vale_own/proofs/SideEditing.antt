-- What a user writes on its own side changes nothing of what is its session's own.
use Rattle.std.proofs.Common.{ℕ, zero, suc, ◌+◌, ◌<◌, ◌≤◌, ◌≡◌, ◌≢◌, ◌||◌, Bool, true, false, cond, not, ◌&&◌, ◌==◌, nat_le, nat_lt, List, [], ◌∷◌, ◌++◌, map, set, drop, flat_map, length, get_or, Option, Some, None, is_none, option_map, refl, sym, ◌∙◌, ap, ap₂, subst, arith, inl, inr}
use Rattle.std.specs.Prelude.{find, option_and_then}
use Rattle.std.specs.Option.{option_map_or}
use Rattle.std.specs.List.{AllByRecursion as Each}
use Rattle.std.proofs.lemmas.Bool.{cases_Bool, and_parts, eq-eqb, eqb-true, leb-true}
use Rattle.std.proofs.lemmas.Bool.Decides.{nat_tests}
use Rattle.std.proofs.lemmas.List.{length-set, get_or-set_other}
use Rattle.nm_types.specs.declared.id.Side.{Side}
use Rattle.nm_types.specs.declared.id.Side.TheVariants.{Tx, Rx}
use Rattle.nm_types.specs.declared.refusal.RingFault.{RingFault}
use Rattle.nm_types.specs.declared.slot.SlotWrite.{SlotWrite}
use Rattle.nm_types.specs.Positions.{RingState, IsRing, dist, step_on, pending_slots, is_user_slot}
use Rattle.nm_types.specs.Slots.{SlotState}
use Rattle.nm_types.specs.SyncChecks.{ring_refusal, contains_index}
use Rattle.nm_types.specs.OwnPorts.{OwnRing, OwnPort, OwnState, bytes_at, with_bytes, ring_on, ring_at, buffers_in, held_if, named_of, slot_in, with_slot, index_of, blank_slot, port_if, with_ring, with_ring_on, port_with_id, is_whole_at}
use Rattle.nm_types.specs.OwnEdits.{SlotPlace, ring_at_positions, with_head, with_cur, with_positions, with_all_back, user_slot_at, with_user_slot, slot_written, with_written_slot, with_slot_field, slot_of_place, slot_naming, with_two_slots, with_slots_swapped, has_slots, slot_with_part, ring_with_part, with_written, with_part_on, with_part, with_parts, with_frame, ring_forwarding, sent_slot, with_slot_forwarded, with_heads_forwarded, with_slots_forwarded, frame_slots, can_forward, with_next_forwarded, frames_forwarded, with_forwarded, extra_number, with_head_of_chain, link_in, with_extra_link_in, with_extra_link}
use Rattle.nm_types.specs.Parts.{slots_of_length, parts_of}
use Rattle.nm_types.proofs.PartLemmas.{length-parts}
use Rattle.nm_types.proofs.RingSteps.{dist-below, dist-add, dist_split, step_on-below, step_on-dist}
use Rattle.vale_entry.proofs.Counting.{count_of, count_of-append}
use Rattle.vale_entry.proofs.ListLaws.{place-of}
use Rattle.vale_entry.proofs.Each.{each-map, each-find, each-both}
use Rattle.vale_own.specs.Side.{buffers_on, port_of_side, IsPending, IsTxRing, IsTxRingIf, IsRxRing, IsSoundPort, IsSound}
use Rattle.vale_own.specs.SideEdits.{KeepsSides, EditsKeepSides}
use Rattle.vale_own.proofs.SidePlaces.{count-at, in-ports, all-named-counted, tx-sound}
use Rattle.vale_own.proofs.SideExchange.{ring-passes}
use Rattle.vale_own.proofs.SideSound.{pending-apart, each-pending}
use Rattle.vale_own.proofs.SideMoves.{changed-each, changed-ids, changed-same}
use Rattle.vale_own.proofs.SideSends.{tx-seen, ring-keeps-id}

-- a side that was edited
pub record Edited (s new : OwnState) : Type 0 where
  pool_is : new.pool ≡ s.pool
  seen : (session : ℕ) (shut : Option ℕ) → map (port_of_side session shut) new.ports ≡ map (port_of_side session shut) s.ports
  buffers : buffers_on new ≡ buffers_on s
  sound : IsSound new

edited-kept : (edit : OwnState → OwnState) → ((s : OwnState) → IsSound s → Edited s (edit s)) → KeepsSides edit
edited-kept edit edits pool session shut own side of =
    let k = edits side of.sound in
    record {
      of = record { there = of.of.there; pool_is = k.pool_is ∙ of.of.pool_is; ports = of.of.ports ∙ sym (k.seen session shut); buffers = λ b. of.of.buffers b ∙ ap (count_of b) (sym k.buffers) };
      sound = k.sound;
    }

pub edited-same : (s : OwnState) → IsSound s → Edited s s
edited-same s sound = record { pool_is = refl; seen = λ session shut. refl; buffers = refl; sound = sound }

edited-twice : (s t u : OwnState) → Edited s t → Edited t u → Edited s u
edited-twice s t u first second = record { pool_is = second.pool_is ∙ first.pool_is; seen = λ session shut. second.seen session shut ∙ first.seen session shut; buffers = second.buffers ∙ first.buffers; sound = second.sound }

-- a ring that was edited
abbrev RingSound : Side → OwnRing → Type 0
RingSound Tx r = IsTxRing r
RingSound Rx r = IsRxRing r

moved-sound : (side : Side) (head cur : ℕ) (r : OwnRing) → RingSound side r → RingSound side (ring_at_positions head cur r)
moved-sound Tx head cur r is = record {
  positions = record { is_size = is.positions.is_size; accepted = is.positions.accepted; within = is.positions.within; one_tail = is.positions.one_tail };
  slots = is.slots;
  held = is.held;
  pending = over (pending_slots r.ring) is.pending;
}
  where
    over : (ats : List ℕ) → Each (IsPending r) ats → Each (IsPending (ring_at_positions head cur r)) ats
    over [] all = tt
    over (at ∷ ats) all = (record { named = all.0.named; fits = all.0.fits }, over ats all.1)
moved-sound Rx head cur r is = record {
  positions = record { is_size = is.positions.is_size; accepted = is.positions.accepted; within = is.positions.within; one_tail = is.positions.one_tail };
  slots = is.slots;
  held = is.held;
}

written-sound : (side : Side) (at : ℕ) (slot : SlotState) (r : OwnRing) → is_user_slot r.ring at ≡ true → RingSound side r → RingSound side (with_slot side at slot r)
written-sound Tx at slot r user is = record {
  positions = is.positions;
  slots = length-set r.slots at slot ∙ is.slots;
  held = is.held;
  pending = each-both (IsPending r) (λ (x : ℕ). x ≢ at) (IsPending (with_slot Tx at slot r)) still (pending_slots r.ring) is.pending (each-pending r.ring (λ (x : ℕ). x ≢ at) apart);
}
  where
    parts : (at < r.ring.size) × (dist r.ring.size r.ring.accepted_head at < dist r.ring.size r.ring.accepted_head r.ring.last_tail)
    parts =
        let both = and_parts (nat_lt at r.ring.size) (nat_lt (dist r.ring.size r.ring.accepted_head at) (dist r.ring.size r.ring.accepted_head r.ring.last_tail)) user in
        (less at r.ring.size both.0, less (dist r.ring.size r.ring.accepted_head at) (dist r.ring.size r.ring.accepted_head r.ring.last_tail) both.1)
      where
        less : (a b : ℕ) → nat_lt a b ≡ true → a < b
        less a b e = grind (arith, nat_tests)

    apart : (k : ℕ) → k < dist r.ring.size (step_on r.ring.size r.ring.last_tail 1) r.ring.accepted_head → step_on r.ring.size (step_on r.ring.size r.ring.last_tail 1) k ≢ at
    apart k below same =
        pending-apart r.ring k (dist r.ring.size r.ring.accepted_head at) is.positions below parts.1 (step_on-dist r.ring.size r.ring.accepted_head at is.positions.accepted parts.0 ∙ sym same)

    still : (x : ℕ) → IsPending r x → x ≢ at → IsPending (with_slot Tx at slot r) x
    still x k other =
        let same : get_or (set r.slots at slot) x blank_slot ≡ get_or r.slots x blank_slot = get_or-set_other r.slots at x slot blank_slot other in
        record { named = ap (λ y. y.buf_idx) same ∙ k.named; fits = (let len = ap (λ y. y.len) same in let le = k.fits in omega (arith, len, le)) }
written-sound Rx at slot r user is = record { positions = is.positions; slots = length-set r.slots (index_of Rx r.ring at) slot ∙ is.slots; held = is.held }

-- a port whose ring was edited
module _ (side : Side) (f : OwnRing → OwnRing) (held : (r : OwnRing) → (f r).held ≡ r.held) (size : (r : OwnRing) → (f r).ring.size ≡ r.ring.size) where
  edited-buffers : (q : OwnPort) → buffers_in (with_ring_on side f q) ≡ buffers_in q
  edited-buffers q = on side
    where
      tx : (o : Option OwnRing) → held_if (option_map f o) ≡ held_if o
      tx None = refl
      tx (Some r) = held r

      on : (sd : Side) → buffers_in (with_ring_on sd f q) ≡ buffers_in q
      on Tx = ap (λ (bs : List ℕ). bs ++ (q.rx.held ++ q.extra)) (tx q.tx)
      on Rx = ap (λ (bs : List ℕ). held_if q.tx ++ (bs ++ q.extra)) (held q.rx)

  edited-seen : (session : ℕ) (shut : Option ℕ) (q : OwnPort) → port_of_side session shut (with_ring_on side f q) ≡ port_of_side session shut q
  edited-seen session shut q = on side
    where
      on : (sd : Side) → port_of_side session shut (with_ring_on sd f q) ≡ port_of_side session shut q
      on Tx = tx-seen session shut f size q
      on Rx = rw (size q.rx, held q.rx) refl

  all-buffers : (id : ℕ) (ports : List OwnPort) → flat_map buffers_in (map (port_if id (with_ring_on side f)) ports) ≡ flat_map buffers_in ports
  all-buffers id [] = refl
  all-buffers id (q ∷ ports) = ap₂ (λ (xs ys : List ℕ). xs ++ ys) (by (q.id.0 == id)) (all-buffers id ports)
    where
      by : (b : Bool) → buffers_in (cond b (with_ring_on side f q) q) ≡ buffers_in q
      by true = edited-buffers q
      by false = refl

  edited-by : (id : ℕ) (s : OwnState) → IsSound s → Each IsSoundPort (map (port_if id (with_ring_on side f)) s.ports) → Edited s (with_ring side id f s)
  edited-by id s sound each = record {
    pool_is = refl;
    seen = λ session shut. changed-same id (with_ring_on side f) (port_of_side session shut) (edited-seen session shut) s.ports;
    buffers = all-buffers id s.ports;
    sound = record {
      each = each;
      apart = rw (changed-ids id (with_ring_on side f) (ring-keeps-id side f) s.ports) sound.apart;
      cells = sound.cells;
      blank = λ b none. sound.blank b (sym (ap (count_of b) (all-buffers id s.ports)) ∙ none);
    };
  }

  port-edited : (q : OwnPort) → ((r : OwnRing) → ring_on side q ≡ Some r → RingSound side r → RingSound side (f r)) → IsSoundPort q → IsSoundPort (with_ring_on side f q)
  port-edited q keeps is = on side keeps
    where
      tx : (o : Option OwnRing) → ((r : OwnRing) → o ≡ Some r → IsTxRing r → IsTxRing (f r)) → IsTxRingIf o → IsTxRingIf (option_map f o)
      tx None k ring = tt
      tx (Some r) k ring = k r refl ring

      on : (sd : Side) → ((r : OwnRing) → ring_on sd q ≡ Some r → RingSound sd r → RingSound sd (f r)) → IsSoundPort (with_ring_on sd f q)
      on Tx k = record { tx = tx q.tx k is.tx; rx = is.rx }
      on Rx k = record { tx = is.tx; rx = k q.rx refl is.rx }

  -- wherever the ring is
  ring-edited : (id : ℕ) → ((r : OwnRing) → RingSound side r → RingSound side (f r)) → (s : OwnState) → IsSound s → Edited s (with_ring side id f s)
  ring-edited id keeps s sound = edited-by id s sound (each-map IsSoundPort IsSoundPort (port_if id (with_ring_on side f)) (λ q is. by q (q.id.0 == id) is) s.ports sound.each)
    where
      by : (q : OwnPort) (b : Bool) → IsSoundPort q → IsSoundPort (cond b (with_ring_on side f q) q)
      by q true is = port-edited q (λ r has ring. keeps r ring) is
      by q false is = is

  -- the ring that is found
  found-edited : (id : ℕ) (s : OwnState) (p : OwnPort) (r : OwnRing) → IsSound s → port_with_id s id ≡ Some p → ring_on side p ≡ Some r → (RingSound side r → RingSound side (f r)) → Edited s (with_ring side id f s)
  found-edited id s p r sound found has keeps =
      edited-by id s sound (changed-each id (with_ring_on side f) s.ports p sound.apart found sound.each
      (port-edited p (λ t on ring. let same : Some t ≡ Some r = sym on ∙ has in let is : t ≡ r = cc in subst (λ (x : OwnRing). RingSound side (f x)) (sym is) (keeps (subst (RingSound side) is ring)))
      (each-find IsSoundPort (λ (q : OwnPort). q.id.0 == id) s.ports p sound.each found)))

-- the port of a ring that is found
record RingFound (side : Side) (s : OwnState) (id : ℕ) (r : OwnRing) : Type 0 where
  port : OwnPort
  found : port_with_id s id ≡ Some port
  has : ring_on side port ≡ Some r

ring-found : (side : Side) (s : OwnState) (id : ℕ) (r : OwnRing) → ring_at side s id ≡ Some r → RingFound side s id r
ring-found side s id r at = by (port_with_id s id) refl at
  where
    by : (o : Option OwnPort) → port_with_id s id ≡ o → option_and_then (ring_on side) o ≡ Some r → RingFound side s id r
    by None is e = absurd cc
    by (Some p) is e = record { port = p; found = is; has = e }

-- so many slots from a position on are the user's
abbrev Ahead : ℕ → RingState → ℕ → Type 0
Ahead zero ring at = Unit {0}
Ahead (suc count) ring at = (is_user_slot ring at ≡ true) × Ahead count ring (step_on ring.size at 1)

-- which positions of the user do not change
record SameBounds (ring now : RingState) : Type 0 where
  size : now.size ≡ ring.size
  accepted : now.accepted_head ≡ ring.accepted_head
  tail : now.last_tail ≡ ring.last_tail

ahead-same : (count : ℕ) (ring now : RingState) (at : ℕ) → SameBounds ring now → Ahead count ring at → Ahead count now at
ahead-same zero ring now at same all = tt
ahead-same (suc count) ring now at same all =
    let user : is_user_slot now at ≡ is_user_slot ring at = rw (same.size, same.accepted, same.tail) refl in
    let next : step_on now.size at 1 ≡ step_on ring.size at 1 = ap (λ (n : ℕ). step_on n at 1) same.size in
    (user ∙ all.0, subst (Ahead count now) (sym next) (ahead-same count ring now (step_on ring.size at 1) same all.1))

both-true : (a b c d : ℕ) → a < b → c < d → (nat_lt a b && nat_lt c d) ≡ true
both-true a b c d first second = let one : nat_lt a b ≡ true = grind (arith, nat_tests) in let two : nat_lt c d ≡ true = grind (arith, nat_tests) in rw (one, two) refl

ahead-from : (count : ℕ) (ring : RingState) (at : ℕ) → IsRing ring → at < ring.size → dist ring.size ring.accepted_head at + count ≤ dist ring.size ring.accepted_head ring.last_tail → Ahead count ring at
ahead-from zero ring at is within room = tt
ahead-from (suc count) ring at is within room =
    let most = dist-below ring.size ring.accepted_head ring.last_tail is.accepted in
    let next = dist-add ring.size ring.accepted_head at 1 is.accepted within (omega (arith, room, most)) in (
      both-true at ring.size (dist ring.size ring.accepted_head at) (dist ring.size ring.accepted_head ring.last_tail) within (omega (arith, room)),
      ahead-from count ring (step_on ring.size at 1) is (step_on-below ring.size at 1 within) (omega (arith, next, room)),
    )

ahead-less : (count : ℕ) (ring : RingState) (at : ℕ) → Ahead (suc count) ring at → Ahead count ring at
ahead-less zero ring at all = tt
ahead-less (suc count) ring at all = (all.0, ahead-less count ring (step_on ring.size at 1) all.1)

-- a ring that has so many slots from its head on
has-ahead : (count : ℕ) (r : OwnRing) → IsRing r.ring → has_slots count r ≡ true → Ahead count r.ring r.ring.head
has-ahead count r is has =
    let parts = and_parts (is_none (ring_refusal r.ring r.ring.head r.ring.cur)) (nat_le count (dist r.ring.size r.ring.head r.ring.tail)) has in
    let fits = ring-passes r.ring (none-is (ring_refusal r.ring r.ring.head r.ring.cur) parts.0) in
    let tail : r.ring.last_tail < r.ring.size = (let w = is.within in let o = is.one_tail in omega arith) in
    let enough = leb-true count (dist r.ring.size r.ring.head r.ring.tail) parts.1 in
    let same : dist r.ring.size r.ring.head r.ring.tail ≡ dist r.ring.size r.ring.head r.ring.last_tail = ap (dist r.ring.size r.ring.head) is.one_tail in
    let split = dist_split r.ring.size r.ring.accepted_head r.ring.head r.ring.last_tail is.accepted fits.head_within tail fits.head_reach in
    ahead-from count r.ring r.ring.head is fits.head_within (omega (arith, enough, same, split))
  where
    none-is : (o : Option RingFault) → is_none o ≡ true → o ≡ None
    none-is None e = refl
    none-is (Some fault) e = absurd cc

ring-is : (side : Side) (r : OwnRing) → RingSound side r → IsRing r.ring
ring-is Tx r is = is.positions
ring-is Rx r is = is.positions

head-written : (side : Side) (head cur : ℕ) (slot : SlotState) (r : OwnRing) → is_user_slot r.ring r.ring.head ≡ true → RingSound side r → RingSound side (ring_at_positions head cur (with_slot side r.ring.head slot r))
head-written side head cur slot r user is = moved-sound side head cur (with_slot side r.ring.head slot r) (written-sound side r.ring.head slot r user is)

-- positions, slots and links
positions-edited : (side : Side) (id head cur : ℕ) (s : OwnState) → IsSound s → Edited s (with_positions side id head cur s)
positions-edited side id head cur = ring-edited side (ring_at_positions head cur) (λ r. refl) (λ r. refl) id (moved-sound side head cur)

user-edited : (side : Side) (id at : ℕ) (slot : SlotState) (s : OwnState) → IsSound s → Edited s (with_user_slot side id at slot s)
user-edited side id at slot =
    ring-edited side (λ (r : OwnRing). cond (is_user_slot r.ring at) (with_slot side at slot r) r) (λ r. held r (is_user_slot r.ring at)) (λ r. size r (is_user_slot r.ring at)) id (λ r is. by r (is_user_slot r.ring at) refl is)
  where
    held : (r : OwnRing) (b : Bool) → (cond b (with_slot side at slot r) r).held ≡ r.held
    held r true = refl
    held r false = refl

    size : (r : OwnRing) (b : Bool) → (cond b (with_slot side at slot r) r).ring.size ≡ r.ring.size
    size r true = refl
    size r false = refl

    by : (r : OwnRing) (b : Bool) → is_user_slot r.ring at ≡ b → RingSound side r → RingSound side (cond b (with_slot side at slot r) r)
    by r true user is = written-sound side at slot r user is
    by r false user is = is

field-edited : (side : Side) (id at : ℕ) (write : SlotWrite) (s : OwnState) → IsSound s → Edited s (with_slot_field side id at write s)
field-edited side id at write s sound = by (user_slot_at side s id at)
  where
    by : (o : Option SlotState) → Edited s (with_written_slot side id at write s o)
    by None = edited-same s sound
    by (Some slot) = user-edited side id at (slot_written write slot) s sound

swap-edited : (announce : Bool) (here there : SlotPlace) (s : OwnState) → IsSound s → Edited s (with_slots_swapped announce here there s)
swap-edited announce here there s sound = by (slot_of_place s here) (slot_of_place s there)
  where
    by : (a b : Option SlotState) → Edited s (with_two_slots announce here there s a b)
    by None b = edited-same s sound
    by (Some a) None = edited-same s sound
    by (Some a) (Some b) =
        let first = user-edited here.side here.port here.at (slot_naming announce b.buf_idx a) s sound in
        edited-twice s (with_user_slot here.side here.port here.at (slot_naming announce b.buf_idx a) s) _ first
        (user-edited there.side there.port there.at (slot_naming announce a.buf_idx b) (with_user_slot here.side here.port here.at (slot_naming announce b.buf_idx a) s) first.sound)

-- bytes of a buffer in a place
bytes-edited : (idx : ℕ) (bytes : List ℕ) (s : OwnState) → IsSound s → 1 ≤ count_of idx (buffers_on s) → Edited s (with_bytes idx bytes s)
bytes-edited idx bytes s sound some = record {
  pool_is = refl;
  seen = λ session shut. refl;
  buffers = refl;
  sound = record {
    each = sound.each;
    apart = sound.apart;
    cells = length-set s.bytes idx bytes ∙ sound.cells;
    blank = λ b none. get_or-set_other s.bytes idx b bytes [] (λ same. let here : count_of b (buffers_on s) ≡ count_of idx (buffers_on s) = ap (λ (n : ℕ). count_of n (buffers_on s)) same in omega (arith, here, none, some)) ∙ sound.blank b none;
  };
}

chain-edited : (id idx : ℕ) (s : OwnState) → IsSound s → Edited s (with_head_of_chain id idx s)
chain-edited id idx s sound = record {
  pool_is = refl;
  seen = λ session shut. changed-same id headed (port_of_side session shut) (λ q. refl) s.ports;
  buffers = buffers s.ports;
  sound = record {
    each = each-map IsSoundPort IsSoundPort (port_if id headed) (λ q is. by q (q.id.0 == id) is) s.ports sound.each;
    apart = rw (changed-ids id headed (λ q. refl) s.ports) sound.apart;
    cells = sound.cells;
    blank = λ b none. sound.blank b (sym (ap (count_of b) (buffers s.ports)) ∙ none);
  };
}
  where
    headed : OwnPort → OwnPort
    headed p = record p { extra_head = idx }

    by : (q : OwnPort) (b : Bool) → IsSoundPort q → IsSoundPort (cond b (record q { extra_head = idx }) q)
    by q true is = record { tx = is.tx; rx = is.rx }
    by q false is = is

    buffers : (ports : List OwnPort) → flat_map buffers_in (map (port_if id (λ (p : OwnPort). record p { extra_head = idx })) ports) ≡ flat_map buffers_in ports
    buffers [] = refl
    buffers (q ∷ ports) = ap₂ (λ (xs ys : List ℕ). xs ++ ys) (one (q.id.0 == id)) (buffers ports)
      where
        one : (b : Bool) → buffers_in (cond b (record q { extra_head = idx }) q) ≡ buffers_in q
        one true = refl
        one false = refl

link-edited : (id from to : ℕ) (s : OwnState) → IsSound s → Edited s (with_extra_link id from to s)
link-edited id from to s sound = by (port_with_id s id) refl
  where
    linked-in : (p : OwnPort) (at next : ℕ) → port_with_id s id ≡ Some p → at ≤ length p.extra → Edited s (link_in id p at next s)
    linked-in p zero next found within = chain-edited id next s sound
    linked-in p (suc at) next found within =
        let here = count-at p.extra at (omega (arith, within)) in
        let port = count_of-append (get_or p.extra at 0) (held_if p.tx) (p.rx.held ++ p.extra) in
        let rest = count_of-append (get_or p.extra at 0) p.rx.held p.extra in
        let all = in-ports id s.ports p (get_or p.extra at 0) found in
        bytes-edited (get_or p.extra at 0) _ s sound (omega (arith, here, port, rest, all))

    by : (o : Option OwnPort) → port_with_id s id ≡ o → Edited s (with_extra_link_in id from to s o)
    by None found = edited-same s sound
    by (Some p) found = at (nat_le from (length p.extra)) (nat_le to (length p.extra)) refl
      where
        at : (b c : Bool) → nat_le from (length p.extra) ≡ b → Edited s (cond (b && c) (link_in id p from (extra_number p to) s) s)
        at true true within = linked-in p from (extra_number p to) found (leb-true from (length p.extra) within)
        at true false within = edited-same s sound
        at false c within = edited-same s sound

-- a frame at the head of a transmit ring
written-edited : (idx : ℕ) (bytes : List ℕ) (s : OwnState) → IsSound s → Edited s (with_written idx bytes s)
written-edited idx bytes s sound = by (contains_index (named_of s) idx) refl
  where
    by : (b : Bool) → contains_index (named_of s) idx ≡ b → Edited s (cond b (with_bytes idx (bytes ++ drop (length bytes) (bytes_at s idx)) s) s)
    by true named = bytes-edited idx (bytes ++ drop (length bytes) (bytes_at s idx)) s sound (all-named-counted s.ports idx sound.each named)
    by false named = edited-same s sound

pub written-ports : (idx : ℕ) (bytes : List ℕ) (s : OwnState) → (with_written idx bytes s).ports ≡ s.ports
written-ports idx bytes s = by (contains_index (named_of s) idx)
  where
    by : (b : Bool) → (cond b (with_bytes idx (bytes ++ drop (length bytes) (bytes_at s idx)) s) s).ports ≡ s.ports
    by true = refl
    by false = refl

-- frames forwarded
find-changed : (id at : ℕ) (change : OwnPort → OwnPort) → ((q : OwnPort) → (change q).id ≡ q.id) → (ports : List OwnPort) (p : OwnPort) → find (λ (q : OwnPort). q.id.0 == at) ports ≡ Some p
    → find (λ (q : OwnPort). q.id.0 == at) (map (port_if id change) ports) ≡ Some (port_if id change p)
find-changed id at change keeps [] p found = absurd cc
find-changed id at change keeps (q ∷ ports) p found =
    let same : (port_if id change q).id.0 ≡ q.id.0 = one (q.id.0 == id) in
    elim (cases_Bool (q.id.0 == at)) [
      | inl here ↦ (let is : q ≡ p = (let first : Some q ≡ Some p = rw here at found in cc) in
          let passes : ((port_if id change q).id.0 == at) ≡ true = ap (λ (n : ℕ). n == at) same ∙ here in
          first-found (λ (x : OwnPort). x.id.0 == at) (port_if id change q) (map (port_if id change) ports) passes ∙ ap (λ (x : OwnPort). Some (port_if id change x)) is)
      | inr other ↦ (let passes : ((port_if id change q).id.0 == at) ≡ false = ap (λ (n : ℕ). n == at) same ∙ other in
          later-found (λ (x : OwnPort). x.id.0 == at) (port_if id change q) (map (port_if id change) ports) passes ∙ find-changed id at change keeps ports p (rw other at found))
    ]
  where
    one : (b : Bool) → (cond b (change q) q).id.0 ≡ q.id.0
    one true = ap (λ i. i.0) (keeps q)
    one false = refl

    first-found : (test : OwnPort → Bool) (x : OwnPort) (xs : List OwnPort) → test x ≡ true → find test (x ∷ xs) ≡ Some x
    first-found test x xs e = rw e refl

    later-found : (test : OwnPort → Bool) (x : OwnPort) (xs : List OwnPort) → test x ≡ false → find test (x ∷ xs) ≡ find test xs
    later-found test x xs e = rw e refl

rx-forwarding : (slot : SlotState) (r : OwnRing) → IsRxRing r → IsRxRing (ring_forwarding Rx slot r)
rx-forwarding slot r is = record {
  positions = record { is_size = is.positions.is_size; accepted = is.positions.accepted; within = is.positions.within; one_tail = is.positions.one_tail };
  slots = length-set r.slots (index_of Rx r.ring r.ring.head) slot ∙ is.slots;
  held = is.held;
}

-- the transmit ring of a port, with so many slots of the user from its head on
record HasAhead (id count : ℕ) (s : OwnState) : Type 0 where
  ring : OwnRing
  there : ring_at Tx s id ≡ Some ring
  ahead : Ahead count ring.ring ring.ring.head

pub ring-there : (id : ℕ) (f : OwnRing → OwnRing) (s : OwnState) (r : OwnRing) → ring_at Tx s id ≡ Some r → ring_at Tx (with_ring Tx id f s) id ≡ Some (f r)
ring-there id f s r at =
    let found = ring-found Tx s id r at in
    let there = find-changed id id (with_ring_on Tx f) (λ q. refl) s.ports found.port found.found in
    let here : (found.port.id.0 == id) ≡ true = eq-eqb found.port.id.0 id (eqb-true found.port.id.0 id (place-of (λ (q : OwnPort). q.id.0 == id) s.ports found.port found.found).passes) in
    ap (option_and_then (ring_on Tx)) there ∙ rw here (ap (option_map f) found.has)

-- a frame put, part by part
part-edited : (id count : ℕ) (more : Bool) (part : List ℕ) (s : OwnState) → IsSound s → HasAhead id (suc count) s → Edited s (with_part id more part s) × HasAhead id count (with_part id more part s)
part-edited id count more part s sound h =
    let r = h.ring in
    let idx = (slot_in Tx r r.ring.head).buf_idx in
    let t = with_written idx part s in
    let first = written-edited idx part s sound in
    let f = ring-found Tx s id r h.there in
    let there : port_with_id t id ≡ Some f.port = ap (find (λ (p : OwnPort). p.id.0 == id)) (written-ports idx part s) ∙ f.found in
    let at : ring_at Tx t id ≡ Some r = ap (option_and_then (ring_on Tx)) there ∙ f.has in
    let is : with_part id more part s ≡ with_ring Tx id (ring_with_part more part) t = ap (with_part_on id more part s) h.there in
    let edited = edited-twice s t (with_ring Tx id (ring_with_part more part) t) first
    (found-edited Tx (ring_with_part more part) (λ q. refl) (λ q. refl) id t f.port r first.sound there f.has
    (head-written Tx (step_on r.ring.size r.ring.head 1) (step_on r.ring.size r.ring.head 1) (slot_with_part more part (slot_in Tx r r.ring.head)) r h.ahead.0)) in (
      subst (Edited s) (sym is) edited,
      record {
        ring = ring_with_part more part r;
        there = ap (λ (u : OwnState). ring_at Tx u id) is ∙ ring-there id (ring_with_part more part) t r at;
        ahead = ahead-same count r.ring (ring_with_part more part r).ring (step_on r.ring.size r.ring.head 1) (record { size = refl; accepted = refl; tail = refl }) h.ahead.1;
      },
    )

parts-edited : (id : ℕ) (parts : List (List ℕ)) (s : OwnState) → IsSound s → HasAhead id (length parts) s → Edited s (with_parts id parts s)
parts-edited id [] s sound h = edited-same s sound
parts-edited id (part ∷ parts) s sound h =
    let more = not (length parts == 0) in
    let one = part-edited id (length parts) more part s sound h in
    let t = with_part id more part s in
    edited-twice s t (with_parts id parts t) one.0 (parts-edited id parts t one.0.sound one.1)

ring-sound : (s : OwnState) (id : ℕ) (r : OwnRing) → IsSound s → ring_at Tx s id ≡ Some r → IsRing r.ring
ring-sound s id r sound at =
    let f = ring-found Tx s id r at in
    let port = each-find IsSoundPort (λ (q : OwnPort). q.id.0 == id) s.ports f.port sound.each f.found in
    (tx-sound f.port r port f.has).positions

frame-edited : (id : ℕ) (bytes : List ℕ) (s : OwnState) → IsSound s → Edited s (with_frame id bytes s)
frame-edited id bytes s sound = by (ring_at Tx s id) refl
  where
    n : ℕ
    n = slots_of_length (length bytes)

    by : (o : Option OwnRing) → ring_at Tx s id ≡ o → Edited s (cond (option_map_or (has_slots n) o false) (with_parts id (parts_of bytes) s) s)
    by None at = edited-same s sound
    by (Some r) at = on (has_slots n r) refl
      where
        on : (b : Bool) → has_slots n r ≡ b → Edited s (cond b (with_parts id (parts_of bytes) s) s)
        on true has =
            let count : length (parts_of bytes) ≡ n = length-parts n bytes in
            let ahead = has-ahead n r (ring-sound s id r sound at) has in
            parts-edited id (parts_of bytes) s sound (record { ring = r; there = at; ahead = subst (λ (m : ℕ). Ahead m r.ring r.ring.head) (sym count) ahead })
        on false has = edited-same s sound

-- slots forwarded, one by one
one-forwarded : (from to count : ℕ) (got free : SlotState) (s : OwnState) → IsSound s → HasAhead to (suc count) s
    → Edited s (with_slot_forwarded from to got free s) × HasAhead to count (with_slot_forwarded from to got free s)
one-forwarded from to count got free s sound h =
    let tx = h.ring in
    let back = ring_forwarding Rx (slot_naming true free.buf_idx got) in
    let slot = sent_slot got free in
    let t = with_ring Rx from back s in
    let first = ring-edited Rx back (λ r. refl) (λ r. refl) from (rx-forwarding (slot_naming true free.buf_idx got)) s sound in
    let f = ring-found Tx s to tx h.there in
    let there : port_with_id t to ≡ Some (port_if from (with_ring_on Rx back) f.port) = find-changed from to (with_ring_on Rx back) (λ q. refl) s.ports f.port f.found in
    let still : (port_if from (with_ring_on Rx back) f.port).tx ≡ Some tx = tx-still back f.port (f.port.id.0 == from) ∙ f.has in
    let at : ring_at Tx t to ≡ Some tx = ap (option_and_then (ring_on Tx)) there ∙ still in (
      edited-twice s t (with_ring Tx to (ring_forwarding Tx slot) t) first
          (found-edited Tx (ring_forwarding Tx slot) (λ r. refl) (λ r. refl) to t (port_if from (with_ring_on Rx back) f.port) tx first.sound there still
          (head-written Tx (step_on tx.ring.size tx.ring.head 1) (step_on tx.ring.size tx.ring.cur 1) slot tx h.ahead.0)),
      record {
        ring = ring_forwarding Tx slot tx;
        there = ring-there to (ring_forwarding Tx slot) t tx at;
        ahead = ahead-same count tx.ring (ring_forwarding Tx slot tx).ring (step_on tx.ring.size tx.ring.head 1) (record { size = refl; accepted = refl; tail = refl }) h.ahead.1;
      },
    )
  where
    tx-still : (change : OwnRing → OwnRing) (q : OwnPort) (b : Bool) → (cond b (with_ring_on Rx change q) q).tx ≡ q.tx
    tx-still change q true = refl
    tx-still change q false = refl

slots-forwarded : (count from to : ℕ) (s : OwnState) → IsSound s → HasAhead to count s → Edited s (with_slots_forwarded count from to s)
slots-forwarded zero from to s sound h = edited-same s sound
slots-forwarded (suc count) from to s sound h = by (ring_at Rx s from) (slots-forwarded count from to)
  where
    by : (o : Option OwnRing) → ((t : OwnState) → IsSound t → HasAhead to count t → Edited t (with_slots_forwarded count from to t))
        → Edited s (with_slots_forwarded count from to (with_heads_forwarded from to s o (ring_at Tx s to)))
    by None others = others s sound (fewer h)
      where
        fewer : HasAhead to (suc count) s → HasAhead to count s
        fewer h = record { ring = h.ring; there = h.there; ahead = ahead-less count h.ring.ring h.ring.ring.head h.ahead }
    by (Some rx) others =
        let tx = h.ring in
        let got = slot_in Rx rx rx.ring.head in
        let free = slot_in Tx tx tx.ring.head in
        let one = one-forwarded from to count got free s sound h in
        let t = with_slot_forwarded from to got free s in
        let is : with_heads_forwarded from to s (Some rx) (ring_at Tx s to) ≡ t = ap (with_heads_forwarded from to s (Some rx)) h.there in
        subst (λ (u : OwnState). Edited s (with_slots_forwarded count from to u)) (sym is)
        (edited-twice s t (with_slots_forwarded count from to t) one.0 (others t one.0.sound one.1))

forward-edited : (whole : Bool) (count from to : ℕ) (s : OwnState) → IsSound s → Edited s (frames_forwarded whole count from to s)
forward-edited whole zero from to s sound = edited-same s sound
forward-edited whole (suc count) from to s sound = by (ring_at Rx s from) (ring_at Tx s to) refl (forward-edited whole count from to)
  where
    by : (a b : Option OwnRing) → ring_at Tx s to ≡ b → ((t : OwnState) → IsSound t → Edited t (frames_forwarded whole count from to t)) → Edited s (with_next_forwarded (frames_forwarded whole count from to) whole from to s a b)
    by None b at others = edited-same s sound
    by (Some rx) None at others = edited-same s sound
    by (Some rx) (Some tx) at others = on (can_forward whole rx tx) refl
      where
        n : ℕ
        n = frame_slots rx

        on : (b : Bool) → can_forward whole rx tx ≡ b → Edited s (cond b (frames_forwarded whole count from to (with_slots_forwarded n from to s)) s)
        on true can =
            let some = and_parts (nat_lt 0 n) (has_slots n rx && (has_slots n tx && (not whole || n == 1))) can in
            let here = and_parts (has_slots n rx) (has_slots n tx && (not whole || n == 1)) some.1 in
            let there = and_parts (has_slots n tx) (not whole || n == 1) here.1 in
            let ahead = has-ahead n tx (ring-sound s to tx sound at) there.0 in
            let first = slots-forwarded n from to s sound (record { ring = tx; there = at; ahead = ahead }) in
            let t = with_slots_forwarded n from to s in
            edited-twice s t (frames_forwarded whole count from to t) first (others t first.sound)
        on false can = edited-same s sound

pub edits-keep : EditsKeepSides
edits-keep = record {
  head = λ side id head. edited-kept (with_head side id head) (ring-edited side (λ (r : OwnRing). ring_at_positions head r.ring.cur r) (λ r. refl) (λ r. refl) id (λ r. moved-sound side head r.ring.cur r));
  cur = λ side id cur. edited-kept (with_cur side id cur) (ring-edited side (λ (r : OwnRing). ring_at_positions r.ring.head cur r) (λ r. refl) (λ r. refl) id (λ r. moved-sound side r.ring.head cur r));
  positions = λ side id head cur. edited-kept (with_positions side id head cur) (positions-edited side id head cur);
  all_back = λ id. edited-kept (with_all_back id) (ring-edited Rx (λ (r : OwnRing). ring_at_positions r.ring.tail r.ring.tail r) (λ r. refl) (λ r. refl) id (λ r. moved-sound Rx r.ring.tail r.ring.tail r));
  user_slot = λ side id at slot. edited-kept (with_user_slot side id at slot) (user-edited side id at slot);
  slot_field = λ side id at write. edited-kept (with_slot_field side id at write) (field-edited side id at write);
  slots_swapped = λ announce here there. edited-kept (with_slots_swapped announce here there) (swap-edited announce here there);
  written = λ idx bytes. edited-kept (with_written idx bytes) (written-edited idx bytes);
  frame = λ id bytes. edited-kept (with_frame id bytes) (frame-edited id bytes);
  forwarded = λ count from to. edited-kept (with_forwarded count from to) (λ s sound. forward-edited (is_whole_at s to) count from to s sound);
  head_of_chain = λ id idx. edited-kept (with_head_of_chain id idx) (chain-edited id idx);
  extra_link = λ id from to. edited-kept (with_extra_link id from to) (link-edited id from to);
}
