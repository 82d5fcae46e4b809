-- What a put makes of a session's side.
use Rattle.std.proofs.Common.{ℕ, zero, suc, ◌+◌, ◌<◌, ◌≤◌, ◌≡◌, false, cond, ◌==◌, nat_eq, List, [], ◌∷◌, ◌++◌, map, fold, set, take, drop, flat_map, length, get_or, Option, Some, None, option_map, refl, sym, ◌∙◌, ap, ap₂, arith, inl, inr}
use Rattle.std.specs.Prelude.{find}
use Rattle.std.specs.List.{AllByRecursion as Each, IsDistinct, zip}
use Rattle.std.proofs.lemmas.Bool.{cases_Bool, eqb-false, ne_eqb}
use Rattle.std.proofs.lemmas.List.{length-map, length-set, get_or-set_other, length-take-le}
use Rattle.nm_types.specs.declared.id.Side.TheVariants.{Tx}
use Rattle.nm_types.specs.Positions.{pushed_slots}
use Rattle.nm_types.specs.Slots.{SlotState}
use Rattle.nm_types.specs.OwnPorts.{OwnRing, OwnPort, OwnState, Arrival, buffers_in, held_if, blank_slot, slot_in, port_with_id, with_ring_on, refusal_in}
use Rattle.nm_types.specs.OwnSyncs.{slots_after_push, offered_slots, with_slot_refilled, with_place_refilled, ring_after_put, taken_from, taken_on, bytes_after, buffers_of_arrivals, own_after_put, after_exchange}
use Rattle.nm_types.proofs.RingSteps.{step_on-below, length-slots_from, slots_from-distinct}
use Rattle.vale_entry.specs.OwnCalls.{item_at, offered_items}
use Rattle.vale_entry.specs.Pipe.{indices_of}
use Rattle.vale_entry.proofs.Counting.{count_of, count_of-cons, count_of-append}
use Rattle.vale_entry.proofs.Each.{each-weaker, each-both, each-all, each-drop, each-find}
use Rattle.vale_own.specs.Side.{buffers_on, port_of_side, IsPending, IsTxRing, IsSoundPort, IsSound}
use Rattle.vale_own.proofs.Trading.{ring_renamed, port_renamed}
use Rattle.vale_own.proofs.SidePlaces.{each-slot, in-port, in-ports}
use Rattle.vale_own.proofs.SideExchange.{traded, fits, exchanged-counts}
use Rattle.vale_own.proofs.SideSound.{Exchanged, exchanged}
use Rattle.vale_own.proofs.SideOffers.{exchanged-is, offered-pending, ring-is, first, total, total-few, first-in, offered-are, accepted-ring, left-pending, pushed-length, slot-seen}
use Rattle.vale_own.proofs.SideMoves.{changed-each, changed-ids, changed-counts, changed-same, Moved}
use Rattle.vale_own.proofs.SideReceives.{arrivals-length}
use Rattle.vale_own.proofs.SideSends.{renamed-seen, tx-seen, ring-keeps-id}

-- a list of different numbers, cut in two
pub distinct-cut : (n : ℕ) (xs : List ℕ) → IsDistinct nat_eq xs → Each (λ y. Each (λ x. nat_eq x y ≡ false) (take n xs)) (drop n xs)
unfolding IsDistinct
distinct-cut zero xs apart = each-all (λ (y : ℕ). Each (λ x. nat_eq x y ≡ false) []) (λ y. tt) xs
distinct-cut (suc n) [] apart = tt
distinct-cut (suc n) (x ∷ xs) apart =
    each-both (λ y. nat_eq x y ≡ false) (λ y. Each (λ z. nat_eq z y ≡ false) (take n xs)) (λ y. Each (λ z. nat_eq z y ≡ false) (x ∷ take n xs))
    (λ y here rest. (here, rest)) (drop n xs) (each-drop (λ y. nat_eq x y ≡ false) n xs apart.0) (distinct-cut n xs apart.1)

pub distinct-taken : (n : ℕ) (xs : List ℕ) → IsDistinct nat_eq xs → IsDistinct nat_eq (take n xs)
unfolding IsDistinct
distinct-taken zero xs apart = tt
distinct-taken (suc n) [] apart = tt
distinct-taken (suc n) (x ∷ xs) apart = (each-taken n xs apart.0, distinct-taken n xs apart.1)
  where
    each-taken : (k : ℕ) (ys : List ℕ) → Each (λ y. nat_eq x y ≡ false) ys → Each (λ y. nat_eq x y ≡ false) (take k ys)
    each-taken zero ys all = tt
    each-taken (suc k) [] all = tt
    each-taken (suc k) (y ∷ ys) all = (all.0, each-taken k ys all.1)

pub each-front : (P : ℕ → Type 0) (n : ℕ) (xs : List ℕ) → Each P xs → Each P (take n xs)
each-front P zero xs all = tt
each-front P (suc n) [] all = tt
each-front P (suc n) (x ∷ xs) all = (all.0, each-front P n xs all.1)

-- places and slots that are refilled, and others
place-other : (ats bs held : List ℕ) (at : ℕ) → Each (λ x. nat_eq x at ≡ false) ats → get_or (fold with_place_refilled held (zip ats bs)) at 0 ≡ get_or held at 0
place-other [] bs held at apart = refl
place-other (x ∷ ats) [] held at apart = refl
place-other (x ∷ ats) (b ∷ bs) held at apart = place-other ats bs (set held x b) at apart.1 ∙ get_or-set_other held x at b 0 (λ e. eqb-false x at apart.0 (sym e))

slot-other : (ats bs : List ℕ) (slots : List SlotState) (at : ℕ) → Each (λ x. nat_eq x at ≡ false) ats → get_or (fold with_slot_refilled slots (zip ats bs)) at blank_slot ≡ get_or slots at blank_slot
slot-other [] bs slots at apart = refl
slot-other (x ∷ ats) [] slots at apart = refl
slot-other (x ∷ ats) (b ∷ bs) slots at apart =
    slot-other ats bs (with_slot_refilled slots (x, b)) at apart.1 ∙ get_or-set_other slots x at (record (get_or slots x blank_slot) { buf_idx = b }) blank_slot (λ e. eqb-false x at apart.0 (sym e))

places-length : (ats bs held : List ℕ) → length (fold with_place_refilled held (zip ats bs)) ≡ length held
places-length [] bs held = refl
places-length (x ∷ ats) [] held = refl
places-length (x ∷ ats) (b ∷ bs) held = places-length ats bs (set held x b) ∙ length-set held x b

slots-length : (ats bs : List ℕ) (slots : List SlotState) → length (fold with_slot_refilled slots (zip ats bs)) ≡ length slots
slots-length [] bs slots = refl
slots-length (x ∷ ats) [] slots = refl
slots-length (x ∷ ats) (b ∷ bs) slots = slots-length ats bs (with_slot_refilled slots (x, b)) ∙ length-set slots x (record (get_or slots x blank_slot) { buf_idx = b })

-- how often a buffer stands in places that were refilled
count-set : (b c at : ℕ) (held : List ℕ) → at < length held → count_of b (set held at c) + cond (get_or held at 0 == b) 1 0 ≡ count_of b held + cond (c == b) 1 0
count-set b c at [] below = absurd (omega arith)
count-set b c zero (x ∷ held) below =
    let old = count_of-cons b x held in
    let new = count_of-cons b c held in
    omega (arith, old, new)
count-set b c (suc at) (x ∷ held) below =
    let rest = count-set b c at held (omega arith) in
    let old = count_of-cons b x held in
    let new = count_of-cons b x (set held at c) in
    omega (arith, rest, old, new)

places-other : (x c : ℕ) (held ats : List ℕ) → Each (λ y. nat_eq x y ≡ false) ats → map (λ (at : ℕ). get_or (set held x c) at 0) ats ≡ map (λ (at : ℕ). get_or held at 0) ats
places-other x c held [] apart = refl
places-other x c held (at ∷ ats) apart = ap₂ (λ (b : ℕ) (bs : List ℕ). b ∷ bs) (get_or-set_other held x at c 0 (λ e. eqb-false x at apart.0 (sym e))) (places-other x c held ats apart.1)

count-refilled : (b : ℕ) (ats bs held : List ℕ) → IsDistinct nat_eq ats → Each (λ (at : ℕ). at < length held) ats → length ats ≡ length bs
    → count_of b (fold with_place_refilled held (zip ats bs)) + count_of b (map (λ (at : ℕ). get_or held at 0) ats) ≡ count_of b held + count_of b bs
unfolding IsDistinct
count-refilled b [] [] held apart inside same = refl
count-refilled b [] (c ∷ bs) held apart inside same = absurd (omega (arith, same))
count-refilled b (x ∷ ats) [] held apart inside same = absurd (omega (arith, same))
count-refilled b (x ∷ ats) (c ∷ bs) held apart inside same =
    let long = length-set held x c in
    let rest = count-refilled b ats bs (set held x c) apart.1 (each-weaker (λ (at : ℕ). at < length held) (λ (at : ℕ). at < length (set held x c)) (λ at below. omega (arith, below, long)) ats inside.1) (omega (arith, same)) in
    let others = ap (count_of b) (places-other x c held ats apart.0) in
    let one = count-set b c x held inside.0 in
    let came = count_of-cons b c bs in
    let gone = count_of-cons b (get_or held x 0) (map (λ (at : ℕ). get_or held at 0) ats) in
    omega (arith, rest, others, one, came, gone)

-- no more often than in all places
count-placed : (b : ℕ) (ats held : List ℕ) → IsDistinct nat_eq ats → Each (λ (at : ℕ). at < length held) ats → count_of b (map (λ (at : ℕ). get_or held at 0) ats) ≤ count_of b held
count-placed b ats held apart inside =
    let all = count-refilled b ats (map (λ (at : ℕ). b + 1) ats) held apart inside (sym (length-map ats (λ (at : ℕ). b + 1))) in
    let none = others ats in
    omega (arith, all, none)
  where
    others : (xs : List ℕ) → count_of b (map (λ (at : ℕ). b + 1) xs) ≡ 0
    others [] = refl
    others (x ∷ xs) =
        let rest = others xs in
        let all = count_of-cons b (b + 1) (map (λ (at : ℕ). b + 1) xs) in
        let not : (b + 1 == b) ≡ false = ne_eqb (b + 1) b (λ e. omega (arith, e)) in
        rw (all, not) (omega (arith, rest))

taken-on-is : (id n : ℕ) (ports : List OwnPort) (q : OwnPort) (t : OwnRing) → find (λ (x : OwnPort). x.id.0 == id) ports ≡ Some q → q.tx ≡ Some t → taken_on id ports n ≡ taken_from n t
taken-on-is id n [] q t found has = absurd cc
taken-on-is id n (x ∷ ports) q t found has = elim (cases_Bool (x.id.0 == id)) [
  | inl here ↦ (let is : x ≡ q = (let first : Some x ≡ Some q = rw here at found in cc) in
      let tx : x.tx ≡ Some t = ap (λ (y : OwnPort). y.tx) is ∙ has in
      rw (here, tx) refl)
  | inr other ↦ rw other (taken-on-is id n ports q t (rw other at found) has)
]

module _ (id : ℕ) (s : OwnState) (p : OwnPort) (r : OwnRing) (sound : IsSound s) (once : (b : ℕ) → count_of b (buffers_on s) ≤ 1) (found : port_with_id s id ≡ Some p) (has : p.tx ≡ Some r) (passes : refusal_in Tx s p r ≡ None)
    (came : List Arrival) (few : length came ≤ length (offered_slots r)) where
  abbrev to : ℕ → ℕ
  to = traded Tx id s p r sound once found has passes

  abbrev now : OwnRing
  now = ring_renamed to r

  abbrev bufs : List ℕ
  bufs = buffers_of_arrivals came

  abbrev ats : List ℕ
  ats = take (length bufs) (offered_slots r)

  traded-side : Exchanged Tx id s p to
  traded-side = exchanged Tx id s p r sound once found has passes

  now-has : (port_renamed to p).tx ≡ Some now
  now-has = ap (option_map (ring_renamed to)) has

  now-is : IsTxRing now
  now-is = exchanged-is id s p r sound once found has passes

  offered-apart : IsDistinct nat_eq (offered_slots r)
  offered-apart =
      let is = ring-is id s p r sound once found has passes in
      let in-reach = fits Tx id s p r sound once found has passes in
      let room = total-few r.ring is.positions in-reach in
      rw (← offered-are r.ring is.positions in-reach) (slots_from-distinct r.ring.size (first r.ring is.positions in-reach) (total r.ring is.positions in-reach) (first-in r.ring is.positions in-reach) (omega (arith, room)))

  offered-inside : Each (λ (at : ℕ). at < length now.held) (offered_slots r)
  offered-inside =
      let is = ring-is id s p r sound once found has passes in
      let in-reach = fits Tx id s p r sound once found has passes in
      let long = now-is.held in
      rw (← offered-are r.ring is.positions in-reach)
      (each-slot (λ (at : ℕ). at < length now.held) r.ring.size (first r.ring is.positions in-reach) (total r.ring is.positions in-reach)
      (λ k below. let here = step_on-below r.ring.size (first r.ring is.positions in-reach) k (first-in r.ring is.positions in-reach) in omega (arith, here, long)))

  pub offered-count : length (offered_slots r) ≡ total r.ring (ring-is id s p r sound once found has passes).positions (fits Tx id s p r sound once found has passes)
  offered-count =
      let is = ring-is id s p r sound once found has passes in
      let in-reach = fits Tx id s p r sound once found has passes in
      ap (λ (xs : List ℕ). length xs) (sym (offered-are r.ring is.positions in-reach)) ∙ length-slots_from r.ring.size (first r.ring is.positions in-reach) (total r.ring is.positions in-reach)

  ats-length : length ats ≡ length bufs
  ats-length = let same = arrivals-length came in length-take-le (length bufs) (offered_slots r) (omega (arith, same, few))

  put-ring : IsTxRing (ring_after_put bufs now)
  put-ring =
      let is = ring-is id s p r sound once found has passes in
      let in-reach = fits Tx id s p r sound once found has passes in
      let same = arrivals-length came in
      let count = offered-count in
      record {
        positions = accepted-ring r.ring is.positions in-reach (length bufs);
        slots = slots-length ats bufs (slots_after_push r.ring r.slots) ∙ (pushed-length (pushed_slots r.ring r.ring.head) r.slots ∙ now-is.slots);
        held = places-length ats bufs now.held ∙ now-is.held;
        pending = rw (left-pending r.ring is.positions in-reach (length bufs) (omega (arith, same, count, few)))
            (each-both (IsPending now) (λ (at : ℕ). Each (λ x. nat_eq x at ≡ false) ats) (IsPending (ring_after_put bufs now)) still (drop (length bufs) (offered_slots r))
            (each-drop (IsPending now) (length bufs) (offered_slots r) (offered-pending id s p r sound once found has passes)) (distinct-cut (length bufs) (offered_slots r) offered-apart));
      }
    where
      still : (at : ℕ) → IsPending now at → Each (λ x. nat_eq x at ≡ false) ats → IsPending (ring_after_put bufs now) at
      still at k apart =
          let slot = slot-other ats bufs (slots_after_push r.ring r.slots) at apart in
          record {
            named = ap (λ x. x.buf_idx) slot ∙ (slot-seen (λ x. x.buf_idx) (λ x. refl) r.ring r.slots at ∙ (k.named ∙ sym (place-other ats bufs now.held at apart)));
            fits = (let same = ap (λ x. x.len) slot ∙ slot-seen (λ x. x.len) (λ x. refl) r.ring r.slots at in let le = k.fits in omega (arith, same, le));
          }

  -- the buffers of the first slots offered go
  pub gone-on : taken_on id (after_exchange Tx id s).ports (length came) ≡ map (λ (at : ℕ). get_or now.held at 0) ats
  gone-on =
      taken-on-is id (length came) (after_exchange Tx id s).ports (port_renamed to p) now traded-side.found now-has
      ∙ ap (λ (n : ℕ). map (λ (at : ℕ). get_or now.held at 0) (take n (offered_slots r))) (sym (arrivals-length came))

  pub gone-are : map (λ (at : ℕ). get_or now.held at 0) ats ≡ indices_of (take (length came) (offered_items s r))
  gone-are =
      named ats (each-front (IsPending now) (length bufs) (offered_slots r) (offered-pending id s p r sound once found has passes))
      ∙ (ap (λ (n : ℕ). map (λ (at : ℕ). (slot_in Tx r at).buf_idx) (take n (offered_slots r))) (arrivals-length came) ∙ items (length came) (offered_slots r))
    where
      named : (xs : List ℕ) → Each (IsPending now) xs → map (λ (at : ℕ). get_or now.held at 0) xs ≡ map (λ (at : ℕ). (slot_in Tx r at).buf_idx) xs
      named [] all = refl
      named (x ∷ xs) all = ap₂ (λ (b : ℕ) (bs : List ℕ). b ∷ bs) (sym all.0.named) (named xs all.1)

      items : (n : ℕ) (xs : List ℕ) → map (λ (at : ℕ). (slot_in Tx r at).buf_idx) (take n xs) ≡ indices_of (take n (map (item_at s r) xs))
      items zero xs = refl
      items (suc n) [] = refl
      items (suc n) (x ∷ xs) = ap (λ (bs : List ℕ). (slot_in Tx r x).buf_idx ∷ bs) (items n xs)

  now-counts : (b : ℕ) → count_of b (flat_map buffers_in (after_exchange Tx id s).ports) ≡ count_of b (buffers_on s)
  now-counts = exchanged-counts Tx id s p r sound once found has passes

  gone-list : taken_on id (after_exchange Tx id s).ports (length came) ≡ indices_of (take (length came) (offered_items s r))
  gone-list = gone-on ∙ gone-are

  port-counts : (b : ℕ) → count_of b (buffers_in (with_ring_on Tx (ring_after_put bufs) (port_renamed to p))) + count_of b (indices_of (take (length came) (offered_items s r))) ≡ count_of b (buffers_in (port_renamed to p)) + count_of b bufs
  port-counts b =
      let refilled = count-refilled b ats bufs now.held (distinct-taken (length bufs) (offered_slots r) offered-apart) (each-front (λ (at : ℕ). at < length now.held) (length bufs) (offered_slots r) offered-inside) ats-length in
      let gone = ap (count_of b) gone-are in
      let rest = map to p.rx.held ++ map to p.extra in
      let old = count_of-append b now.held rest in
      let new = count_of-append b (fold with_place_refilled now.held (zip ats bufs)) rest in
      let old-is : count_of b (buffers_in (port_renamed to p)) ≡ count_of b (now.held ++ rest) = ap (λ (o : Option OwnRing). count_of b (held_if o ++ rest)) now-has in
      let new-is : count_of b (buffers_in (with_ring_on Tx (ring_after_put bufs) (port_renamed to p))) ≡ count_of b (fold with_place_refilled now.held (zip ats bufs) ++ rest) = ap (λ (o : Option OwnRing). count_of b (held_if (option_map (ring_after_put bufs) o) ++ rest)) now-has in
      omega (arith, refilled, gone, old, new, old-is, new-is)

  pub put-moved : Moved s (own_after_put id came s) (indices_of (take (length came) (offered_items s r))) came
  put-moved = record {
    pool_is = refl;
    each = changed-each id (with_ring_on Tx (ring_after_put bufs)) (after_exchange Tx id s).ports (port_renamed to p) traded-side.sound.apart traded-side.found traded-side.sound.each
        (record { tx = rw now-has put-ring; rx = (each-find IsSoundPort (λ (x : OwnPort). x.id.0 == id) (after_exchange Tx id s).ports (port_renamed to p) traded-side.sound.each traded-side.found).rx });
    apart = rw (changed-ids id (with_ring_on Tx (ring_after_put bufs)) (ring-keeps-id Tx (ring_after_put bufs)) (after_exchange Tx id s).ports) traded-side.sound.apart;
    bytes = ap (λ (gone : List ℕ). bytes_after gone came s.bytes) gone-list;
    less = λ b.
        let some = count-placed b ats now.held (distinct-taken (length bufs) (offered_slots r) offered-apart) (each-front (λ (at : ℕ). at < length now.held) (length bufs) (offered_slots r) offered-inside) in
        let gone = ap (count_of b) gone-are in
        let port = in-port Tx (port_renamed to p) now b now-has in
        let all = in-ports id (after_exchange Tx id s).ports (port_renamed to p) b traded-side.found in
        let same = now-counts b in
        omega (arith, some, gone, port, all, same);
    moved = λ b.
        let same = now-counts b in
        let all = changed-counts id (with_ring_on Tx (ring_after_put bufs)) b (count_of b (indices_of (take (length came) (offered_items s r)))) (count_of b bufs) (after_exchange Tx id s).ports (port_renamed to p) traded-side.sound.apart traded-side.found (port-counts b) in
        omega (arith, same, all);
  }

  pub put-ports : (session : ℕ) (shut : Option ℕ) → map (port_of_side session shut) (own_after_put id came s).ports ≡ map (port_of_side session shut) s.ports
  put-ports session shut =
      changed-same id (with_ring_on Tx (ring_after_put bufs)) (port_of_side session shut) (tx-seen session shut (ring_after_put bufs) (λ t. refl)) (after_exchange Tx id s).ports
      ∙ (ap (map (port_of_side session shut)) traded-side.ports ∙ renamed-seen session shut to s.ports)
