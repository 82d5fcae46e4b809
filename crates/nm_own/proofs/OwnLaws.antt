-- The frames of a receive sync come one after another.
use Rattle.std.proofs.Common.{ℕ, ◌≡◌, ◌<◌, ◌≤◌, ◌+◌, ◌-◌, ◌||◌, true, false, nat_eq, nat_lt, nat_le, List, [], ◌∷◌, ◌++◌, length, map, fold, drop, Option, Some, None, option_map, inl, inr, refl, sym, ◌∙◌, ap, subst, arith, append_assoc, length-append}
use Rattle.std.specs.Prelude.{option_and_then}
use Rattle.std.specs.Option.{option_map_or}
use Rattle.std.proofs.lemmas.Bool.{cases_Bool}
use Rattle.std.proofs.lemmas.Bool.Decides.{nat_tests}
use Rattle.std.proofs.lemmas.List.{map-append}
use Rattle.std.proofs.lemmas.List.Sums.{fold-append}
use Rattle.std.proofs.lemmas.Option.{same_Some}
use Rattle.nm_types.specs.declared.id.Side.TheVariants.{Rx}
use Rattle.nm_types.specs.Positions.{RingState, IsRing, FitsRing, dist, step_on, kernel_count}
use Rattle.nm_types.specs.Slots.{Pushed, SlotState}
use Rattle.nm_types.specs.SyncChecks.{is_beyond}
use Rattle.nm_types.specs.OwnPorts.{OwnRing, OwnPort, OwnState, Arrival, ring_at, ring_on, port_with_id, port_if, with_ring_on, pushed_count, pushed_on, pushed_in, named_of, is_whole, refusal_in, refusal_at}
use Rattle.nm_types.specs.OwnSyncs.{accepted, port_swapped, buffer_on, after_slot, after_exchange, published, buffers_of_arrivals, with_arrival, without_bytes_of, back_on, ring_after_receive, own_after_receive}
use Rattle.nm_types.proofs.RingSteps.{dist-below, dist-add, dist_self, step_on-step_on}
use Rattle.nm_types.proofs.Tests.{less_true, same_true}
use Rattle.nm_slot.proofs.CheckLaws.{passed_positions_fit}
use Rattle.nm_port.specs.Receives.{has_free_slot, ring_with_arrival, own_with_arrival}
use Rattle.nm_own.specs.Laws.{FramesComeOneByOne, RoomForFrames}

-- one frame more
module _ (done : List Arrival) (a : Arrival) where
  ring_next : (r : OwnRing) → ring_after_receive (done ++ a ∷ []) r ≡ ring_with_arrival a (ring_after_receive done r)
  ring_next r =
      let count : length (done ++ a ∷ []) ≡ length done + 1 = length-append done (a ∷ []) in
      let positions : accepted (length (done ++ a ∷ [])) r.ring ≡ accepted 1 (accepted (length done) r.ring) =
      ap (λ (n : ℕ). accepted n r.ring) count ∙ ap (λ (tail : ℕ). record { size = r.ring.size; head = r.ring.head; cur = r.ring.cur; tail = tail; accepted_head = r.ring.head; last_tail = tail }) (sym (step_on-step_on r.ring.size r.ring.last_tail (length done) 1)) in
      let slots : drop (pushed_count r) r.slots ++ map published (done ++ a ∷ []) ≡ (drop (pushed_count r) r.slots ++ map published done) ++ published a ∷ [] =
      ap (λ (xs : List SlotState). drop (pushed_count r) r.slots ++ xs) (map-append published done (a ∷ [])) ∙ sym (append_assoc (drop (pushed_count r) r.slots) (map published done) (published a ∷ [])) in
      let held : drop (pushed_count r) r.held ++ buffers_of_arrivals (done ++ a ∷ []) ≡ (drop (pushed_count r) r.held ++ buffers_of_arrivals done) ++ a.buffer ∷ [] =
      ap (λ (xs : List ℕ). drop (pushed_count r) r.held ++ xs) (map-append (λ (x : Arrival). x.buffer) done (a ∷ [])) ∙ sym (append_assoc (drop (pushed_count r) r.held) (buffers_of_arrivals done) (a.buffer ∷ [])) in
      made positions slots held
    where
      made : {p q : RingState} {s t : List SlotState} {h k : List ℕ} → p ≡ q → s ≡ t → h ≡ k → (let x : OwnRing = record { ring = p; slots = s; held = h } in x) ≡ (let x : OwnRing = record { ring = q; slots = t; held = k } in x)
      made e f g = rw (e, f, g) refl

  ports_next : (id : ℕ) (ports : List OwnPort) → map (port_if id (with_ring_on Rx (ring_after_receive (done ++ a ∷ [])))) ports
      ≡ map (port_if id (with_ring_on Rx (ring_with_arrival a))) (map (port_if id (with_ring_on Rx (ring_after_receive done))) ports)
  ports_next id [] = refl
  ports_next id (p ∷ ports) = elim (cases_Bool (nat_eq p.id.0 id)) [
    | inl here ↦ rw (here, here, ring_next p.rx) (ap (λ (xs : List OwnPort). record p { rx = ring_with_arrival a (ring_after_receive done p.rx) } ∷ xs) (ports_next id ports))
    | inr other ↦ rw (other, other) (ap (λ (xs : List OwnPort). p ∷ xs) (ports_next id ports))
  ]

  own_next : (id : ℕ) (s : OwnState) → own_after_receive id (done ++ a ∷ []) s ≡ own_with_arrival id (own_after_receive id done s) a
  own_next id s =
      let bytes = fold-append with_arrival (fold without_bytes_of s.bytes (back_on id s)) done (a ∷ []) in
      rw (ports_next id (after_exchange Rx id s).ports, bytes) refl

come_from : (id : ℕ) (s : OwnState) (done came : List Arrival) → fold (own_with_arrival id) (own_after_receive id done s) came ≡ own_after_receive id (done ++ came) s
come_from id s done [] = ap (λ (all : List Arrival). own_after_receive id all s) (sym (append_none done))
  where
    append_none : (xs : List Arrival) → xs ++ [] ≡ xs
    append_none [] = refl
    append_none (y ∷ ys) = ap (λ (zs : List Arrival). y ∷ zs) (append_none ys)
come_from id s done (a ∷ came) =
    ap (λ (x : OwnState). fold (own_with_arrival id) x came) (sym (own_next done a id s))
    ∙ (come_from id s (done ++ a ∷ []) came ∙ ap (λ (all : List Arrival). own_after_receive id all s) (append_assoc done (a ∷ []) came))

pub frames_come : FramesComeOneByOne
frames_come id came s = come_from id s [] came

-- the positions of a receive ring, which an exchange leaves
abbrev positions_in : ℕ → List OwnPort → Option RingState
positions_in id ports = option_map (λ (r : OwnRing). r.ring) (ring_at Rx (record { pool = 0; ports = ports; bytes = [] }) id)

swap_stays : (id a b : ℕ) (ports : List OwnPort) → positions_in id (map (port_swapped a b) ports) ≡ positions_in id ports
swap_stays id a b [] = refl
swap_stays id a b (p ∷ ports) = elim (cases_Bool (nat_eq p.id.0 id)) [
  | inl here ↦ rw here refl
  | inr other ↦ rw other (swap_stays id a b ports)
]

exchange_stays : (id : ℕ) (pushed : List Pushed) (ports : List OwnPort) → positions_in id (fold (after_slot Rx id) ports pushed) ≡ positions_in id ports
exchange_stays id [] ports = refl
exchange_stays id (x ∷ pushed) ports = exchange_stays id pushed (after_slot Rx id ports x) ∙ swap_stays id (buffer_on Rx id ports x.at) x.slot.buf_idx ports

received_positions : (id : ℕ) (came : List Arrival) (ports : List OwnPort) → positions_in id (map (port_if id (with_ring_on Rx (ring_after_receive came))) ports) ≡ option_map (accepted (length came)) (positions_in id ports)
received_positions id came [] = refl
received_positions id came (p ∷ ports) = elim (cases_Bool (nat_eq p.id.0 id)) [
  | inl here ↦ rw (here, here) refl
  | inr other ↦ rw (other, other) (received_positions id came ports)
]

free_by_positions : (o : Option OwnRing) → option_map_or (λ (r : OwnRing). has_free_slot r.ring) o false ≡ option_map_or has_free_slot (option_map (λ (r : OwnRing). r.ring) o) false
free_by_positions None = refl
free_by_positions (Some r) = refl

not_beyond : (size from to at : ℕ) → at < size → dist size from at ≤ dist size from to → is_beyond size from to at ≡ false
not_beyond size from to at inside reach = over (dist size from to) (dist size from at) reach
  where
    over : (d e : ℕ) → e ≤ d → (nat_le size at || nat_lt d e) ≡ false
    over d e below = grind (arith, nat_tests)

free_after : (ring : RingState) (n : ℕ) → IsRing ring → FitsRing ring ring.head ring.cur → n < kernel_count ring.size ring.head ring.last_tail → has_free_slot (accepted n ring) ≡ true
free_after ring n is fits few =
    let size = ring.size in
    let tail : ring.last_tail < size = (let w = is.within in let o = is.one_tail in omega arith) in
    let below = dist-below size ring.head ring.last_tail fits.head_within in
    let farther = dist-add size ring.head ring.last_tail n fits.head_within tail (omega arith) in
    let none = dist_self size ring.head fits.head_within in
    let head = not_beyond size ring.head (step_on size ring.last_tail n) ring.head fits.head_within (omega (arith, none)) in
    let cur = not_beyond size ring.head (step_on size ring.last_tail n) ring.cur fits.cur_within (omega (arith, farther, fits.cur_reach)) in
    rw (head, cur, same_true ring.head ring.head refl, less_true (dist size ring.head (step_on size ring.last_tail n)) (size - 1) (omega (arith, farther, few))) refl

passed_fits : (id : ℕ) (s : OwnState) (r : OwnRing) → ring_at Rx s id ≡ Some r → refusal_at Rx id s ≡ None → FitsRing r.ring r.ring.head r.ring.cur
passed_fits id s r at passes = by (port_with_id s id) at passes
  where
    by : (o : Option OwnPort) → option_and_then (ring_on Rx) o ≡ Some r → option_and_then (λ (p : OwnPort). option_and_then (refusal_in Rx s p) (ring_on Rx p)) o ≡ None → FitsRing r.ring r.ring.head r.ring.cur
    by None at passes = absurd cc
    by (Some p) at passes =
        let same : p.rx ≡ r = same_Some p.rx r at in
        subst (λ (t : OwnRing). FitsRing t.ring t.ring.head t.ring.cur) same (passed_positions_fit Rx (is_whole p) s.pool (named_of s) p.rx.ring (pushed_in Rx p.rx) passes)

pub room_for_frames : RoomForFrames
room_for_frames id came s r at is passes few =
    let fits = passed_fits id s r at passes in
    let positions : positions_in id (own_after_receive id came s).ports ≡ Some (accepted (length came) r.ring) =
    received_positions id came (after_exchange Rx id s).ports
    ∙ ap (option_map (accepted (length came))) (exchange_stays id (pushed_on Rx id s) s.ports ∙ ap (option_map (λ (t : OwnRing). t.ring)) at) in
    free_by_positions (ring_at Rx (own_after_receive id came s) id) ∙ (ap (λ (o : Option RingState). option_map_or has_free_slot o false) positions ∙ free_after r.ring (length came) is fits few)

pub ruleset own_laws = (frames_come, room_for_frames)
