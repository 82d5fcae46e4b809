-- The frames in the last slots of a receive ring that has just got them.
use Rattle.std.proofs.Common.{ℕ, suc, ◌+◌, ◌-◌, ◌<◌, ◌≤◌, ◌≡◌, ◌⊎◌, ◌==◌, Bool, true, false, ◌&&◌, nat_lt, List, [], ◌∷◌, ◌++◌, map, fold, take, length, get_or, Option, Some, None, refl, sym, ◌∙◌, ap, subst, arith, length-append, append_assoc}
use Rattle.std.specs.Prelude.{option_and_then, unwrap_or, if◌then◌else◌, ◌%◌}
use Rattle.std.specs.List.{AllByRecursion as Each}
use Rattle.std.specs.Option.{option_map_or}
use Rattle.std.proofs.Math.Nat.{mod-eq_of_lt}
use Rattle.std.proofs.lemmas.Bool.{eq-eqb}
use Rattle.std.proofs.lemmas.List.{length-map, map-append, length-set, get_or-set_same as get_or-set}
use Rattle.std.proofs.lemmas.List.Sums.{fold-append}
use Rattle.std.proofs.Math.Seq.{get_or-append_seam, take-append_seam}
use Rattle.nm_types.proofs.Tests.{less_true}
use Rattle.nm_types.specs.declared.id.Side.TheVariants.{Rx}
use Rattle.nm_types.specs.Buffers.{cleared_but}
use Rattle.nm_types.specs.Parts.{cut_frames}
use Rattle.nm_types.specs.Positions.{RingState, dist, step_on, slots_from, is_user_slot}
use Rattle.nm_types.specs.Slots.{SlotState}
use Rattle.nm_types.specs.SyncChecks.{contains_index}
use Rattle.nm_types.specs.OwnEdits.{user_slot}
use Rattle.nm_types.specs.OwnPorts.{OwnRing, OwnPort, OwnState, Arrival, bytes_at, blank_slot, port_with_id, ring_at, ring_on, slot_in, named_of, user_buffers_if}
use Rattle.nm_types.specs.OwnSyncs.{published, with_arrival, buffers_of_arrivals}
use Rattle.nm_types.proofs.RingSteps.{dist-below, dist-cases, dist-step_on, step_on-cases, step_on-below, step_on-size, step_on-step_on, slots_from-add}
use Rattle.vale_entry.specs.Holdings.{contains}
use Rattle.vale_entry.proofs.Counting.{count_of, count_of-cons, count_of-append}
use Rattle.vale_own.proofs.SideMoves.{one_if, came-other}
use Rattle.vale_own.proofs.SidePlaces.{in-first, in-second, named-in-ports}
use Rattle.vale_own.specs.Side.{IsRxRing}
use Rattle.nm_port.specs.Gathered.{gathered}
use Rattle.nm_user.specs.Saving.{bytes_or_none, readable_bytes, slot_or_blank, count_to_tail, slots_to_tail, frames_in_slots, frames_from, bytes_of_frame}
use Rattle.nm_user.proofs.JoinedParts.{Holds, part_in_arrival, joined-again}

-- the position so many steps before a ring's tail, going round
abbrev before_tail : ℕ → RingState → ℕ
before_tail back ring = step_on ring.size ring.tail (ring.size - back)

-- the slot there, if it is one of the user's: 1 step back is the last that came
abbrev slot_before_tail : ℕ → OwnRing → Option SlotState
slot_before_tail back r = user_slot Rx r (before_tail back r.ring)

-- ---- positions

-- so many steps before the tail the distance is so much less
dist-before : (size accepted tail back : ℕ) → accepted < size → tail < size → 1 ≤ back → back ≤ dist size accepted tail
    → dist size accepted (step_on size tail (size - back)) ≡ dist size accepted tail - back
dist-before size accepted tail back a t some few =
    let before = dist-cases size accepted tail a t in
    let less = dist-below size accepted tail a in
    let rest : (size - back) + back ≡ size = omega (arith, less, few) in
    let stepped = step_on-cases size tail (size - back) t (omega arith) in
    let small = step_on-below size tail (size - back) t in
    let after = dist-cases size accepted (step_on size tail (size - back)) a small in
    let below = dist-below size accepted (step_on size tail (size - back)) a in
    found (dist size accepted (step_on size tail (size - back))) (dist size accepted tail) (step_on size tail (size - back)) size accepted tail (size - back) back below less small rest some few before stepped after
  where
    found : (e d s size a t k back : ℕ) → e < size → d < size → s < size → k + back ≡ size → 1 ≤ back → back ≤ d → (a + d ≡ t) ⊎ (a + d ≡ t + size)
        → (s ≡ t + k) ⊎ (s + size ≡ t + k) → (a + e ≡ s) ⊎ (a + e ≡ s + size) → e ≡ d - back
    found e d s size a t k back el dl sl rest some few before stepped after = grind arith

-- a side whose port's receive ring ends with these parts of frames, each in a buffer of its own
pub record Came (s : OwnState) (id : ℕ) (port : OwnPort) (came : List Arrival) : Type 0 where
  pub found : port_with_id s id ≡ Some port
  pub sound : IsRxRing port.rx
  pub front : List SlotState
  pub slots : port.rx.slots ≡ front ++ map published came
  pub behind : List ℕ
  pub held : port.rx.held ≡ behind ++ buffers_of_arrivals came
  pub base : List (List ℕ)
  pub bytes : s.bytes ≡ fold with_arrival base came
  pub once : (b : ℕ) → count_of b (buffers_of_arrivals came) ≤ 1
  pub within : (b : ℕ) → 1 ≤ count_of b (buffers_of_arrivals came) → b < length s.bytes

-- ---- one part

module _ (s : OwnState) (id : ℕ) (port : OwnPort) (done rest : List Arrival) (a : Arrival) (c : Came s id port (done ++ a ∷ rest)) where
  abbrev r : OwnRing
  r = port.rx

  abbrev back : ℕ
  back = suc (length rest)

  abbrev ahead : List SlotState
  ahead = c.front ++ map published done

  slots-are : r.slots ≡ ahead ++ published a ∷ map published rest
  slots-are =
      c.slots ∙ (ap (λ (xs : List SlotState). c.front ++ xs) (map-append published done (a ∷ rest)) ∙ sym (append_assoc c.front (map published done) (published a ∷ map published rest)))

  count-is : length r.slots ≡ length ahead + back
  count-is = ap (λ (xs : List SlotState). length xs) slots-are ∙ (length-append ahead (published a ∷ map published rest) ∙ ap (λ (n : ℕ). length ahead + suc n) (length-map rest published))

  reach : dist r.ring.size r.ring.accepted_head r.ring.tail ≡ length ahead + back
  reach = ap (dist r.ring.size r.ring.accepted_head) c.sound.positions.one_tail ∙ (sym c.sound.slots ∙ count-is)

  steps : dist r.ring.size r.ring.accepted_head (before_tail back r.ring) ≡ length ahead
  steps =
      let far = dist-before r.ring.size r.ring.accepted_head r.ring.tail back c.sound.positions.accepted c.sound.positions.within (omega arith) (let n = reach in omega (arith, n)) in
      let n = reach in
      omega (arith, far, n)

  is-user : is_user_slot r.ring (before_tail back r.ring) ≡ true
  is-user =
      let inside = less_true (before_tail back r.ring) r.ring.size (step_on-below r.ring.size r.ring.tail (r.ring.size - back) c.sound.positions.within) in
      let n = reach in
      let far : dist r.ring.size r.ring.accepted_head r.ring.last_tail ≡ length ahead + back = ap (dist r.ring.size r.ring.accepted_head) (sym c.sound.positions.one_tail) ∙ n in
      let here = steps in
      let near = less_true (dist r.ring.size r.ring.accepted_head (before_tail back r.ring)) (dist r.ring.size r.ring.accepted_head r.ring.last_tail) (omega (arith, far, here)) in
      both (nat_lt (before_tail back r.ring) r.ring.size) (nat_lt (dist r.ring.size r.ring.accepted_head (before_tail back r.ring)) (dist r.ring.size r.ring.accepted_head r.ring.last_tail)) inside near
    where
      both : (x y : Bool) → x ≡ true → y ≡ true → (x && y) ≡ true
      both true y e f = f
      both false y e f = absurd cc

  slot-is : slot_in Rx r (before_tail back r.ring) ≡ published a
  slot-is =
      ap (λ (n : ℕ). get_or r.slots n blank_slot) steps
      ∙ (ap (λ (xs : List SlotState). get_or xs (length ahead) blank_slot) slots-are ∙ get_or-append_seam ahead (published a) (map published rest) blank_slot)

  found-slot : slot_before_tail back r ≡ Some (published a)
  found-slot = if-so (is_user_slot r.ring (before_tail back r.ring)) (slot_in Rx r (before_tail back r.ring)) is-user ∙ ap (λ (x : SlotState). Some x) slot-is
    where
      if-so : (b : Bool) (x : SlotState) → b ≡ true → (if b then Some x else None) ≡ Some x
      if-so true x e = refl
      if-so false x e = absurd cc

  -- the buffer may be named, and has the bytes
  here : 1 ≤ count_of a.buffer (buffers_of_arrivals (done ++ a ∷ rest))
  here =
      let split = ap (count_of a.buffer) (map-append (λ (x : Arrival). x.buffer) done (a ∷ rest)) ∙ count_of-append a.buffer (buffers_of_arrivals done) (a.buffer ∷ buffers_of_arrivals rest) in
      let one = count_of-cons a.buffer a.buffer (buffers_of_arrivals rest) in
      let is : one_if (a.buffer == a.buffer) ≡ one_if true = ap one_if (eq-eqb a.buffer a.buffer refl) in
      omega (arith, split, one, is)

  none-later : count_of a.buffer (buffers_of_arrivals rest) ≡ 0
  none-later =
      let split = ap (count_of a.buffer) (map-append (λ (x : Arrival). x.buffer) done (a ∷ rest)) ∙ count_of-append a.buffer (buffers_of_arrivals done) (a.buffer ∷ buffers_of_arrivals rest) in
      let one = count_of-cons a.buffer a.buffer (buffers_of_arrivals rest) in
      let is : one_if (a.buffer == a.buffer) ≡ one_if true = ap one_if (eq-eqb a.buffer a.buffer refl) in
      let most = c.once a.buffer in
      omega (arith, split, one, is, most)

  named : contains_index (named_of s) a.buffer ≡ true
  named =
      let first : contains a.buffer (a.buffer ∷ buffers_of_arrivals rest) ≡ true = first-is (eq-eqb a.buffer a.buffer refl) in
      let came : contains a.buffer (buffers_of_arrivals (done ++ a ∷ rest)) ≡ true =
      ap (contains a.buffer) (map-append (λ (x : Arrival). x.buffer) done (a ∷ rest)) ∙ in-second a.buffer (buffers_of_arrivals done) (a.buffer ∷ buffers_of_arrivals rest) first in
      let held : contains a.buffer r.held ≡ true = ap (contains a.buffer) c.held ∙ in-second a.buffer c.behind (buffers_of_arrivals (done ++ a ∷ rest)) came in
      named-in-ports id s.ports port a.buffer c.found
      (in-second a.buffer (user_buffers_if port.tx) (r.held ++ port.extra) (in-first a.buffer r.held port.extra held))
    where
      first-is : (a.buffer == a.buffer) ≡ true → contains a.buffer (a.buffer ∷ buffers_of_arrivals rest) ≡ true
      first-is e = rw e refl

  bytes-are : bytes_at s a.buffer ≡ cleared_but a.bytes
  bytes-are =
      ap (λ (all : List (List ℕ)). get_or all a.buffer []) (c.bytes ∙ fold-split)
      ∙ (came-other rest (with_arrival before a) a.buffer none-later ∙ get_or-set before a.buffer (cleared_but a.bytes) [] inside)
    where
      before : List (List ℕ)
      before = fold with_arrival c.base done

      fold-split : fold with_arrival c.base (done ++ a ∷ rest) ≡ fold with_arrival (with_arrival before a) rest
      fold-split = fold-append with_arrival c.base done (a ∷ rest)

      long : (came : List Arrival) (all : List (List ℕ)) → length (fold with_arrival all came) ≡ length all
      long [] all = refl
      long (x ∷ came) all = long came (with_arrival all x) ∙ length-set all x.buffer (cleared_but x.bytes)

      inside : a.buffer < length before
      inside =
          let n = c.within a.buffer here in
          let all = ap (λ (xs : List (List ℕ)). length xs) c.bytes ∙ long (done ++ a ∷ rest) c.base in
          let some = long done c.base in
          omega (arith, n, all, some)

  readable : readable_bytes s a.buffer ≡ cleared_but a.bytes
  readable = ap bytes_or_none (if-so (contains_index (named_of s) a.buffer) (bytes_at s a.buffer) named) ∙ bytes-are
    where
      if-so : (b : Bool) (x : List ℕ) → b ≡ true → (if b then Some x else None) ≡ Some x
      if-so true x e = refl
      if-so false x e = absurd cc

  part-is : take (length a.bytes) (readable_bytes s a.buffer) ≡ a.bytes
  part-is = ap (take (length a.bytes)) readable ∙ take-append_seam a.bytes _

-- ---- all of them

-- the slots that came, one after another
next-place : (size tail n : ℕ) → suc n ≤ size → step_on size (step_on size tail (size - suc n)) 1 ≡ step_on size tail (size - n)
next-place size tail n few = step_on-step_on size tail (size - suc n) 1 ∙ ap (step_on size tail) (omega (arith, few))

slots-split : (f : ℕ → SlotState) (size at n : ℕ) → at < size → map f (slots_from size at (suc n)) ≡ f at ∷ map f (slots_from size (step_on size at 1) n)
slots-split f size at n within =
    let one : 1 + n ≡ suc n = omega arith in
    let here : step_on size at 0 ≡ at = ap (λ (m : ℕ). m % size) (omega arith) ∙ mod-eq_of_lt within in
    ap (λ (m : ℕ). map f (slots_from size at m)) (sym one)
    ∙ (ap (map f) (slots_from-add size at 1 n) ∙ ap (λ (m : ℕ). f m ∷ map f (slots_from size (step_on size at 1) n)) here)

slots-came : (s : OwnState) (id : ℕ) (port : OwnPort) (done rest : List Arrival) → Came s id port (done ++ rest)
    → map (slot_or_blank port.rx) (slots_from port.rx.ring.size (before_tail (length rest) port.rx.ring) (length rest)) ≡ map published rest
slots-came s id port done [] c = refl
slots-came s id port done (a ∷ rest) c =
    let r = port.rx in
    let ring = r.ring in
    let at = before_tail (suc (length rest)) ring in
    let n = reach s id port done rest a c in
    let below = dist-below ring.size ring.accepted_head ring.tail c.sound.positions.accepted in
    let first : slot_or_blank r at ≡ published a = ap (λ (o : Option SlotState). unwrap_or o blank_slot) (found-slot s id port done rest a c) in
    let next : step_on ring.size at 1 ≡ before_tail (length rest) ring = next-place ring.size ring.tail (length rest) (omega (arith, n, below)) in
    let others = slots-came s id port (done ++ a ∷ []) rest (subst (Came s id port) (sym (append_assoc done (a ∷ []) rest)) c) in
    slots-split (slot_or_blank r) ring.size at (length rest) (step_on-below ring.size ring.tail (ring.size - suc (length rest)) c.sound.positions.within)
    ∙ (ap (λ (x : SlotState). x ∷ map (slot_or_blank r) (slots_from ring.size (step_on ring.size at 1) (length rest))) first
    ∙ ap (λ (xs : List SlotState). published a ∷ xs) (ap (λ (from : ℕ). map (slot_or_blank r) (slots_from ring.size from (length rest))) next ∙ others))

parts-came : (s : OwnState) (id : ℕ) (port : OwnPort) (done rest : List Arrival) → Came s id port (done ++ rest) → Each (Holds (readable_bytes s)) rest
parts-came s id port done [] c = tt
parts-came s id port done (a ∷ rest) c =
    (part-is s id port done rest a c, parts-came s id port (done ++ a ∷ []) rest (subst (Came s id port) (sym (append_assoc done (a ∷ []) rest)) c))

-- they are fewer than there are slots
came-few : (s : OwnState) (id : ℕ) (port : OwnPort) (came : List Arrival) → Came s id port came → length came < port.rx.ring.size
came-few s id port came c =
    let ring = port.rx.ring in
    let all = ap (λ (xs : List SlotState). length xs) c.slots ∙ (length-append c.front (map published came) ∙ ap (λ (n : ℕ). length c.front + n) (length-map came published)) in
    let held = c.sound.slots in
    let below = dist-below ring.size ring.accepted_head ring.last_tail c.sound.positions.accepted in
    omega (arith, all, held, below)

-- where the tail was before them
old-place : (size old n : ℕ) → old < size → n ≤ size → step_on size (step_on size old n) (size - n) ≡ old
old-place size old n within few = step_on-step_on size old n (size - n) ∙ (ap (step_on size old) (omega (arith, few)) ∙ step_on-size size old within)

-- the frames in them, which were cut
pub frames-came : (s : OwnState) (id old : ℕ) (port : OwnPort) (came : List Arrival) (frames : List (List ℕ)) → Came s id port came → old < port.rx.ring.size → port.rx.ring.tail ≡ step_on port.rx.ring.size old (length came)
    → map part_in_arrival came ≡ cut_frames frames → map bytes_of_frame (frames_from s id old) ≡ frames
frames-came s id old port came frames c within moved cut =
    let r = port.rx in
    let ring = r.ring in
    let n = length came in
    let few = came-few s id port came c in
    let at : ring_at Rx s id ≡ Some r = ap (option_and_then (ring_on Rx)) c.found in
    let place : before_tail n ring ≡ old = ap (λ (tail : ℕ). step_on ring.size tail (ring.size - n)) moved ∙ old-place ring.size old n within (omega (arith, few)) in
    let test : nat_lt old ring.size ≡ true = less_true old ring.size within in
    let far : dist ring.size old ring.tail ≡ n = ap (dist ring.size old) moved ∙ dist-step_on ring.size old n within few in
    let count : count_to_tail old ring ≡ n = rw test far in
    let slots : slots_to_tail old r ≡ map published came =
    ap (λ (m : ℕ). map (slot_or_blank r) (slots_from ring.size old m)) count
    ∙ (ap (λ (from : ℕ). map (slot_or_blank r) (slots_from ring.size from n)) (sym place) ∙ slots-came s id port [] came c) in
    ap (λ (o : Option OwnRing). map bytes_of_frame (option_map_or (frames_in_slots s old) o [])) at
    ∙ (ap (λ (xs : List SlotState). map bytes_of_frame (gathered (readable_bytes s) [] false xs)) slots
    ∙ joined-again (readable_bytes s) came frames (parts-came s id port [] came c) cut)
