-- A frame that comes: its buffer stands in the slot at the tail, and that slot is the user's.
use Rattle.std.proofs.Common.{ℕ, ◌≡◌, ◌<◌, ◌≤◌, ◌+◌, ◌-◌, ◌&&◌, ◌||◌, Bool, true, false, nat_eq, nat_lt, if◌then◌else◌, List, [], ◌∷◌, ◌++◌, length, map, replicate, set, Option, Some, None, inl, inr, refl, sym, ◌∙◌, ap, arith, length-append}
use Rattle.std.specs.Prelude.{is_some, is_none, unwrap_or}
use Rattle.std.specs.Option.{option_map_or}
use Rattle.std.specs.List.{list_any}
use Rattle.std.proofs.lemmas.Bool.{cases_Bool}
use Rattle.std.proofs.lemmas.Bool.Decides.{nat_tests}
use Rattle.std.proofs.lemmas.List.{length-replicate}
use Rattle.std.proofs.lemmas.List.Folds.{list_any-append}
use Rattle.std.proofs.lemmas.Option.{same_Some}
use Rattle.nm_types.specs.declared.id.PortId.{PortId}
use Rattle.nm_types.specs.declared.id.Side.TheVariants.{Rx}
use Rattle.nm_types.specs.declared.place.Place.{Place}
use Rattle.nm_types.specs.declared.place.Place.TheVariants as place
use Rattle.nm_types.specs.declared.refusal.RingFault.{RingFault}
use Rattle.nm_types.specs.Places.{is_same_place}
use Rattle.nm_types.specs.Positions.{RingState, IsRing, dist, step_on, slots_from, FitsRing, kernel_count}
use Rattle.nm_types.specs.Buffers.{IsBufferIndex, cleared_but}
use Rattle.nm_types.specs.SyncChecks.{ring_refusal}
use Rattle.nm_types.specs.OwnPorts.{OwnRing, Arrival, with_ring_on}
use Rattle.nm_types.proofs.RingSteps.{dist-below, dist-step_on, dist-add, step_on-below, step_on-dist}
use Rattle.nm_types.proofs.Tests.{both_are, less_is, less_true, or_none, or_second, false_true, same_true}
use Rattle.nm_slot.proofs.CheckLaws.{passed_positions_fit}
use Rattle.nm_region.specs.Buffers.{Buffer}
use Rattle.nm_hold.specs.declared.standing.Standing.{Standing}
use Rattle.nm_hold.specs.Offsets.{has_place, offset_of}
use Rattle.nm_hold.specs.Holds.{HoldState, buffers_of, index_at, standing_at, with_cell, port_of, IsHold}
use Rattle.nm_hold.proofs.Spots.{nat_eq-is, same_place-is, same_place-refl}
use Rattle.nm_port.specs.declared.port.UserPort.{UserPort}
use Rattle.nm_own.specs.declared.own.OwnSide.TheInside.{Inside}
use Rattle.nm_port.specs.RingSlots.{RingSlots}
use Rattle.nm_port.specs.Sides.{number_at}
use Rattle.nm_port.specs.Own.{number_on, ring_seen, port_seen, own_seen, port_at, slots_at, bytes_in_cell, named_places_of, named_places, places_of_port, is_filled, is_filled_in, AreWhole}
use Rattle.nm_own.specs.Kept.{IsKept}
use Rattle.nm_port.specs.Filling.{placed}
use Rattle.nm_port.specs.Exchanges.{is_among}
use Rattle.nm_port.specs.Receives.{has_free_slot, can_receive, ring_with_arrival, own_with_arrival, ring_published, HasRoom}
use Rattle.nm_port.proofs.PortOut.{IsOther}
use Rattle.nm_own.proofs.Opening.{none_if}
use Rattle.nm_own.proofs.Closing.{Has, has_port}
use Rattle.nm_port.proofs.SlotLists.{accepted_ring}
use Rattle.nm_port.proofs.Seeing.{map-slots, port_same}
use Rattle.nm_port.proofs.Pushes.{seen_more}
use Rattle.nm_port.proofs.Checked.{found, ring_found, ring_not_found, side_found}
use Rattle.nm_own.proofs.Offered.{rx_ring_found}
use Rattle.nm_port.proofs.Ranges.{is_slot_from}
use Rattle.nm_own.proofs.OnePort.{Among, among, ChangesPort, filled_at, named_at, seen_with, tx_side_of}
use Rattle.nm_own.proofs.RxPlaces.{like_with_rx, filled_named, named_alike, with_rx, seen_with_rx}
use Rattle.nm_own.proofs.PutOne.{stands_here, stood_there, bytes_with_one, count_with_one, ports_with_one, whole_with_one}

not_itself : (n : ℕ) → nat_lt n n ≡ false
not_itself n = grind (arith, nat_tests)

port_of_id : (port id : PortId) → port.0 ≡ id.0 → port ≡ id
port_of_id port id e = ap (λ (n : ℕ). let i : PortId = record { 0 = n } in i) e

-- an own side with a receive ring that has a free slot
pub record Receives (h : HoldState) (ports : List UserPort) (id : PortId) (p : UserPort) (r : RingSlots) : Type 0 where
  pub has : Has h ports id p
  pub on : p.rx ≡ r
  pub is_ring : IsRing r.ring
  pub room : HasRoom r

none_is : (o : Option RingFault) → is_none o ≡ true → o ≡ None
none_is None e = refl
none_is (Some x) e = absurd cc

pub room_is : (ring : RingState) → IsRing ring → has_free_slot ring ≡ true → FitsRing ring ring.head ring.cur × (ring.accepted_head ≡ ring.head) × (0 < kernel_count ring.size ring.head ring.last_tail)
room_is ring is free =
    let both = both_are (is_none (ring_refusal ring ring.head ring.cur)) (nat_eq ring.accepted_head ring.head && nat_lt (dist ring.size ring.accepted_head ring.last_tail) (ring.size - 1)) free in
    let rest = both_are (nat_eq ring.accepted_head ring.head) (nat_lt (dist ring.size ring.accepted_head ring.last_tail) (ring.size - 1)) both.1 in
    let none : ring_refusal ring ring.head ring.cur ≡ None = none_is (ring_refusal ring ring.head ring.cur) both.0 in
    let accepted : ring.accepted_head ≡ ring.head = nat_eq-is ring.accepted_head ring.head rest.0 in
    let few = less_is (dist ring.size ring.accepted_head ring.last_tail) (ring.size - 1) rest.1 in
    let same : dist ring.size ring.accepted_head ring.last_tail ≡ dist ring.size ring.head ring.last_tail = ap (λ (at : ℕ). dist ring.size at ring.last_tail) accepted in
    (passed_positions_fit Rx false 0 [] ring [] (rw none refl), accepted, omega arith)

room_of : (r : RingSlots) → r.side ≡ Rx → IsRing r.ring → has_free_slot r.ring ≡ true → HasRoom r
room_of r side is free = let room = room_is r.ring is free in record { side = side; fits = room.0; accepted = room.1; free = room.2 }

pub receives_of : (o : Inside) (id : PortId) (r : RingSlots) → IsKept o → slots_at Rx o.ports.items id.0 ≡ Some r → can_receive id.0 (own_seen o.hold o.ports.items) ≡ true → (p : UserPort) × Receives o.hold o.ports.items id p r
receives_of o id r kept at can =
    let f = found o.ports.items Rx id r at in
    let side = side_found o.ports.items Rx id r kept.sided at in
    let is = rx_ring_found o.ports.items id r kept.rings at in
    let free : has_free_slot r.ring ≡ true = sym (ap (λ (o : Option OwnRing). option_map_or (λ (t : OwnRing). has_free_slot t.ring) o false) (ring_found o.hold o.ports.items Rx id r at)) ∙ can in
    (f.p, record { has = has_port o id f.p kept f.there; on = same_Some f.p.rx r f.on; is_ring = is; room = room_of r side is free })

pub cannot_receive : (h : HoldState) (ports : List UserPort) (id : ℕ) → slots_at Rx ports id ≡ None → can_receive id (own_seen h ports) ≡ true → ⊥
cannot_receive h ports id none can = clash (sym can ∙ ap (λ (o : Option OwnRing). option_map_or (λ (t : OwnRing). has_free_slot t.ring) o false) (ring_not_found h ports Rx id none))
  where
    clash : true ≡ false → ⊥
    clash e = cc

-- a place of a port that is found
pub has_place_of : (ports : List UserPort) (id : ℕ) (p : UserPort) (q : Place) → port_at ports id ≡ Some p → is_some (offset_of (places_of_port p) q) ≡ true → has_place (map places_of_port ports) q ≡ true
has_place_of [] id p q found e = absurd cc
has_place_of (y ∷ ports) id p q found e = elim (cases_Bool (nat_eq y.id.0 id)) [
  | inl here ↦ (let is : y ≡ p = same_Some y p (rw here at found) in rw (is, e) refl)
  | inr other ↦ or_second (is_some (offset_of (places_of_port y) q)) (has_place (map places_of_port ports) q) (has_place_of ports id p q (rw other at found) e)
]

module _ (h : HoldState) (ports : List UserPort) (id : PortId) (p : UserPort) (r : RingSlots) (x : Receives h ports id p r) where
  abbrev size : ℕ
  size = r.ring.size

  abbrev first : ℕ
  first = r.ring.head

  abbrev tail : ℕ
  tail = r.ring.last_tail

  abbrev count : ℕ
  count = dist size first tail

  abbrev pub spot : Place
  spot = place.Rx id tail

  its_side : p.rx.side ≡ Rx
  its_side = ap (λ (t : RingSlots). t.side) x.on ∙ x.room.side

  its_positions : IsRing p.rx.ring
  its_positions = rw x.on x.is_ring

  same_number : p.id.0 ≡ id.0
  same_number = ap (λ (i : PortId). i.0) x.has.same_id

  tail_within : tail < size
  tail_within = let e = x.is_ring.one_tail in let w = x.is_ring.within in omega arith

  pub others : Among ports id.0 p
  others = among ports id.0 p x.has.found (rw (← x.has.places) x.has.is_hold.once)

  filled_here : (q : Place) → port_of q ≡ id.0 → is_filled ports q ≡ is_filled_in q p
  filled_here q at = ap (λ (all : List UserPort). is_filled all q) others.are ∙ filled_at id.0 others.before others.behind p q others.first others.rest at

  named_here : (q : Place) → port_of q ≡ id.0 → is_among (named_places ports) q ≡ is_among (named_places_of p) q
  named_here q at = ap (λ (all : List UserPort). is_among (named_places all) q) others.are ∙ named_at id.0 others.before others.behind p q others.first others.rest at

  -- the slot at the tail is empty
  pub belongs : has_place h.ports spot ≡ true
  belongs = rw x.has.places (has_place_of ports id.0 p spot x.has.found (rw (x.has.same_id, x.on, same_true id.0 id.0 refl, less_true tail size tail_within) refl))

  pub empty : index_at h spot ≡ None
  empty = none_if (index_at h spot) (x.has.filled spot ∙ (filled_here spot refl ∙ rw (x.has.same_id, x.on, same_true id.0 id.0 refl, less_true tail size tail_within, not_itself (dist size r.ring.accepted_head tail)) refl))

  -- one slot more is the user's
  farther : dist size first (step_on size tail 1) ≡ count + 1
  farther = let free = x.room.free in dist-add size first tail 1 x.room.fits.head_within tail_within (omega arith)

  user_more : (at : ℕ) → at < size → nat_lt (dist size first at) (dist size first (step_on size tail 1)) ≡ (nat_lt (dist size r.ring.accepted_head at) (dist size r.ring.accepted_head tail) || nat_eq tail at)
  user_more at inside =
      let free = x.room.free in
      let few = dist-below size first tail x.room.fits.head_within in
      let all = is_slot_from size first (count + 1) at x.room.fits.head_within (omega arith) inside in
      let so_far = is_slot_from size first count at x.room.fits.head_within (omega arith) inside in
      let last : step_on size first count ≡ tail = step_on-dist size first tail x.room.fits.head_within tail_within in
      let one : slots_from size first (count + 1) ≡ slots_from size first count ++ step_on size first count ∷ [] = same_slots in
      ap (nat_lt (dist size first at)) farther
      ∙ (sym all ∙ (ap (λ (ats : List ℕ). list_any (λ y. nat_eq y at) ats) one
      ∙ (list_any-append (λ y. nat_eq y at) (slots_from size first count) (step_on size first count ∷ [])
      ∙ (ap (λ (b : Bool). b || (nat_eq (step_on size first count) at || false)) so_far
      ∙ (ap (λ (n : ℕ). nat_lt (dist size first at) count || (nat_eq n at || false)) last
      ∙ (ap (λ (b : Bool). nat_lt (dist size first at) count || b) (or_none (nat_eq tail at))
      ∙ ap (λ (a : ℕ). nat_lt (dist size a at) (dist size a tail) || nat_eq tail at) (sym x.room.accepted)))))))
    where
      same_slots : slots_from size first (count + 1) ≡ slots_from size first count ++ step_on size first count ∷ []
      same_slots = sym (map-id (slots_from size first (count + 1))) ∙ (seen_more (λ (n : ℕ). n) size first count ∙ ap (λ (ats : List ℕ). ats ++ step_on size first count ∷ []) (map-id (slots_from size first count)))
        where
          map-id : (xs : List ℕ) → map (λ (n : ℕ). n) xs ≡ xs
          map-id [] = refl
          map-id (y ∷ ys) = ap (λ (zs : List ℕ). y ∷ zs) (map-id ys)

  module _ (new : HoldState) (buf : Buffer) (frame : List ℕ) (len rest : ℕ) (cleared : buf.bytes ≡ cleared_but frame) (short : len ≤ 2048) (long : length frame ≡ len) (index : IsBufferIndex (buffers_of h) buf.index)
      (cell : new ≡ with_cell h buf.index (Some (placed spot true buf))) (places : (q : Place) → index_at new q ≡ (if is_same_place spot q then Some buf.index else index_at h q)) (is_new : IsHold new) where
    abbrev moved : RingSlots
    moved = ring_published buf.index len rest p.rx

    abbrev pub with_frame : UserPort
    with_frame = with_rx p moved

    ring_more : IsRing moved.ring
    ring_more = rw x.on (accepted_ring r.ring (step_on size tail 1) x.is_ring x.room.fits.head_within (step_on-below size tail 1 tail_within))

    apart : (q : Place) → nat_eq (port_of q) id.0 ≡ false → is_same_place spot q ≡ false
    apart q other = elim (cases_Bool (is_same_place spot q)) [
      | inl same ↦ false_true (sym other ∙ same_true (port_of q) id.0 (ap port_of (sym (same_place-is spot q same))))
      | inr differs ↦ differs
    ]

    elsewhere : (q : Place) → nat_eq (port_of q) id.0 ≡ false → index_at new q ≡ index_at h q
    elsewhere q other = places q ∙ ap (λ (b : Bool). if b then Some buf.index else index_at h q) (apart q other)

    filled_rx : (at : ℕ) → is_some (index_at new (place.Rx id at)) ≡ is_filled_in (place.Rx id at) with_frame
    filled_rx at =
        let q = place.Rx id at in
        let same : is_same_place spot q ≡ nat_eq tail at = rw (same_true id.0 id.0 refl) refl in
        let one : is_some (index_at new q) ≡ (is_filled_in q p || nat_eq tail at) = ap is_some (places q) ∙ (ap (λ (b : Bool). is_some (if b then Some buf.index else index_at h q)) same ∙ (is_some_if (nat_eq tail at) (index_at h q) ∙ ap (λ (b : Bool). b || nat_eq tail at) (x.has.filled q ∙ filled_here q refl))) in
        elim (cases_Bool (nat_lt at size)) [
          | inl inside ↦ one ∙ rw (x.has.same_id, x.on, same_true id.0 id.0 refl, inside) (sym (user_more at (less_is at size inside)))
          | inr outside ↦ one ∙ rw (x.has.same_id, x.on, same_true id.0 id.0 refl, outside) (not_tail outside)
        ]
      where
        is_some_if : (b : Bool) (o : Option ℕ) → is_some (if b then Some buf.index else o) ≡ (is_some o || b)
        is_some_if true None = refl
        is_some_if true (Some i) = refl
        is_some_if false None = refl
        is_some_if false (Some i) = refl

        not_tail : nat_lt at size ≡ false → nat_eq tail at ≡ false
        not_tail outside = elim (cases_Bool (nat_eq tail at)) [
          | inl same ↦ (let e = nat_eq-is tail at same in false_true (sym outside ∙ less_true at size (omega (arith, tail_within, e))))
          | inr other ↦ other
        ]

    filled_now : (q : Place) → port_of q ≡ id.0 → is_some (index_at new q) ≡ is_filled_in q with_frame
    filled_now (place.Tx port at) here = ap is_some (places (place.Tx port at)) ∙ (x.has.filled (place.Tx port at) ∙ filled_here (place.Tx port at) here)
    filled_now (place.Extra port at) here = ap is_some (places (place.Extra port at)) ∙ (x.has.filled (place.Extra port at) ∙ filled_here (place.Extra port at) here)
    filled_now (place.Rx port at) here = rw (port_of_id port id here) (filled_rx at)

    in_spot : is_some (index_at new spot) ≡ true
    in_spot = ap is_some (places spot) ∙ ap (λ (b : Bool). is_some (if b then Some buf.index else index_at h spot)) (same_place-refl spot)

    flags_now : (i : ℕ) (s : Standing) → standing_at new i ≡ Some s → port_of s.home.place ≡ id.0 → s.home.named ≡ is_among (named_places_of with_frame) s.home.place
    flags_now i s there at = elim (cases_Bool (nat_eq buf.index i)) [
      | inl here ↦ rw (← (stands_here h new spot true buf x.has.is_hold index cell i s there here)) (sym (filled_named with_frame id tail its_side ring_more (sym (filled_now spot refl) ∙ in_spot)))
      | inr other ↦ (let q = s.home.place in
          let stood = stood_there h new spot true buf x.has.is_hold index cell i s there other in
          let held : is_some (index_at new q) ≡ true = ap is_some (is_new.standing i s there).there in
          let held_before : is_some (index_at h q) ≡ true = ap is_some (x.has.is_hold.standing i s stood).there in
          x.has.flagged i s stood ∙ (named_here q at ∙ named_alike p moved q its_side its_side its_positions ring_more (sym (x.has.filled q ∙ filled_here q at) ∙ held_before) (sym (filled_now q at) ∙ held)))
    ]

    flags_elsewhere : (i : ℕ) (s : Standing) → standing_at new i ≡ Some s → nat_eq (port_of s.home.place) id.0 ≡ false → s.home.named ≡ is_among (named_places ports) s.home.place
    flags_elsewhere i s there differs = elim (cases_Bool (nat_eq buf.index i)) [
      | inl here ↦ (let is = stands_here h new spot true buf x.has.is_hold index cell i s there here in false_true (sym differs ∙ same_true (port_of s.home.place) id.0 (ap (λ (t : Standing). port_of t.home.place) (sym is))))
      | inr other ↦ x.has.flagged i s (stood_there h new spot true buf x.has.is_hold index cell i s there other)
    ]

    all_bytes : length buf.bytes ≡ 2048
    all_bytes = ap (λ (b : List ℕ). length b) cleared ∙ (length-append frame (replicate (2048 - length frame) 0) ∙ (let zeros = length-replicate {A = ℕ} (2048 - length frame) 0 in omega (arith, zeros, long, short)))

    pub changes : AreWhole h → ChangesPort h new ports id p with_frame
    changes whole = record {
      like = like_with_rx h ports id p moved x.has refl its_side ring_more;
      elsewhere = λ q other. ap is_some (elsewhere q other);
      filled = filled_now;
      flags_elsewhere = flags_elsewhere;
      flags = flags_now;
      same_ports = ports_with_one h new spot true buf x.has.is_hold index cell;
      count = count_with_one h new spot true buf x.has.is_hold index cell;
      whole = whole_with_one h new spot true buf x.has.is_hold index cell all_bytes whole;
      is_hold = is_new;
    }

    -- how it is seen
    abbrev came : Arrival
    came = record { buffer = buf.index; bytes = frame; rest = rest }

    numbers_stay : (k : ℕ) → k < count → number_on new Rx p.id (step_on size first k) ≡ number_on h Rx p.id (step_on size first k)
    numbers_stay k below =
        let at = step_on size first k in
        let few = dist-below size first tail x.room.fits.head_within in
        let there = dist-step_on size first k x.room.fits.head_within (omega arith) in
        let other : nat_eq tail at ≡ false = elim (cases_Bool (nat_eq tail at)) [
          | inl same ↦ (let e : dist size first tail ≡ k = ap (dist size first) (nat_eq-is tail at same) ∙ there in absurd (omega arith))
          | inr differs ↦ differs
        ] in
        let none : is_same_place spot (place.Rx id at) ≡ false = rw (same_true id.0 id.0 refl) other in
        ap (λ (i : PortId). number_at new (place.Rx i at)) x.has.same_id
        ∙ (ap (λ (o : Option ℕ). unwrap_or o 0) (places (place.Rx id at) ∙ ap (λ (b : Bool). if b then Some buf.index else index_at h (place.Rx id at)) none)
        ∙ ap (λ (i : PortId). number_at h (place.Rx i at)) (sym x.has.same_id))

    number_there : number_on new Rx p.id (step_on size first count) ≡ buf.index
    number_there =
        ap (number_on new Rx p.id) (step_on-dist size first tail x.room.fits.head_within tail_within)
        ∙ (ap (λ (i : PortId). number_at new (place.Rx i tail)) x.has.same_id
        ∙ ap (λ (o : Option ℕ). unwrap_or o 0) (places spot ∙ ap (λ (b : Bool). if b then Some buf.index else index_at h spot) (same_place-refl spot)))

    held_more : map (number_on new Rx p.id) (slots_from size first (dist size first (step_on size tail 1)))
        ≡ map (number_on h Rx p.id) (slots_from size r.ring.accepted_head (dist size r.ring.accepted_head tail)) ++ buf.index ∷ []
    held_more =
        ap (λ (n : ℕ). map (number_on new Rx p.id) (slots_from size first n)) farther
        ∙ (seen_more (number_on new Rx p.id) size first count
        ∙ (ap (λ (n : ℕ). map (number_on new Rx p.id) (slots_from size first count) ++ n ∷ []) number_there
        ∙ (ap (λ (ns : List ℕ). ns ++ buf.index ∷ []) (map-slots (number_on new Rx p.id) (number_on h Rx p.id) size first 0 count (λ k below. numbers_stay k (omega arith)))
        ∙ ap (λ (a : ℕ). map (number_on h Rx p.id) (slots_from size a (dist size a tail)) ++ buf.index ∷ []) (sym x.room.accepted))))

    ring_made : ring_seen new p.id moved ≡ ring_with_arrival came (ring_seen h p.id p.rx)
    ring_made = rw (x.on, x.room.side, held_more, long) refl

    others_seen : (y : UserPort) → IsOther id.0 y → port_seen new y ≡ port_seen h y
    others_seen y other = port_same h new y (λ q at. ap (λ (o : Option ℕ). unwrap_or o 0) (elsewhere q (rw at other)))

    pub received_is_seen : own_seen new (others.before ++ with_frame ∷ others.behind) ≡ own_with_arrival id.0 (own_seen h ports) came
    received_is_seen =
        let g = with_ring_on Rx (ring_with_arrival came) in
        let one : port_seen new with_frame ≡ g (port_seen h p) = seen_with_rx h new p (tx_side_of ports id.0 p x.has.found x.has.sided)
        (λ at. ap (λ (o : Option ℕ). unwrap_or o 0) (places (place.Tx p.id at))) (λ at. ap (λ (o : Option ℕ). unwrap_or o 0) (places (place.Extra p.id at))) moved (ring_with_arrival came) ring_made in
        let seen = seen_with h new id g others_seen others.before others.behind p with_frame others.first others.rest same_number one in
        let bytes : map bytes_in_cell new.cells ≡ set (map bytes_in_cell h.cells) buf.index (cleared_but frame) =
        bytes_with_one h new spot true buf x.has.is_hold index cell ∙ ap (set (map bytes_in_cell h.cells) buf.index) cleared in
        rw (count_with_one h new spot true buf x.has.is_hold index cell, bytes, seen, ← others.are) refl
