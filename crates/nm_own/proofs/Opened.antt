-- A session once a port of it is opened.
use Rattle.std.proofs.Common.{ℕ, ◌≡◌, ◌<◌, ◌-◌, ◌&&◌, ◌||◌, Bool, true, false, nat_eq, nat_lt, List, [], ◌∷◌, ◌++◌, length, map, Option, option_map, inl, inr, refl, sym, ◌∙◌, ap, arith, append_assoc}
use Rattle.std.specs.Prelude.{is_some, unwrap_or}
use Rattle.std.specs.List.{AllByRecursion, IsDistinct, list_any, range_with_len}
use Rattle.std.proofs.lemmas.Bool.{cases_Bool}
use Rattle.std.proofs.lemmas.Bool.Decides.{nat_tests}
use Rattle.std.proofs.lemmas.List.{map-append, length-map}
use Rattle.std.proofs.lemmas.List.Folds.{list_any-append}
use Rattle.std.proofs.Math.Seq.{take-append_seam, drop-append_seam}
use Rattle.nm_types.specs.declared.id.PortId.{PortId}
use Rattle.nm_types.specs.declared.id.Side.TheVariants as side
use Rattle.nm_types.specs.declared.place.Place.{Place}
use Rattle.nm_types.specs.declared.place.Place.TheVariants as place
use Rattle.nm_types.specs.Places.{held_at, is_same_place}
use Rattle.nm_types.specs.Positions.{IsRingSize, opened_rx, is_user_slot, dist}
use Rattle.nm_types.proofs.RingSteps.{dist_self}
use Rattle.nm_types.proofs.Tests.{or_none, turned, false_true}
use Rattle.nm_types.specs.OwnPorts.{OwnPort}
use Rattle.nm_types.specs.OwnSyncs.{opened_tx_ring, opened_port, own_after_open, buffers_of_arrivals}
use Rattle.nm_region.specs.Buffers.{Buffer, indices_of}
use Rattle.nm_ring.proofs.RingLaws.{fresh_slots, positions_fit_at_opening}
use Rattle.nm_hold.specs.declared.standing.Standing.{Standing}
use Rattle.nm_hold.specs.declared.table.PortPlaces.{PortPlaces}
use Rattle.nm_hold.specs.Holds.{HoldState, buffers_of, index_at, port_of, places_in, cell_at}
use Rattle.nm_hold.proofs.Spots.{nat_eq-is, same_place-is}
use Rattle.nm_port.specs.declared.fill.Row.TheVariants.{Slots, Extras}
use Rattle.nm_port.specs.declared.port.UserPort.{UserPort}
use Rattle.nm_port.specs.Sides.{place_on}
use Rattle.nm_port.specs.Own.{number_on, held_on, extra_number_at, ring_seen, port_seen, own_seen, bytes_in_cell, named_ring_places, named_tx_places, named_places_of, named_places, size_if, is_filled, is_filled_in, places_of_port, AreFilled, AreFlagged, AreSided, AreRings, AreWhole, HasPlaces, IsTxSide, IsRingIf, HasBackRoom, HaveBackRoom}
use Rattle.nm_port.specs.Filling.{place_in, index_with, named_with, bytes_with, AreFilledWith}
use Rattle.nm_own.specs.Opening.{IsTxSize, blank_arrivals, opened_slots, opened_user_port}
use Rattle.nm_own.proofs.Filled.{named_are_filled}
use Rattle.nm_port.proofs.Seeing.{port_same}
use Rattle.nm_port.proofs.PortOut.{IsOther}
use Rattle.nm_own.proofs.Opening.{unfilled, opened_bytes, index_off, other_port, in_range, index_row, row_numbers, named_from, named_off}

pub indices_length : (bufs : List Buffer) → length (indices_of bufs) ≡ length bufs
indices_length bufs = length-map bufs (λ (b : Buffer). b.index)

pub ruleset lengths = (indices_length)

-- an own side as it was, with room for a port, with its places, and with its buffers
pub record Opens (h h1 h2 h3 : HoldState) (ports : List UserPort) (id : PortId) (rx : ℕ) (tx extra : List ℕ) : Type 0 where
  pub none : AllByRecursion (IsOther id.0) ports
  pub tx_size : IsTxSize (length tx)
  pub rx_size : IsRingSize rx
  pub cells : h1.cells ≡ h.cells
  pub places : h1.ports ≡ h.ports ++ record { port = id; sizes = record { tx = length tx; rx = rx; extra = length extra } } ∷ []
  pub slots : AreFilledWith h1 h2 id Slots (length tx - 1) 0 tx
  pub extras : AreFilledWith h2 h3 id Extras (length extra) 0 extra

turn_or : (a b c : Bool) → (c || (b || a)) ≡ (a || ((b || c) || false))
turn_or true true true = refl
turn_or true true false = refl
turn_or true false true = refl
turn_or true false false = refl
turn_or false true true = refl
turn_or false true false = refl
turn_or false false true = refl
turn_or false false false = refl

module _ (h h1 h2 h3 : HoldState) (ports : List UserPort) (id : PortId) (name : List ℕ) (rx : ℕ) (tx extra : List ℕ) (o : Opens h h1 h2 h3 ports id rx tx extra) where
  abbrev new : UserPort
  new = opened_user_port id name rx tx extra

  size_new : size_if (opened_slots tx) ≡ length tx
  size_new = elim (cases_Bool (nat_eq (length tx) 0)) [
    | inl none ↦ rw none (sym (nat_eq-is (length tx) 0 none))
    | inr some ↦ rw some refl
  ]

  index_now : (q : Place) → index_at h3 q ≡ index_with id Extras 0 extra q (index_with id Slots 0 tx q (index_at h q))
  index_now q = o.extras.index q ∙ ap (index_with id Extras 0 extra q) (o.slots.index q ∙ ap (λ (cells : List (Option Standing)). index_with id Slots 0 tx q (held_at (places_in cells) q)) o.cells)

  -- places of other ports
  index_elsewhere : (q : Place) → nat_eq id.0 (port_of q) ≡ false → index_at h3 q ≡ index_at h q
  index_elsewhere q e =
      index_now q ∙ (index_off id Extras 0 extra q (index_with id Slots 0 tx q (index_at h q)) (other_port id Extras q e) ∙ index_off id Slots 0 tx q (index_at h q) (other_port id Slots q e))

  index_tx : (x : ℕ) → index_at h3 (place.Tx id x) ≡ index_with id Slots 0 tx (place.Tx id x) (index_at h (place.Tx id x))
  index_tx x = index_now (place.Tx id x) ∙ index_off id Extras 0 extra (place.Tx id x) (index_with id Slots 0 tx (place.Tx id x) (index_at h (place.Tx id x))) (λ k. refl)

  index_extra : (x : ℕ) → index_at h3 (place.Extra id x) ≡ index_with id Extras 0 extra (place.Extra id x) (index_at h (place.Extra id x))
  index_extra x = index_now (place.Extra id x) ∙ ap (index_with id Extras 0 extra (place.Extra id x)) (index_off id Slots 0 tx (place.Extra id x) (index_at h (place.Extra id x)) (λ k. refl))

  index_rx : (x : ℕ) → index_at h3 (place.Rx id x) ≡ index_at h (place.Rx id x)
  index_rx x = index_now (place.Rx id x) ∙ (index_off id Extras 0 extra (place.Rx id x) (index_with id Slots 0 tx (place.Rx id x) (index_at h (place.Rx id x))) (λ k. refl) ∙ index_off id Slots 0 tx (place.Rx id x) (index_at h (place.Rx id x)) (λ k. refl))

  -- the places that hold a buffer
  from_start : (n x : ℕ) → in_range 0 n x ≡ nat_lt x n
  from_start n x = grind (arith, nat_tests)

  no_user : (x : ℕ) → is_user_slot (opened_rx rx) x ≡ false
  no_user x = (let zero : dist rx 0 0 ≡ 0 = dist_none rx o.rx_size in past (nat_lt x rx) (dist rx 0 x) (dist rx 0 0) zero)
    where
      dist_none : (n : ℕ) → IsRingSize n → dist n 0 0 ≡ 0
      dist_none n size = dist_self n 0 (omega (arith, size.0))

      past : (b : Bool) (a c : ℕ) → c ≡ 0 → (b && nat_lt a c) ≡ false
      past b a c e = rw e (by_bool b a)
        where
          by_bool : (b : Bool) (a : ℕ) → (b && nat_lt a 0) ≡ false
          by_bool true a = grind (arith, nat_tests)
          by_bool false a = refl

  same_self : nat_eq id.0 id.0 ≡ true
  same_self = grind (arith, nat_tests)

  is_filled-more : (all : List UserPort) (q : Place) → is_filled (all ++ new ∷ []) q ≡ (is_filled all q || (is_filled_in q new || false))
  is_filled-more all q = list_any-append (is_filled_in q) all (new ∷ [])

  -- of a place of the new port
  filled_here : (q : Place) → port_of q ≡ id.0 → AreFilled h ports → (b : Bool) → is_some (index_at h3 q) ≡ (b || is_some (index_at h q)) → is_filled_in q new ≡ b → is_some (index_at h3 q) ≡ is_filled (ports ++ new ∷ []) q
  filled_here q port filled b now is =
      let none : is_filled ports q ≡ false = unfilled ports id.0 q port o.none in
      let before : is_some (index_at h q) ≡ false = filled q ∙ none in
      let left : is_some (index_at h3 q) ≡ b = now ∙ (ap (λ (a : Bool). b || a) before ∙ or_none b) in
      let right : is_filled (ports ++ new ∷ []) q ≡ b = is_filled-more ports q ∙ (ap (λ (a : Bool). a || (is_filled_in q new || false)) none ∙ (or_none (is_filled_in q new) ∙ is)) in
      left ∙ sym right

  filled_elsewhere : (q : Place) → nat_eq id.0 (port_of q) ≡ false → AreFilled h ports → is_filled_in q new ≡ false → is_some (index_at h3 q) ≡ is_filled (ports ++ new ∷ []) q
  filled_elsewhere q other filled not = ap is_some (index_elsewhere q other) ∙ (filled q ∙ sym (is_filled-more ports q ∙ rw not (or_none (is_filled ports q))))

  port_is : (port : PortId) → nat_eq id.0 port.0 ≡ true → port ≡ id
  port_is port e = ap (λ (n : ℕ). let i : PortId = record { 0 = n } in i) (sym (nat_eq-is id.0 port.0 e))

  pub filled_now : AreFilled h ports → AreFilled h3 (ports ++ new ∷ [])
  filled_now filled (place.Tx port x) = elim (cases_Bool (nat_eq id.0 port.0)) [
    | inl here ↦ rw (port_is port here) (filled_here (place.Tx id x) refl filled (nat_lt x (length tx))
        (ap is_some (index_tx x) ∙ (index_row id Slots 0 tx x (index_at h (place.Tx id x)) ∙ ap (λ (b : Bool). b || is_some (index_at h (place.Tx id x))) (from_start (length tx) x)))
        (rw (same_self, size_new) refl))
    | inr other ↦ filled_elsewhere (place.Tx port x) other filled (rw (turned id.0 port.0 other) refl)
  ]
  filled_now filled (place.Rx port x) = elim (cases_Bool (nat_eq id.0 port.0)) [
    | inl here ↦ rw (port_is port here) (filled_here (place.Rx id x) refl filled false (ap is_some (index_rx x)) (rw (same_self, no_user x) refl))
    | inr other ↦ filled_elsewhere (place.Rx port x) other filled (rw (turned id.0 port.0 other) refl)
  ]
  filled_now filled (place.Extra port x) = elim (cases_Bool (nat_eq id.0 port.0)) [
    | inl here ↦ rw (port_is port here) (filled_here (place.Extra id x) refl filled (nat_lt x (length extra))
        (ap is_some (index_extra x) ∙ (index_row id Extras 0 extra x (index_at h (place.Extra id x)) ∙ ap (λ (b : Bool). b || is_some (index_at h (place.Extra id x))) (from_start (length extra) x)))
        (rw same_self refl))
    | inr other ↦ filled_elsewhere (place.Extra port x) other filled (rw (turned id.0 port.0 other) refl)
  ]

  pub places_now : HasPlaces h ports → HasPlaces h3 (ports ++ new ∷ [])
  places_now has =
      o.extras.ports ∙ (o.slots.ports ∙ (o.places ∙ (ap (λ (all : List PortPlaces). all ++ record { port = id; sizes = record { tx = length tx; rx = rx; extra = length extra } } ∷ []) has
      ∙ sym (map-append places_of_port ports (new ∷ []) ∙ rw size_new refl))))

  pub count_now : buffers_of h3 ≡ buffers_of h
  count_now = o.extras.count ∙ (o.slots.count ∙ ap (λ (cells : List (Option Standing)). length cells - 2) o.cells)

  pub whole_now : AreWhole h → AreWhole h3
  whole_now whole = o.extras.whole (o.slots.whole (λ idx s there. whole idx s (ap (λ (cells : List (Option Standing)). cell_at cells idx) (sym o.cells) ∙ there)))

  pub sided_now : AreSided ports → AreSided (ports ++ new ∷ [])
  sided_now sided = more ports sided
    where
      side_new : IsTxSide (opened_slots tx)
      side_new = elim (cases_Bool (nat_eq (length tx) 0)) [ inl none ↦ rw none tt | inr some ↦ rw some refl ]

      more : (all : List UserPort) → AreSided all → AreSided (all ++ new ∷ [])
      more [] sided = ((side_new, refl), tt)
      more (p ∷ all) sided = (sided.0, more all sided.1)

  tx_is_size : nat_eq (length tx) 0 ≡ false → IsRingSize (length tx)
  tx_is_size some = o.tx_size (positive (length tx) some)
    where
      positive : (n : ℕ) → nat_eq n 0 ≡ false → 0 < n
      positive n e = grind (arith, nat_tests)

  pub rings_now : AreRings ports → AreRings (ports ++ new ∷ [])
  rings_now rings = more ports rings
    where
      ring_new : IsRingIf (opened_slots tx)
      ring_new = elim (cases_Bool (nat_eq (length tx) 0)) [
        | inl none ↦ rw none tt
        | inr some ↦ rw some ((positions_fit_at_opening (length tx) (tx_is_size some)).0.is_ring)
      ]

      more : (all : List UserPort) → AreRings all → AreRings (all ++ new ∷ [])
      more [] rings = ((ring_new, (positions_fit_at_opening rx o.rx_size).1.is_ring), tt)
      more (p ∷ all) rings = (rings.0, more all rings.1)

  pub back_now : HaveBackRoom ports → HaveBackRoom (ports ++ new ∷ [])
  back_now have = more ports have
    where
      back_new : HasBackRoom new
      back_new = rw size_new (omega arith)

      more : (all : List UserPort) → HaveBackRoom all → HaveBackRoom (all ++ new ∷ [])
      more [] have = (back_new, tt)
      more (p ∷ all) have = (have.0, more all have.1)

  -- the places of the new port whose buffers are named ones
  tx_named_new : named_tx_places id (opened_slots tx) ≡ map (place_in id Slots) (range_with_len 0 (length tx - 1))
  tx_named_new = elim (cases_Bool (nat_eq (length tx) 0)) [
    | inl none ↦ (let zero : length tx - 1 ≡ 0 = (let e = nat_eq-is (length tx) 0 none in omega arith) in rw (none, zero) refl)
    | inr some ↦ rw (some, (fresh_slots (length tx) (tx_is_size some)).0) refl
  ]

  rx_named_new : named_ring_places id new.rx ≡ []
  rx_named_new = ap (map (place_on side.Rx id)) (fresh_slots rx o.rx_size).1

  places_named : named_places (ports ++ new ∷ []) ≡ named_places ports ++ ((map (place_in id Slots) (range_with_len 0 (length tx - 1)) ++ map (place_in id Extras) (range_with_len 0 (length extra))) ++ [])
  places_named = over ports
    where
      here : named_places_of new ≡ map (place_in id Slots) (range_with_len 0 (length tx - 1)) ++ map (place_in id Extras) (range_with_len 0 (length extra))
      here = rw (tx_named_new, rx_named_new) refl

      over : (all : List UserPort) → named_places (all ++ new ∷ []) ≡ named_places all ++ ((map (place_in id Slots) (range_with_len 0 (length tx - 1)) ++ map (place_in id Extras) (range_with_len 0 (length extra))) ++ [])
      over [] = rw here refl
      over (p ∷ all) = rw (over all) (sym (append_assoc (named_places_of p) (named_places all) _))

  abbrev was_named : Place → Bool
  was_named q = list_any (λ x. is_same_place x q) (named_places ports)

  none_named : AreSided ports → AreRings ports → (q : Place) → port_of q ≡ id.0 → was_named q ≡ false
  none_named sided rings q port = none_of (named_places ports) (named_are_filled ports sided rings)
    where
      none_of : (xs : List Place) → AllByRecursion (λ x. is_filled ports x ≡ true) xs → list_any (λ x. is_same_place x q) xs ≡ false
      none_of [] all = refl
      none_of (x ∷ xs) all = elim (cases_Bool (is_same_place x q)) [
        | inl same ↦ false_true (sym (unfilled ports id.0 q port o.none) ∙ (ap (is_filled ports) (sym (same_place-is x q same)) ∙ all.0))
        | inr other ↦ rw other (none_of xs all.1)
      ]

  pub flagged_now : AreSided ports → AreRings ports → AreFlagged h ports → AreFlagged h3 (ports ++ new ∷ [])
  flagged_now sided rings flagged idx s there =
      o.extras.flags (named_with id Slots (length tx - 1) 0 tx was_named) (o.slots.flags was_named (λ i t e. flagged i t (ap (λ (cells : List (Option Standing)). cell_at cells i) (sym o.cells) ∙ e))) idx s there
      ∙ named_now s.home.place
    where
      named_now : (q : Place) → named_with id Extras (length extra) 0 extra (named_with id Slots (length tx - 1) 0 tx was_named) q ≡ list_any (λ x. is_same_place x q) (named_places (ports ++ new ∷ []))
      named_now q =
          let slots = map (place_in id Slots) (range_with_len 0 (length tx - 1)) in
          let extras = map (place_in id Extras) (range_with_len 0 (length extra)) in
          let f = named_with id Slots (length tx - 1) 0 tx was_named in
          let second = named_from id Extras (length extra) extra f q (omega arith) (λ k. named_off id (length tx - 1) 0 k tx was_named ∙ none_named sided rings (place.Extra id k) refl) in
          let first = named_from id Slots (length tx - 1) tx was_named q (omega arith) (λ k. none_named sided rings (place.Tx id k) refl) in
          let all : list_any (λ x. is_same_place x q) (named_places (ports ++ new ∷ [])) ≡ (was_named q || ((list_any (λ x. is_same_place x q) slots || list_any (λ x. is_same_place x q) extras) || false)) =
          ap (list_any (λ x. is_same_place x q)) places_named ∙ (list_any-append (λ x. is_same_place x q) (named_places ports) ((slots ++ extras) ++ [])
          ∙ ap (λ (b : Bool). was_named q || b) (list_any-append (λ x. is_same_place x q) (slots ++ extras) [] ∙ ap (λ (b : Bool). b || false) (list_any-append (λ x. is_same_place x q) slots extras))) in
          second ∙ (ap (λ (b : Bool). list_any (λ x. is_same_place x q) extras || b) first
          ∙ (turn_or (was_named q) (list_any (λ x. is_same_place x q) slots) (list_any (λ x. is_same_place x q) extras) ∙ sym all))

  -- how the ports are seen
  old_seen : (all : List UserPort) → AllByRecursion (IsOther id.0) all → map (port_seen h3) all ≡ map (port_seen h) all
  old_seen [] none = refl
  old_seen (p ∷ all) none =
      rw (port_same h h3 p (λ q port. ap (λ (i : Option ℕ). unwrap_or i 0) (index_elsewhere q (rw port (turned p.id.0 id.0 none.0)))), old_seen all none.1) refl

  tx_numbers : map (number_on h3 side.Tx id) (range_with_len 0 (length tx)) ≡ tx
  tx_numbers = row_numbers id Slots 0 tx (λ x. index_at h (place.Tx id x)) (number_on h3 side.Tx id) (λ x above. ap (λ (i : Option ℕ). unwrap_or i 0) (index_tx x))

  extra_numbers : map (extra_number_at h3 id) (range_with_len 0 (length extra)) ≡ extra
  extra_numbers = row_numbers id Extras 0 extra (λ x. index_at h (place.Extra id x)) (extra_number_at h3 id) (λ x above. ap (λ (i : Option ℕ). unwrap_or i 0) (index_extra x))

  tx_seen_new : option_map (ring_seen h3 id) (opened_slots tx) ≡ opened_tx_ring (length tx) tx
  tx_seen_new = elim (cases_Bool (nat_eq (length tx) 0)) [
    | inl none ↦ rw none refl
    | inr some ↦ rw (some, tx_numbers) refl
  ]

  rx_seen_new : held_on h3 side.Rx id (opened_rx rx) ≡ []
  rx_seen_new = ap (map (number_on h3 side.Rx id)) (fresh_slots rx o.rx_size).1

  new_seen : port_seen h3 new ≡ opened_port id.0 name (length tx) rx (tx ++ extra)
  new_seen = rw (tx_seen_new, rx_seen_new, extra_numbers, take-append_seam tx extra, drop-append_seam tx extra) refl

  pub opened_is_seen : IsDistinct nat_eq extra → own_seen h3 (ports ++ new ∷ []) ≡ own_after_open id.0 name (length tx) rx (blank_arrivals (tx ++ extra)) (own_seen h ports)
  opened_is_seen once =
      let buffers : buffers_of_arrivals (blank_arrivals (tx ++ extra)) ≡ tx ++ extra = seen_buffers (tx ++ extra) in
      let all : map (port_seen h3) (ports ++ new ∷ []) ≡ map (port_seen h) ports ++ opened_port id.0 name (length tx) rx (tx ++ extra) ∷ [] =
      map-append (port_seen h3) ports (new ∷ []) ∙ (ap (λ (xs : List OwnPort). xs ++ port_seen h3 new ∷ []) (old_seen ports o.none) ∙ ap (λ (p : OwnPort). map (port_seen h) ports ++ p ∷ []) new_seen) in
      let bytes : map bytes_in_cell h3.cells ≡ bytes_with Extras extra (bytes_with Slots tx (map bytes_in_cell h.cells)) =
      o.extras.bytes ∙ ap (bytes_with Extras extra) (o.slots.bytes ∙ ap (λ (cells : List (Option Standing)). bytes_with Slots tx (map bytes_in_cell cells)) o.cells) in
      rw (count_now, all, bytes, opened_bytes tx extra (map bytes_in_cell h.cells) once, buffers, drop-append_seam tx extra) refl
    where
      seen_buffers : (xs : List ℕ) → buffers_of_arrivals (blank_arrivals xs) ≡ xs
      seen_buffers [] = refl
      seen_buffers (x ∷ xs) = ap (λ (ys : List ℕ). x ∷ ys) (seen_buffers xs)
