-- A receive push that passes: its slots' buffers are exchanged and taken out, and the slots are the
-- kernel side's.
use Rattle.std.proofs.Common.{ℕ, zero, suc, ◌≡◌, ◌<◌, ◌≤◌, ◌+◌, ◌-◌, ◌&&◌, Bool, true, false, nat_eq, nat_lt, if◌then◌else◌, List, [], ◌∷◌, ◌++◌, length, map, fold, drop, Option, Some, None, inl, inr, refl, sym, ◌∙◌, ap, arith}
use Rattle.std.specs.Prelude.{is_some, unwrap_or}
use Rattle.std.specs.List.{AllByRecursion, range_with_len}
use Rattle.std.proofs.lemmas.Bool.{cases_Bool}
use Rattle.std.proofs.lemmas.Bool.Decides.{nat_tests}
use Rattle.std.proofs.lemmas.List.{append-nil, drop-map, length-map}
use Rattle.std.proofs.lemmas.Option.{same_Some}
use Rattle.nm_types.specs.declared.id.PortId.{PortId}
use Rattle.nm_types.specs.declared.id.Side.{Side}
use Rattle.nm_types.specs.declared.id.Side.TheVariants.{Rx}
use Rattle.nm_types.specs.declared.place.Place.{Place}
use Rattle.nm_types.specs.declared.place.Place.TheVariants as place
use Rattle.nm_types.specs.Positions.{IsRing, FitsRing, dist, step_on, slots_from, is_user_slot}
use Rattle.nm_types.specs.OwnPorts.{pushed_on, with_ring_on}
use Rattle.nm_types.specs.OwnSyncs.{after_slot, after_exchange, ring_after_receive, back_on, without_bytes_of, own_after_receive}
use Rattle.nm_types.proofs.RingSteps.{dist-below, dist-step_on, step_on-below, step_on-dist, step_on-step_on, dist_split, length-slots_from, drop-slots_from}
use Rattle.nm_types.proofs.Tests.{less_is, turned, false_true, same_true}
use Rattle.nm_region.specs.Buffers.{Buffer}
use Rattle.nm_hold.specs.declared.standing.Standing.{Standing}
use Rattle.nm_hold.specs.Holds.{HoldState, index_at, standing_at, port_of}
use Rattle.nm_port.specs.declared.port.UserPort.{UserPort}
use Rattle.nm_port.specs.RingSlots.{RingSlots}
use Rattle.nm_port.specs.Sides.{place_on, number_at, name_at, names_pushed, pushed_seen}
use Rattle.nm_port.specs.Own.{number_on, ring_seen, port_seen, own_seen, slots_at, bytes_in_cell, named_places_of, named_places, is_filled, is_filled_in, AreWhole}
use Rattle.nm_port.specs.Closing.{AreTaken}
use Rattle.nm_port.specs.Exchanges.{pushed_count_of, user_position, CanExchange, AreExchanged, is_among}
use Rattle.nm_port.specs.Receives.{user_places, ring_given_back, CanGiveBack}
use Rattle.nm_port.proofs.PortOut.{IsOther}
use Rattle.nm_port.proofs.SlotLists.{accepted_ring, tail_stays}
use Rattle.nm_port.proofs.Seeing.{map-slots, pushed_is_seen, port_same}
use Rattle.nm_port.proofs.Pushes.{pushed_is_user}
use Rattle.nm_port.proofs.Checked.{ring_found}
use Rattle.nm_own.proofs.Offered.{back_is_seen}
use Rattle.nm_port.proofs.Buffers.{cells_by_bufs, count_by_bufs, whole_by_bufs}
use Rattle.nm_own.proofs.Passing.{Passes, ring_is, own_side, positions_fit, ports_once, can_exchange_at}
use Rattle.nm_port.proofs.Ranges.{is_slot_from, among_slots}
use Rattle.nm_own.proofs.OnePort.{Among, among, ChangesPort, filled_at, named_at, seen_with, tx_side_of}
use Rattle.nm_own.proofs.RxPlaces.{like_with_rx, rx_elsewhere, rx_not_tx, rx_not_extra, rx_named, named_alike, with_rx, user_left, seen_with_rx}

port_of_id : (port id : PortId) → port.0 ≡ id.0 → port ≡ id
port_of_id port id e = ap (λ (n : ℕ). let i : PortId = record { 0 = n } in i) e

is_some_if : (b : Bool) (o : Option ℕ) → is_some (if b then None else o) ≡ (if b then false else is_some o)
is_some_if true o = refl
is_some_if false o = refl

same_bool : (a b c : Bool) → a ≡ true → (if b then false else (a && (true && c))) ≡ (if b then false else c)
same_bool a b c e = rw e refl

module _ (h : HoldState) (ports : List UserPort) (id : PortId) (p : UserPort) (r : RingSlots) (x : Passes h ports Rx id p r) where
  is_ring : IsRing r.ring
  is_ring = ring_is h ports Rx id p r x

  rx_side : r.side ≡ Rx
  rx_side = own_side h ports Rx id p r x

  fits : FitsRing r.ring r.ring.head r.ring.cur
  fits = positions_fit h ports Rx id p r x

  its_ring : p.rx ≡ r
  its_ring = same_Some p.rx r x.on

  pub others : Among ports id.0 p
  others = among ports id.0 p x.has.found (ports_once h ports Rx id p r x)

  same_number : p.id.0 ≡ id.0
  same_number = ap (λ (i : PortId). i.0) x.has.same_id

  its_side : p.rx.side ≡ Rx
  its_side = ap (λ (t : RingSlots). t.side) its_ring ∙ rx_side

  its_positions : IsRing p.rx.ring
  its_positions = rw its_ring is_ring

  -- the places of the port's own
  filled_here : (q : Place) → port_of q ≡ id.0 → is_filled ports q ≡ is_filled_in q p
  filled_here q at = ap (λ (all : List UserPort). is_filled all q) others.are ∙ filled_at id.0 others.before others.behind p q others.first others.rest at

  named_here : (q : Place) → port_of q ≡ id.0 → is_among (named_places ports) q ≡ is_among (named_places_of p) q
  named_here q at = ap (λ (all : List UserPort). is_among (named_places all) q) others.are ∙ named_at id.0 others.before others.behind p q others.first others.rest at

  pushed_user : (k : ℕ) → k < pushed_count_of r → is_user_slot p.rx.ring (user_position r k) ≡ true
  pushed_user k below = rw its_ring (pushed_is_user r.ring k is_ring fits below)

  pub can_exchange : CanExchange h id r
  can_exchange = can_exchange_at h ports Rx id p r x
      (λ k below. filled_here (place.Rx id (user_position r k)) refl ∙ rw (x.has.same_id, same_true id.0 id.0 refl) (pushed_user k below))
      (λ k below. named_here (place.Rx id (user_position r k)) refl ∙ ap (λ (i : PortId). is_among (named_places_of p) (place.Rx i (user_position r k))) (sym x.has.same_id) ∙ rx_named p (user_position r k) its_side its_positions (pushed_user k below))

  pub back_are : names_pushed r ≡ back_on id.0 (own_seen h ports)
  back_are = back_is_seen h ports id r x.has.sided (record { at = x.at; ring = is_ring; fits = fits })

  pub back_count : length (back_on id.0 (own_seen h ports)) ≡ pushed_count_of r
  back_count =
      ap (λ (names : List ℕ). length names) (sym back_are)
      ∙ (length-map (slots_from r.ring.size r.ring.accepted_head (pushed_count_of r)) (name_at r) ∙ length-slots_from r.ring.size r.ring.accepted_head (pushed_count_of r))

  pub can_give_back : AllByRecursion (CanGiveBack id.0) ports
  can_give_back = rw others.are (over others.before others.first)
    where
      none_of : (all : List UserPort) → AllByRecursion (IsOther id.0) all → AllByRecursion (CanGiveBack id.0) all
      none_of [] other = tt
      none_of (y ∷ all) other = ((λ e. false_true (sym other.0 ∙ same_true y.id.0 id.0 e)), none_of all other.1)

      over : (before : List UserPort) → AllByRecursion (IsOther id.0) before → AllByRecursion (CanGiveBack id.0) (before ++ p ∷ others.behind)
      over [] first = ((λ e. rw its_ring (record { side = rx_side; fits = fits })), none_of others.behind others.rest)
      over (y ∷ before) first = ((λ e. false_true (sym first.0 ∙ same_true y.id.0 id.0 e)), over before first.1)

  abbrev count : ℕ
  count = pushed_count_of r

  abbrev size : ℕ
  size = r.ring.size

  abbrev gone : List Place
  gone = user_places id r count

  abbrev pub given_back : UserPort
  given_back = with_rx p (ring_given_back p.rx)

  tail_within : r.ring.last_tail < size
  tail_within = let e = is_ring.one_tail in let w = is_ring.within in omega arith

  -- the buffers in the places of the pushed slots
  module _ (h1 : HoldState) (exchange : AreExchanged h h1 id r count) where
    pub numbers_are : map (number_at h1) gone ≡ back_on id.0 (own_seen h ports)
    numbers_are = over 0 count (omega arith) ∙ back_are
      where
        over : (a n : ℕ) → a + n ≤ count → map (number_at h1) (map (place_on r.side id) (map (step_on size r.ring.accepted_head) (range_with_len a n))) ≡ map (name_at r) (map (step_on size r.ring.accepted_head) (range_with_len a n))
        over a zero room = refl
        over a (suc n) room =
            ap (λ (i : ℕ). i ∷ map (number_at h1) (map (place_on r.side id) (map (step_on size r.ring.accepted_head) (range_with_len (a + 1) n)))) (ap (λ (o : Option ℕ). unwrap_or o 0) (exchange.names a (omega arith)))
            ∙ ap (λ (is : List ℕ). name_at r (step_on size r.ring.accepted_head a) ∷ is) (over (a + 1) n (omega arith))

  module _ (h1 h2 : HoldState) (exchange : AreExchanged h h1 id r count) (before after : List Buffer) (taken : AreTaken h1 h2 gone before after) where
    gone_is : gone ≡ map (place_on Rx id) (slots_from size r.ring.accepted_head count)
    gone_is = ap (λ (s : Side). map (place_on s id) (slots_from size r.ring.accepted_head count)) rx_side

    not_gone : (q : Place) → is_among gone q ≡ false → index_at h2 q ≡ index_at h1 q
    not_gone q none = taken.index q ∙ ap (λ (b : Bool). if b then None else index_at h1 q) none

    elsewhere : (q : Place) → nat_eq (port_of q) id.0 ≡ false → is_among gone q ≡ false
    elsewhere q other = ap (λ (all : List Place). is_among all q) gone_is ∙ rx_elsewhere id (slots_from size r.ring.accepted_head count) q (turned (port_of q) id.0 other)

    tx_stays : (port : PortId) (at : ℕ) → index_at h2 (place.Tx port at) ≡ index_at h1 (place.Tx port at)
    tx_stays port at = not_gone (place.Tx port at) (ap (λ (all : List Place). is_among all (place.Tx port at)) gone_is ∙ rx_not_tx id port (slots_from size r.ring.accepted_head count) at)

    extra_stays : (port : PortId) (at : ℕ) → index_at h2 (place.Extra port at) ≡ index_at h1 (place.Extra port at)
    extra_stays port at = not_gone (place.Extra port at) (ap (λ (all : List Place). is_among all (place.Extra port at)) gone_is ∙ rx_not_extra id port (slots_from size r.ring.accepted_head count) at)

    gone_at : (at : ℕ) → at < size → is_among gone (place.Rx id at) ≡ nat_lt (dist size r.ring.accepted_head at) count
    gone_at at inside =
        let below = dist-below size r.ring.accepted_head r.ring.head is_ring.accepted in
        ap (λ (all : List Place). is_among all (place.Rx id at)) gone_is
        ∙ (among_slots Rx id (slots_from size r.ring.accepted_head count) at ∙ is_slot_from size r.ring.accepted_head count at is_ring.accepted (omega arith) inside)

    was_filled : (q : Place) → port_of q ≡ id.0 → is_some (index_at h1 q) ≡ is_filled_in q p
    was_filled q at = exchange.held q ∙ (x.has.filled q ∙ filled_here q at)

    filled_rx : (at : ℕ) → is_some (index_at h2 (place.Rx id at)) ≡ is_filled_in (place.Rx id at) given_back
    filled_rx at =
        let q = place.Rx id at in
        let one = ap is_some (taken.index q) ∙ (is_some_if (is_among gone q) (index_at h1 q) ∙ ap (λ (b : Bool). if is_among gone q then false else b) (was_filled q refl)) in
        elim (cases_Bool (nat_lt at size)) [
          | inl inside ↦ one ∙ (rw (x.has.same_id, its_ring, same_true id.0 id.0 refl, inside) (ap (λ (b : Bool). if b then false else nat_lt (dist size r.ring.accepted_head at) (dist size r.ring.accepted_head r.ring.last_tail)) (gone_at at (less_is at size inside)) ∙ user_left r.ring at is_ring fits (less_is at size inside)))
          | inr outside ↦ one ∙ rw (x.has.same_id, its_ring, same_true id.0 id.0 refl, outside) (none_either (is_among gone q))
        ]
      where
        none_either : (b : Bool) → (if b then false else false) ≡ false
        none_either true = refl
        none_either false = refl

    filled_now : (q : Place) → port_of q ≡ id.0 → is_some (index_at h2 q) ≡ is_filled_in q given_back
    filled_now (place.Tx port at) here = ap is_some (tx_stays port at) ∙ was_filled (place.Tx port at) here
    filled_now (place.Extra port at) here = ap is_some (extra_stays port at) ∙ was_filled (place.Extra port at) here
    filled_now (place.Rx port at) here = rw (port_of_id port id here) (filled_rx at)

    ring_left : IsRing (ring_given_back p.rx).ring
    ring_left = rw its_ring (accepted_ring r.ring (step_on size r.ring.last_tail 0) is_ring fits.head_within (step_on-below size r.ring.last_tail 0 tail_within))

    was_named : (i : ℕ) (s : Standing) → standing_at h2 i ≡ Some s → s.home.named ≡ is_among (named_places ports) s.home.place
    was_named i s there = exchange.flags (is_among (named_places ports)) x.has.flagged i s (taken.stood i s there)

    flags_now : (i : ℕ) (s : Standing) → standing_at h2 i ≡ Some s → port_of s.home.place ≡ id.0 → s.home.named ≡ is_among (named_places_of given_back) s.home.place
    flags_now i s there at =
        let q = s.home.place in
        let held : is_some (index_at h2 q) ≡ true = ap is_some (taken.is_hold.standing i s there).there in
        let held_before : is_some (index_at h1 q) ≡ true = ap is_some (exchange.is_hold.standing i s (taken.stood i s there)).there in
        was_named i s there ∙ (named_here q at
        ∙ named_alike p (ring_given_back p.rx) q its_side its_side its_positions ring_left (sym (was_filled q at) ∙ held_before) (sym (filled_now q at) ∙ held))

    pub changes : AreWhole h → ChangesPort h h2 ports id p given_back
    changes whole = record {
      like = like_with_rx h ports id p (ring_given_back p.rx) x.has refl its_side ring_left;
      elsewhere = λ q other. ap is_some (not_gone q (elsewhere q other)) ∙ exchange.held q;
      filled = filled_now;
      flags_elsewhere = λ i s there other. was_named i s there;
      flags = flags_now;
      same_ports = taken.ports ∙ exchange.ports;
      count = taken.count ∙ count_by_bufs h h1 exchange.bufs;
      whole = λ i s there. whole_by_bufs h h1 exchange.bufs whole i s (taken.stood i s there);
      is_hold = taken.is_hold;
    }

    -- how it is seen
    left_stays : (k : ℕ) → k < dist size r.ring.accepted_head r.ring.last_tail - count → number_on h2 Rx p.id (step_on size r.ring.head k) ≡ number_on h1 Rx p.id (step_on size r.ring.head k)
    left_stays k below =
        let all = dist-below size r.ring.accepted_head r.ring.last_tail is_ring.accepted in
        let at = step_on size r.ring.head k in
        let inside = step_on-below size r.ring.head k fits.head_within in
        let there : dist size r.ring.accepted_head at ≡ count + k =
        ap (λ (n : ℕ). dist size r.ring.accepted_head (step_on size n k)) (sym (step_on-dist size r.ring.accepted_head r.ring.head is_ring.accepted fits.head_within))
        ∙ (ap (dist size r.ring.accepted_head) (step_on-step_on size r.ring.accepted_head count k) ∙ dist-step_on size r.ring.accepted_head (count + k) is_ring.accepted (omega arith)) in
        let none : is_among gone (place.Rx id at) ≡ false = gone_at at inside ∙ (ap (λ (d : ℕ). nat_lt d count) there ∙ not_below count k) in
        ap (λ (i : PortId). number_at h2 (place.Rx i at)) x.has.same_id ∙ (ap (λ (o : Option ℕ). unwrap_or o 0) (not_gone (place.Rx id at) none) ∙ ap (λ (i : PortId). number_at h1 (place.Rx i at)) (sym x.has.same_id))
      where
        not_below : (n k : ℕ) → nat_lt (n + k) n ≡ false
        not_below n k = grind (arith, nat_tests)

    held_left : map (number_on h2 Rx p.id) (slots_from size r.ring.head (dist size r.ring.head (step_on size r.ring.last_tail 0)))
        ≡ drop count (map (number_on h1 Rx p.id) (slots_from size r.ring.accepted_head (dist size r.ring.accepted_head r.ring.last_tail)))
    held_left =
        let split = dist_split size r.ring.accepted_head r.ring.head r.ring.last_tail is_ring.accepted fits.head_within tail_within fits.head_reach in
        let reach = fits.head_reach in
        let n = dist size r.ring.accepted_head r.ring.last_tail - count in
        let left : dist size r.ring.head (step_on size r.ring.last_tail 0) ≡ n = ap (dist size r.ring.head) (tail_stays r.ring is_ring) ∙ (let e : dist size r.ring.head r.ring.last_tail ≡ n = omega arith in e) in
        let behind : drop count (slots_from size r.ring.accepted_head (dist size r.ring.accepted_head r.ring.last_tail)) ≡ slots_from size r.ring.head n =
        drop-slots_from size r.ring.accepted_head count (dist size r.ring.accepted_head r.ring.last_tail) reach
        ∙ ap (λ (at : ℕ). slots_from size at n) (step_on-dist size r.ring.accepted_head r.ring.head is_ring.accepted fits.head_within) in
        ap (λ (k : ℕ). map (number_on h2 Rx p.id) (slots_from size r.ring.head k)) left
        ∙ (map-slots (number_on h2 Rx p.id) (number_on h1 Rx p.id) size r.ring.head 0 n (λ k below. left_stays k (omega arith))
        ∙ (ap (map (number_on h1 Rx p.id)) (sym behind) ∙ sym (drop-map (number_on h1 Rx p.id) count (slots_from size r.ring.accepted_head (dist size r.ring.accepted_head r.ring.last_tail)))))

    ring_made : ring_seen h2 p.id (ring_given_back p.rx) ≡ ring_after_receive [] (ring_seen h1 p.id p.rx)
    ring_made =
        let pushed : length (slots_from size r.ring.accepted_head count) ≡ count = length-slots_from size r.ring.accepted_head count in
        rw (its_ring, rx_side, pushed, held_left, append-nil (drop count r.slots), append-nil (drop count (map (number_on h1 Rx p.id) (slots_from size r.ring.accepted_head (dist size r.ring.accepted_head r.ring.last_tail))))) refl

    others_seen : (y : UserPort) → IsOther id.0 y → port_seen h2 y ≡ port_seen h1 y
    others_seen y other = port_same h1 h2 y (λ q at. ap (λ (o : Option ℕ). unwrap_or o 0) (not_gone q (elsewhere q (rw at other))))

    exchanged_seen : map (port_seen h1) ports ≡ (after_exchange Rx id.0 (own_seen h ports)).ports
    exchanged_seen =
        let pushed : pushed_on Rx id.0 (own_seen h ports) ≡ pushed_seen h id r = rw (ring_found h ports Rx id r x.at) (pushed_is_seen h id Rx r rx_side is_ring fits) in
        exchange.seen ports x.has.sided (ap (λ (s : Side). slots_at s ports id.0) rx_side ∙ x.at)
        ∙ (ap (λ (s : Side). fold (after_slot s id.0) (map (port_seen h) ports) (pushed_seen h id r)) rx_side ∙ ap (fold (after_slot Rx id.0) (map (port_seen h) ports)) (sym pushed))

    pub given_back_is_seen : own_seen h2 (others.before ++ given_back ∷ others.behind) ≡ own_after_receive id.0 [] (own_seen h ports)
    given_back_is_seen =
        let g = with_ring_on Rx (ring_after_receive []) in
        let one : port_seen h2 given_back ≡ g (port_seen h1 p) = seen_with_rx h1 h2 p (tx_side_of ports id.0 p x.has.found x.has.sided)
        (λ at. ap (λ (o : Option ℕ). unwrap_or o 0) (tx_stays p.id at)) (λ at. ap (λ (o : Option ℕ). unwrap_or o 0) (extra_stays p.id at)) (ring_given_back p.rx) (ring_after_receive []) ring_made in
        let seen = seen_with h1 h2 id g others_seen others.before others.behind p given_back others.first others.rest same_number one in
        let bytes : map bytes_in_cell h2.cells ≡ fold without_bytes_of (map bytes_in_cell h.cells) (back_on id.0 (own_seen h ports)) =
        taken.bytes ∙ (ap (λ (cells : List (List ℕ)). fold without_bytes_of cells (map (number_at h1) gone)) (cells_by_bufs h h1 exchange.bufs) ∙ ap (fold without_bytes_of (map bytes_in_cell h.cells)) (numbers_are h1 exchange)) in
        rw (taken.count ∙ count_by_bufs h h1 exchange.bufs, bytes, seen, ← others.are, exchanged_seen) refl
