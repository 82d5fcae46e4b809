-- The slots that a put offers, and the buffers in their places once its push is exchanged.
use Rattle.std.proofs.Common.{ℕ, zero, suc, map, fold, take, nat_eq, ◌≡◌, ◌<◌, ◌≤◌, ◌+◌, ◌-◌, true, false, nat_le, List, [], ◌∷◌, ◌++◌, length, Option, Some, None, inl, inr, refl, sym, ◌∙◌, ap, arith}
use Rattle.std.specs.Prelude.{IsSome}
use Rattle.std.specs.List.{range_with_len}
use Rattle.std.proofs.lemmas.List.{length-map}
use Rattle.std.proofs.lemmas.List.FromFn.{get_or-map-range_with_len, take-map-range_with_len}
use Rattle.std.proofs.lemmas.Bool.{cases_Bool, cases_lt}
use Rattle.std.proofs.lemmas.Bool.Decides.{nat_tests}
use Rattle.std.proofs.lemmas.List.Folds.{list_any-append}
use Rattle.std.proofs.lemmas.Option.{same_Some}
use Rattle.nm_types.specs.declared.id.PortId.{PortId}
use Rattle.nm_types.specs.declared.id.Side.{Side}
use Rattle.nm_types.specs.declared.id.Side.TheVariants as side
use Rattle.nm_types.specs.OwnPorts.{OwnPort, buffer_in, pushed_on}
use Rattle.nm_types.specs.OwnSyncs.{after_slot, after_exchange, taken_from, taken_on}
use Rattle.nm_types.specs.declared.place.Place.TheVariants as place
use Rattle.nm_types.specs.Places.{is_same_place}
use Rattle.nm_types.specs.Positions.{IsRing, FitsRing, dist, step_on, slots_from, pending_slots, pushed_slots, user_slots}
use Rattle.nm_types.proofs.RingSteps.{dist-below, dist-add, dist_behind, step_on-below, step_on-dist, step_on-step_on, length-slots_from}
use Rattle.nm_types.proofs.Tests.{less_false}
use Rattle.nm_hold.specs.declared.standing.Standing.{Standing}
use Rattle.nm_hold.specs.Holds.{HoldState, index_at, standing_at, stands_at, is_named_in}
use Rattle.nm_hold.proofs.Spots.{same_place-is}
use Rattle.nm_port.specs.declared.port.UserPort.{UserPort}
use Rattle.nm_port.specs.RingSlots.{RingSlots}
use Rattle.nm_port.specs.Sides.{place_on, number_at, pushed_seen}
use Rattle.nm_port.specs.Own.{number_on, ring_seen, port_seen, own_seen, port_at, slots_at, named_ring_places, named_places}
use Rattle.nm_port.specs.Exchanges.{is_among, pushed_count_of, user_position, user_place, AreExchanged, CanPushOut}
use Rattle.nm_port.specs.Puts.{offered_slot}
use Rattle.nm_port.specs.Lending.{AreNamedAs}
use Rattle.nm_own.specs.LentSides.{pending_count_of, offered_count_of, offered_count, offered_buffers}
use Rattle.nm_own.proofs.Tests.{some_of, some_true}
use Rattle.nm_own.proofs.Closing.{sided_one}
use Rattle.nm_port.proofs.Checked.{ring_found}
use Rattle.nm_port.proofs.Seeing.{pushed_is_seen}
use Rattle.nm_port.specs.Offers.{length_seen}
use Rattle.nm_port.proofs.Pushes.{offered_are}
use Rattle.nm_own.proofs.Offered.{lengths_are_seen}
use Rattle.nm_own.proofs.OnePort.{Among, among, named_at}
use Rattle.nm_own.proofs.Passing.{Passes, ring_is, own_side, positions_fit, ports_once}
use Rattle.nm_port.proofs.Ranges.{is_slot_from}
use Rattle.nm_own.proofs.Pushed.{among_tx, rest_not_tx, slots_held, can_exchange}

is_least : (a b : ℕ) → a ≤ b → nat_le a b ≡ true
is_least a b e = grind (arith, nat_tests)

is_more : (a b : ℕ) → b < a → nat_le a b ≡ false
is_more a b e = grind (arith, nat_tests)

module _ (h : HoldState) (ports : List UserPort) (id : PortId) (p : UserPort) (r : RingSlots) (x : Passes h ports side.Tx id p r) where
  abbrev size : ℕ
  size = r.ring.size

  abbrev first : ℕ
  first = offered_slot r.ring

  pub ring_of_put : IsRing r.ring
  ring_of_put = ring_is h ports side.Tx id p r x

  tx_side : r.side ≡ side.Tx
  tx_side = own_side h ports side.Tx id p r x

  pub fits_of_put : FitsRing r.ring r.ring.head r.ring.cur
  fits_of_put = positions_fit h ports side.Tx id p r x

  tail_within : r.ring.last_tail < size
  tail_within = let w = ring_of_put.within in let o = ring_of_put.one_tail in omega arith

  pub first_within : first < size
  first_within = step_on-below size r.ring.last_tail 1 tail_within

  pending_is : pending_count_of r ≡ size - 1 - dist size r.ring.accepted_head r.ring.last_tail
  pending_is = dist_behind size r.ring.accepted_head r.ring.last_tail ring_of_put.accepted tail_within

  pub few_offered : offered_count_of r < size
  few_offered =
      let t = dist-below size r.ring.accepted_head r.ring.last_tail ring_of_put.accepted in
      let reach = fits_of_put.head_reach in
      omega (arith, pending_is)

  others : Among ports id.0 p
  others = among ports id.0 p x.has.found (ports_once h ports side.Tx id p r x)

  can : CanPushOut 0 r
  can = record { side = tx_side; is_ring = ring_of_put; fits = fits_of_put; few = omega arith }

  -- a slot that is still pushed is not the user's
  not_user : (k : ℕ) → k < pending_count_of r → is_among (named_places ports) (place.Tx id (step_on size first k)) ≡ false
  not_user k below =
      let at = step_on size first k in
      let q = place.Tx id at in
      let t = dist-below size r.ring.accepted_head r.ring.last_tail ring_of_put.accepted in
      let inside = step_on-below size first k first_within in
      let far : dist size r.ring.accepted_head at ≡ dist size r.ring.accepted_head r.ring.last_tail + (1 + k) =
      ap (dist size r.ring.accepted_head) (step_on-step_on size r.ring.last_tail 1 k) ∙ dist-add size r.ring.accepted_head r.ring.last_tail (1 + k) ring_of_put.accepted tail_within (omega (arith, pending_is, below)) in
      let in_ring : is_among (named_ring_places id r) q ≡ false =
      rw tx_side (among_tx id (user_slots r.ring) at ∙ (is_slot_from size r.ring.accepted_head (dist size r.ring.accepted_head r.ring.last_tail) at ring_of_put.accepted (omega arith) inside
      ∙ less_false (dist size r.ring.accepted_head at) (dist size r.ring.accepted_head r.ring.last_tail) (omega (arith, far)))) in
      let rest = rest_not_tx id r 0 ring_of_put can p at (sided_one ports id.0 p x.has.found x.has.sided).1 in
      ap (λ (all : List UserPort). is_among (named_places all) q) others.are
      ∙ (named_at id.0 others.before others.behind p q others.first others.rest refl
      ∙ rw (x.on, x.has.same_id) (list_any-append (λ y. is_same_place y q) (named_ring_places id r) _ ∙ rw in_ring (rw x.has.same_id at rest)))

  module _ (h1 : HoldState) (exchange : AreExchanged h h1 id r (pushed_count_of r)) where
    pub still_held : (at : ℕ) → at < size → IsSome (index_at h1 (place.Tx id at))
    still_held at inside = some_of (index_at h1 (place.Tx id at)) (exchange.held (place.Tx id at) ∙ some_true (index_at h (place.Tx id at)) (slots_held h ports id p r x at inside))

    pub offered_held : (k : ℕ) → IsSome (index_at h1 (place_on r.side id (step_on size first k)))
    offered_held k = rw tx_side (still_held (step_on size first k) (step_on-below size first k first_within))

    unnamed : (k : ℕ) → k < pending_count_of r → AreNamedAs false h1 (place.Tx id (step_on size first k))
    unnamed k below i there = by_cell (standing_at h1 i) refl
      where
        by_cell : (o : Option Standing) → standing_at h1 i ≡ o → is_named_in o ≡ false
        by_cell None e = refl
        by_cell (Some s) e =
            let q = place.Tx id (step_on size first k) in
            let same : q ≡ s.home.place = same_place-is q s.home.place (sym (ap (stands_at q) e) ∙ exchange.is_hold.held q i there) in
            exchange.flags (is_among (named_places ports)) x.has.flagged i s e ∙ (ap (is_among (named_places ports)) (sym same) ∙ not_user k below)

    pub offered_flags : (k : ℕ) → k < offered_count_of r → AreNamedAs (nat_le (pending_count_of r) k) h1 (place_on r.side id (step_on size first k))
    offered_flags k below = elim (cases_lt k (pending_count_of r)) [
      | inl pending ↦ rw (is_more (pending_count_of r) k pending, tx_side) (unnamed k pending)
      | inr pushed ↦ (let j = k - pending_count_of r in
          let sum : k ≡ pending_count_of r + j = omega arith in
          let at : step_on size first k ≡ user_position r j =
          ap (step_on size first) sum ∙ (sym (step_on-step_on size first (pending_count_of r) j) ∙ ap (λ (n : ℕ). step_on size n j) (step_on-dist size first r.ring.accepted_head first_within ring_of_put.accepted)) in
          let there = exchange.there (user_place id r j) ((can_exchange h ports id p r x).there j (omega (arith, sum))) in
          rw (is_least (pending_count_of r) k (omega arith), at) there)
    ]

    -- what is seen of the places offered
    pub exchanged_seen : map (port_seen h1) ports ≡ (after_exchange side.Tx id.0 (own_seen h ports)).ports
    exchanged_seen =
        let pushed : pushed_on side.Tx id.0 (own_seen h ports) ≡ pushed_seen h id r = rw (ring_found h ports side.Tx id r x.at) (pushed_is_seen h id side.Tx r tx_side ring_of_put fits_of_put) in
        exchange.seen ports x.has.sided (ap (λ (s : Side). slots_at s ports id.0) tx_side ∙ x.at)
        ∙ (ap (λ (s : Side). fold (after_slot s id.0) (map (port_seen h) ports) (pushed_seen h id r)) tx_side ∙ ap (fold (after_slot side.Tx id.0) (map (port_seen h) ports)) (sym pushed))

    taken_seen : (all : List UserPort) (n : ℕ) → port_at all id.0 ≡ Some p → taken_on id.0 (map (port_seen h1) all) n ≡ taken_from n (ring_seen h1 id r)
    taken_seen [] n there = absurd cc
    taken_seen (y ∷ all) n there = elim (cases_Bool (nat_eq y.id.0 id.0)) [
      | inl here ↦ (let is_p : y ≡ p = same_Some y p (rw here at there) in
          let tx_y : y.tx ≡ Some r = ap (λ (z : UserPort). z.tx) is_p ∙ x.on in
          let id_y : y.id ≡ id = ap (λ (z : UserPort). z.id) is_p ∙ x.has.same_id in
          rw (here, tx_y, id_y) refl)
      | inr other ↦ rw other (taken_seen all n (rw other at there))
    ]

    numbers_in : (a n : ℕ) → map (buffer_in side.Tx (ring_seen h1 id r)) (map (step_on size first) (range_with_len a n)) ≡ map (number_at h1) (map (place_on r.side id) (map (step_on size first) (range_with_len a n)))
    numbers_in a zero = refl
    numbers_in a (suc n) =
        let at = step_on size first a in
        let inside = step_on-below size first a first_within in
        let one : buffer_in side.Tx (ring_seen h1 id r) at ≡ number_at h1 (place_on r.side id at) =
        rw tx_side (get_or-map-range_with_len (number_on h1 side.Tx id) 0 size at at 0 inside (omega arith)) in
        ap (λ (i : ℕ). i ∷ map (buffer_in side.Tx (ring_seen h1 id r)) (map (step_on size first) (range_with_len (a + 1) n))) one
        ∙ ap (λ (is : List ℕ). number_at h1 (place_on r.side id at) ∷ is) (numbers_in (a + 1) n)

    pub taken_numbers : (n : ℕ) → n ≤ offered_count_of r → taken_on id.0 (after_exchange side.Tx id.0 (own_seen h ports)).ports n ≡ map (number_at h1) (map (place_on r.side id) (slots_from size first n))
    taken_numbers n few =
        let slots : take n (pending_slots r.ring ++ pushed_slots r.ring r.ring.head) ≡ slots_from size first n =
        ap (take n) (sym (offered_are r.ring ring_of_put)) ∙ take-map-range_with_len (step_on size first) 0 (offered_count_of r) n few in
        ap (λ (all : List OwnPort). taken_on id.0 all n) (sym exchanged_seen)
        ∙ (taken_seen ports n x.has.found ∙ (ap (map (buffer_in side.Tx (ring_seen h1 id r))) slots ∙ numbers_in 0 n))

  pub offered_number : offered_count id.0 (own_seen h ports) ≡ offered_count_of r
  offered_number =
      ap (λ (ns : List ℕ). length ns) (sym (lengths_are_seen h ports id r x.has.sided x.at))
      ∙ (length-map (pending_slots r.ring ++ pushed_slots r.ring r.ring.head) (length_seen r)
      ∙ (ap (λ (ats : List ℕ). length ats) (sym (offered_are r.ring ring_of_put)) ∙ length-slots_from size first (offered_count_of r)))

  pub numbers_go : (h1 : HoldState) → AreExchanged h h1 id r (pushed_count_of r) → map (number_at h1) (map (place_on r.side id) (slots_from size first (offered_count_of r))) ≡ offered_buffers id.0 (own_seen h ports)
  numbers_go h1 exchange = sym (taken_numbers h1 exchange (offered_count_of r) (omega arith)) ∙ ap (taken_on id.0 (after_exchange side.Tx id.0 (own_seen h ports)).ports) (sym offered_number)
