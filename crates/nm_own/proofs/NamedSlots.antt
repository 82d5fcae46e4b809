-- Each of the user's slots has a named buffer in its place.
use Rattle.std.proofs.Common.{ℕ, ◌≡◌, true, nat_eq, nat_lt, List, [], ◌∷◌, ◌++◌, map, Option, Some, None, inl, inr, refl, sym, ◌∙◌, ap, arith}
use Rattle.std.specs.Prelude.{is_some}
use Rattle.std.specs.List.{range_with_len}
use Rattle.std.proofs.lemmas.Bool.{cases_Bool}
use Rattle.std.proofs.lemmas.List.Folds.{list_any-append}
use Rattle.std.proofs.lemmas.Option.{same_Some}
use Rattle.nm_types.specs.declared.id.PortId.{PortId}
use Rattle.nm_types.specs.declared.id.Side.{Side}
use Rattle.nm_types.specs.declared.id.Side.TheVariants.{Tx, Rx}
use Rattle.nm_types.specs.declared.place.Place.{Place}
use Rattle.nm_types.specs.declared.place.Place.TheVariants as place
use Rattle.nm_types.specs.Places.{is_same_place}
use Rattle.nm_types.specs.Positions.{IsRing, dist, user_slots, is_user_slot}
use Rattle.nm_types.proofs.RingSteps.{dist-below}
use Rattle.nm_types.proofs.Tests.{both_are, less_is, or_first, or_second, false_true, same_true}
use Rattle.nm_hold.specs.declared.standing.Standing.{Standing}
use Rattle.nm_hold.specs.Holds.{index_at, standing_at, stands_at, is_named_at, is_named_in}
use Rattle.nm_hold.proofs.Spots.{same_place-is}
use Rattle.nm_port.specs.declared.port.UserPort.{UserPort}
use Rattle.nm_port.specs.RingSlots.{RingSlots}
use Rattle.nm_port.specs.Sides.{HaveNamed}
use Rattle.nm_port.specs.Own.{port_at, slots_at, named_ring_places, named_tx_places, named_places_of, named_places, is_filled_in}
use Rattle.nm_port.specs.Exchanges.{is_among}
use Rattle.nm_port.proofs.Checked.{found, side_found, tx_ring_found}
use Rattle.nm_port.proofs.Ranges.{is_slot_from, among_slots}
use Rattle.nm_own.specs.declared.own.OwnSide.TheInside.{Inside}
use Rattle.nm_own.specs.Kept.{IsKept}
use Rattle.nm_own.proofs.Closing.{filled_in_one}
use Rattle.nm_own.proofs.Offered.{rx_ring_found}
use Rattle.nm_own.proofs.RxPlaces.{rx_named}

-- the named places of a port are among those of all
named_in_one : (ports : List UserPort) (id : ℕ) (p : UserPort) (q : Place) → port_at ports id ≡ Some p → is_among (named_places_of p) q ≡ true → is_among (named_places ports) q ≡ true
named_in_one [] id p q at named = absurd cc
named_in_one (x ∷ ports) id p q at named =
    list_any-append (λ y. is_same_place y q) (named_places_of x) (named_places ports) ∙ elim (cases_Bool (nat_eq x.id.0 id)) [
      | inl here ↦ (let is : x ≡ p = same_Some x p (rw here at at) in or_first (is_among (named_places_of x) q) (is_among (named_places ports) q) (rw is named))
      | inr other ↦ or_second (is_among (named_places_of x) q) (is_among (named_places ports) q) (named_in_one ports id p q (rw other at at) named)
    ]

-- a user's slot of a transmit ring is one of the port's named places
tx_named : (p : UserPort) (r : RingSlots) (at : ℕ) → p.tx ≡ Some r → r.side ≡ Tx → IsRing r.ring → is_user_slot r.ring at ≡ true → is_among (named_places_of p) (place.Tx p.id at) ≡ true
tx_named p r at on side is user =
    let q = place.Tx p.id at in
    let rest = named_ring_places p.id p.rx ++ map (place.Extra p.id) (range_with_len 0 p.extra) in
    let both = both_are (nat_lt at r.ring.size) (nat_lt (dist r.ring.size r.ring.accepted_head at) (dist r.ring.size r.ring.accepted_head r.ring.last_tail)) user in
    let few = dist-below r.ring.size r.ring.accepted_head r.ring.last_tail is.accepted in
    let there : is_among (named_ring_places p.id r) q ≡ true =
    rw side (among_slots Tx p.id (user_slots r.ring) at ∙ (is_slot_from r.ring.size r.ring.accepted_head (dist r.ring.size r.ring.accepted_head r.ring.last_tail) at is.accepted (omega arith) (less_is at r.ring.size both.0) ∙ both.1)) in
    ap (λ (o : Option RingSlots). is_among (named_tx_places p.id o ++ rest) q) on
    ∙ (list_any-append (λ y. is_same_place y q) (named_ring_places p.id r) rest ∙ or_first (is_among (named_ring_places p.id r) q) (is_among rest q) there)

module _ (o : Inside) (kept : IsKept o) where
  -- a place that is filled and named has a named buffer
  has_named : (id : ℕ) (p : UserPort) (q : Place) → port_at o.ports.items id ≡ Some p → is_filled_in q p ≡ true → is_among (named_places_of p) q ≡ true
      → (idx : ℕ) × ((index_at o.hold q ≡ Some idx) × (is_named_at o.hold idx ≡ true))
  has_named id p q at filled named = by_index (index_at o.hold q) refl
    where
      among : is_among (named_places o.ports.items) q ≡ true
      among = named_in_one o.ports.items id p q at named

      by_cell : (i : ℕ) (cell : Option Standing) → standing_at o.hold i ≡ cell → stands_at q (standing_at o.hold i) ≡ true → is_named_at o.hold i ≡ true
      by_cell i None none stands = false_true (ap (stands_at q) (sym none) ∙ stands)
      by_cell i (Some s) some stands =
          let same : q ≡ s.home.place = same_place-is q s.home.place (sym (ap (stands_at q) some) ∙ stands) in
          ap is_named_in some ∙ (kept.flagged i s some ∙ (ap (is_among (named_places o.ports.items)) (sym same) ∙ among))

      by_index : (found : Option ℕ) → index_at o.hold q ≡ found → (idx : ℕ) × ((index_at o.hold q ≡ Some idx) × (is_named_at o.hold idx ≡ true))
      by_index None none = false_true (ap is_some (sym none) ∙ (kept.filled q ∙ filled_in_one o.ports.items id p q at filled))
      by_index (Some i) some = (i, (some, by_cell i (standing_at o.hold i) refl (kept.hold.held q i some)))

  by_side : (side : Side) (id : PortId) (r : RingSlots) → slots_at side o.ports.items id.0 ≡ Some r → r.side ≡ side → HaveNamed o.hold id r
  by_side Tx id r at own n user =
      let f = found o.ports.items Tx id r at in
      let is = tx_ring_found o.ports.items id r kept.rings at in
      let both = both_are (nat_lt n r.ring.size) (nat_lt (dist r.ring.size r.ring.accepted_head n) (dist r.ring.size r.ring.accepted_head r.ring.last_tail)) user in
      let filled : is_filled_in (place.Tx id n) f.p ≡ true = rw (f.id, f.on, same_true id.0 id.0 refl) both.0 in
      let named : is_among (named_places_of f.p) (place.Tx id n) ≡ true = ap (λ (i : PortId). is_among (named_places_of f.p) (place.Tx i n)) (sym f.id) ∙ tx_named f.p r n f.on own is user in
      rw own (has_named id.0 f.p (place.Tx id n) f.there filled named)
  by_side Rx id r at own n user =
      let f = found o.ports.items Rx id r at in
      let is = rx_ring_found o.ports.items id r kept.rings at in
      let its : f.p.rx ≡ r = same_Some f.p.rx r f.on in
      let filled : is_filled_in (place.Rx id n) f.p ≡ true = rw (f.id, its, same_true id.0 id.0 refl) user in
      let named : is_among (named_places_of f.p) (place.Rx id n) ≡ true =
      ap (λ (i : PortId). is_among (named_places_of f.p) (place.Rx i n)) (sym f.id) ∙ rx_named f.p n (ap (λ (t : RingSlots). t.side) its ∙ own) (rw its is) (rw its user) in
      rw own (has_named id.0 f.p (place.Rx id n) f.there filled named)

  pub have_named : (side : Side) (id : PortId) (r : RingSlots) → slots_at side o.ports.items id.0 ≡ Some r → HaveNamed o.hold id r
  have_named side id r at = by_side side id r at (side_found o.ports.items side id r kept.sided at)
