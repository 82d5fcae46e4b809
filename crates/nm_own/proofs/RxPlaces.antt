-- The places of a port's receive ring: those of the user's slots, each filled and named; and a port whose
-- receive ring alone is changed.
use Rattle.std.proofs.Common.{ℕ, ◌≡◌, ◌<◌, ◌+◌, ◌-◌, ◌||◌, Bool, true, false, nat_eq, nat_lt, if◌then◌else◌, List, [], ◌∷◌, ◌++◌, map, Option, Some, None, option_map, refl, sym, ◌∙◌, ap, arith}
use Rattle.std.specs.List.{range_with_len}
use Rattle.std.proofs.lemmas.Bool.Decides.{nat_tests}
use Rattle.std.proofs.lemmas.List.Folds.{list_any-append}
use Rattle.nm_types.specs.declared.id.PortId.{PortId}
use Rattle.nm_types.specs.declared.id.Side.TheVariants.{Tx, Rx}
use Rattle.nm_types.specs.declared.place.Place.{Place}
use Rattle.nm_types.specs.declared.place.Place.TheVariants as place
use Rattle.nm_types.specs.Places.{is_same_place}
use Rattle.nm_types.specs.Positions.{RingState, IsRing, FitsRing, dist, step_on, user_slots, is_user_slot}
use Rattle.nm_types.specs.OwnPorts.{OwnRing}
use Rattle.nm_types.proofs.RingSteps.{dist-below, dist_split, seen_from}
use Rattle.nm_types.proofs.Tests.{both_are, less_is, or_first, or_second}
use Rattle.nm_hold.specs.Holds.{HoldState, port_of}
use Rattle.nm_port.specs.declared.port.UserPort.{UserPort}
use Rattle.nm_port.specs.RingSlots.{RingSlots}
use Rattle.nm_port.specs.Sides.{place_on, number_at}
use Rattle.nm_port.specs.Own.{number_on, extra_number_at, ring_seen, port_seen, named_ring_places, named_tx_places, named_places_of, is_filled_in, IsTxSide}
use Rattle.nm_port.specs.Exchanges.{is_among}
use Rattle.nm_port.proofs.Seeing.{map-same}
use Rattle.nm_port.proofs.SlotLists.{tail_stays}
use Rattle.nm_port.proofs.Ranges.{is_slot_from, among_slots}
use Rattle.nm_own.proofs.Closing.{Has}
use Rattle.nm_own.proofs.OnePort.{IsLike, tx_side_of, tx_ring_of}
use Rattle.nm_own.proofs.Pushed.{flag_is}

-- slots of a receive ring are no other places
pub rx_elsewhere : (id : PortId) (ats : List ℕ) (q : Place) → nat_eq id.0 (port_of q) ≡ false → is_among (map (place_on Rx id) ats) q ≡ false
rx_elsewhere id [] q other = refl
rx_elsewhere id (x ∷ ats) (place.Tx port at) other = rx_elsewhere id ats (place.Tx port at) other
rx_elsewhere id (x ∷ ats) (place.Rx port at) other = rw other (rx_elsewhere id ats (place.Rx port at) other)
rx_elsewhere id (x ∷ ats) (place.Extra port at) other = rx_elsewhere id ats (place.Extra port at) other

pub rx_not_tx : (id port : PortId) (ats : List ℕ) (at : ℕ) → is_among (map (place_on Rx id) ats) (place.Tx port at) ≡ false
rx_not_tx id port [] at = refl
rx_not_tx id port (x ∷ ats) at = rx_not_tx id port ats at

pub rx_not_extra : (id port : PortId) (ats : List ℕ) (at : ℕ) → is_among (map (place_on Rx id) ats) (place.Extra port at) ≡ false
rx_not_extra id port [] at = refl
rx_not_extra id port (x ∷ ats) at = rx_not_extra id port ats at

none_below : (c : ℕ) → nat_lt c 0 ≡ false
none_below c = grind (arith, nat_tests)

-- the places of the user's slots
module _ (id : PortId) (r : RingSlots) (side : r.side ≡ Rx) (is : IsRing r.ring) where
  pub ring_named : (at : ℕ) → is_user_slot r.ring at ≡ true → is_among (named_ring_places id r) (place.Rx id at) ≡ true
  ring_named at user =
      let both = both_are (nat_lt at r.ring.size) (nat_lt (dist r.ring.size r.ring.accepted_head at) (dist r.ring.size r.ring.accepted_head r.ring.last_tail)) user in
      let inside = less_is at r.ring.size both.0 in
      let few = dist-below r.ring.size r.ring.accepted_head r.ring.last_tail is.accepted in
      rw side (among_slots Rx id (user_slots r.ring) at ∙ (is_slot_from r.ring.size r.ring.accepted_head (dist r.ring.size r.ring.accepted_head r.ring.last_tail) at is.accepted (omega arith) inside ∙ both.1))

pub rx_named : (p : UserPort) (at : ℕ) → p.rx.side ≡ Rx → IsRing p.rx.ring → is_user_slot p.rx.ring at ≡ true → is_among (named_places_of p) (place.Rx p.id at) ≡ true
rx_named p at side is user =
    let q = place.Rx p.id at in
    let extras = map (place.Extra p.id) (range_with_len 0 p.extra) in
    list_any-append (λ x. is_same_place x q) (named_tx_places p.id p.tx) (named_ring_places p.id p.rx ++ extras)
    ∙ or_second (is_among (named_tx_places p.id p.tx) q) (is_among (named_ring_places p.id p.rx ++ extras) q)
    (list_any-append (λ x. is_same_place x q) (named_ring_places p.id p.rx) extras ∙ or_first (is_among (named_ring_places p.id p.rx) q) (is_among extras q) (ring_named p.id p.rx side is at user))

port_is : (port id : PortId) → nat_eq port.0 id.0 ≡ true → id ≡ port
port_is port id e = ap (λ (n : ℕ). let i : PortId = record { 0 = n } in i) (same port.0 id.0 e)
  where
    same : (a b : ℕ) → nat_eq a b ≡ true → b ≡ a
    same a b e = grind (arith, nat_tests)

pub filled_named : (p : UserPort) (port : PortId) (at : ℕ) → p.rx.side ≡ Rx → IsRing p.rx.ring → is_filled_in (place.Rx port at) p ≡ true → is_among (named_places_of p) (place.Rx port at) ≡ true
filled_named p port at side is filled =
    let both = both_are (nat_eq port.0 p.id.0) (is_user_slot p.rx.ring at) filled in
    ap (λ (i : PortId). is_among (named_places_of p) (place.Rx i at)) (sym (port_is port p.id both.0)) ∙ rx_named p at side is both.1

-- a port with another receive ring
abbrev pub with_rx : UserPort → RingSlots → UserPort
with_rx p r = record p { rx = r }

pub like_with_rx : (h : HoldState) (ports : List UserPort) (id : PortId) (p : UserPort) (r : RingSlots) → Has h ports id p → r.ring.size ≡ p.rx.ring.size → r.side ≡ Rx → IsRing r.ring → IsLike p (with_rx p r)
like_with_rx h ports id p r has size side ring = record {
  same_id = refl;
  sizes = rw size refl;
  back = refl;
  sides = (tx_side_of ports id.0 p has.found has.sided, side);
  rings = (tx_ring_of ports id.0 p has.found has.rings, ring);
}

rest_alike : (p : UserPort) (r : RingSlots) (q : Place) → is_among (named_ring_places p.id p.rx) q ≡ false → is_among (named_ring_places p.id r) q ≡ false → is_among (named_places_of p) q ≡ is_among (named_places_of (with_rx p r)) q
rest_alike p r q one two = parts p.rx one ∙ sym (parts r two)
  where
    extras : List Place
    extras = map (place.Extra p.id) (range_with_len 0 p.extra)

    parts : (t : RingSlots) → is_among (named_ring_places p.id t) q ≡ false → is_among (named_tx_places p.id p.tx ++ (named_ring_places p.id t ++ extras)) q ≡ (is_among (named_tx_places p.id p.tx) q || is_among extras q)
    parts t none =
        list_any-append (λ x. is_same_place x q) (named_tx_places p.id p.tx) (named_ring_places p.id t ++ extras)
        ∙ ap (λ (b : Bool). is_among (named_tx_places p.id p.tx) q || b) (list_any-append (λ x. is_same_place x q) (named_ring_places p.id t) extras ∙ rw none refl)

-- a place that is filled in both is a named one in both, or in none
pub named_alike : (p : UserPort) (r : RingSlots) (q : Place) → p.rx.side ≡ Rx → r.side ≡ Rx → IsRing p.rx.ring → IsRing r.ring → is_filled_in q p ≡ true → is_filled_in q (with_rx p r) ≡ true
    → is_among (named_places_of p) q ≡ is_among (named_places_of (with_rx p r)) q
named_alike p r (place.Rx port at) side new_side is new_is filled new_filled = filled_named p port at side is filled ∙ sym (filled_named (with_rx p r) port at new_side new_is new_filled)
named_alike p r (place.Tx port at) side new_side is new_is filled new_filled = rest_alike p r (place.Tx port at) (rw side (rx_not_tx p.id port (user_slots p.rx.ring) at)) (rw new_side (rx_not_tx p.id port (user_slots r.ring) at))
named_alike p r (place.Extra port at) side new_side is new_is filled new_filled = rest_alike p r (place.Extra port at) (rw side (rx_not_extra p.id port (user_slots p.rx.ring) at)) (rw new_side (rx_not_extra p.id port (user_slots r.ring) at))

-- the user's slots once a push is accepted
pub user_left : (ring : RingState) (at : ℕ) → IsRing ring → FitsRing ring ring.head ring.cur → at < ring.size
    → (if nat_lt (dist ring.size ring.accepted_head at) (dist ring.size ring.accepted_head ring.head) then false else nat_lt (dist ring.size ring.accepted_head at) (dist ring.size ring.accepted_head ring.last_tail))
    ≡ nat_lt (dist ring.size ring.head at) (dist ring.size ring.head (step_on ring.size ring.last_tail 0))
user_left ring at is fits inside =
    let size = ring.size in
    let tail : ring.last_tail < size = (let e = is.one_tail in let w = is.within in omega arith) in
    let split = dist_split size ring.accepted_head ring.head ring.last_tail is.accepted fits.head_within tail fits.head_reach in
    let a = dist-below size ring.accepted_head at is.accepted in
    let b = dist-below size ring.head at fits.head_within in
    let c = dist-below size ring.last_tail at tail in
    let t = dist-below size ring.accepted_head ring.last_tail is.accepted in
    let left : dist size ring.head ring.last_tail ≡ dist size ring.accepted_head ring.last_tail - dist size ring.accepted_head ring.head + 0 = omega arith in
    let flag = flag_is size (dist size ring.accepted_head at) (dist size ring.head at) (dist size ring.last_tail at) (dist size ring.accepted_head ring.head) (dist size ring.accepted_head ring.last_tail) 0 a b c fits.head_reach t (omega arith)
    (seen_from size ring.accepted_head ring.head at is.accepted fits.head_within inside) (seen_from size ring.accepted_head ring.last_tail at is.accepted tail inside) in
    sym (ap (λ (n : ℕ). nat_lt (dist size ring.head at) (dist size ring.head n)) (tail_stays ring is) ∙ (ap (nat_lt (dist size ring.head at)) left
    ∙ (flag ∙ ap (λ (f : Bool). if f then true else if nat_lt (dist size ring.accepted_head at) (dist size ring.accepted_head ring.head) then false else nat_lt (dist size ring.accepted_head at) (dist size ring.accepted_head ring.last_tail))
    (none_below (dist size ring.last_tail at)))))

-- a port is seen the same but for its receive ring
module _ (was new : HoldState) (p : UserPort) (tx_side : IsTxSide p.tx) (sent : (at : ℕ) → number_at new (place.Tx p.id at) ≡ number_at was (place.Tx p.id at))
    (extra : (at : ℕ) → number_at new (place.Extra p.id at) ≡ number_at was (place.Extra p.id at)) where
  tx_same : (tx : Option RingSlots) → IsTxSide tx → option_map (ring_seen new p.id) tx ≡ option_map (ring_seen was p.id) tx
  tx_same None is = refl
  tx_same (Some t) is = rw is (rw (map-same (number_on new Tx p.id) (number_on was Tx p.id) (range_with_len 0 t.ring.size) sent) refl)

  pub seen_with_rx : (r : RingSlots) (g : OwnRing → OwnRing) → ring_seen new p.id r ≡ g (ring_seen was p.id p.rx) → port_seen new (with_rx p r) ≡ record (port_seen was p) { rx = g (ring_seen was p.id p.rx) }
  seen_with_rx r g same = rw (tx_same p.tx tx_side, same, map-same (extra_number_at new p.id) (extra_number_at was p.id) (range_with_len 0 p.extra) extra) refl
