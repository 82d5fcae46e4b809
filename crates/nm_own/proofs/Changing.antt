-- A change of the rings on a side of a port, over what is seen.
use Rattle.std.proofs.Common.{ℕ, ◌≡◌, nat_eq, List, [], ◌∷◌, ◌++◌, map, Option, Some, None, option_map, inl, inr, refl, sym, ◌∙◌, ap}
use Rattle.std.specs.List.{range_with_len}
use Rattle.std.proofs.lemmas.Bool.{cases_Bool}
use Rattle.nm_types.specs.declared.id.PortId.{PortId}
use Rattle.nm_types.specs.declared.id.Side.{Side}
use Rattle.nm_types.specs.declared.id.Side.TheVariants.{Tx, Rx}
use Rattle.nm_types.specs.declared.place.Place.{Place}
use Rattle.nm_types.specs.declared.place.Place.TheVariants as place
use Rattle.nm_types.specs.Positions.{RingState, IsRing, is_user_slot}
use Rattle.nm_types.specs.OwnPorts.{OwnRing, OwnPort, OwnState, port_if, with_ring, with_ring_on}
use Rattle.nm_hold.specs.Holds.{HoldState, buffers_of}
use Rattle.nm_port.specs.declared.port.UserPort.{UserPort}
use Rattle.nm_port.specs.RingSlots.{RingSlots}
use Rattle.nm_port.specs.Own.{bytes_in_cell, ring_seen, port_seen, own_seen, named_ring_places, named_tx_places, AreSided, AreRings, size_if, is_filled_in, IsTxSide, IsRingIf, port_changed, port_changed_if}
use Rattle.nm_own.proofs.KeptPorts.{KeepsPlaces, KeepsPort, keeps_port_if}

-- a ring that has the same slots, of which the same are the user's
pub record SameUse (new ring : RingState) : Type 0 where
  pub size : new.size ≡ ring.size
  pub accepted : new.accepted_head ≡ ring.accepted_head
  pub last : new.last_tail ≡ ring.last_tail

user_same : (new ring : RingState) (at : ℕ) → SameUse new ring → is_user_slot new at ≡ is_user_slot ring at
user_same new ring at same = rw (same.size, same.accepted, same.last) refl

-- a change of a ring keeps its side and its places, and is seen as a change of what is seen
pub record Keeps (h : HoldState) (side : Side) (f : PortId → RingSlots → RingSlots) (g : OwnRing → OwnRing) : Type 0 where
  pub sides : (id : PortId) (r : RingSlots) → (f id r).side ≡ r.side
  pub rings : (id : PortId) (r : RingSlots) → IsRing r.ring → IsRing (f id r).ring
  pub places : (id : PortId) (r : RingSlots) → named_ring_places id (f id r) ≡ named_ring_places id r
  pub same : (id : PortId) (r : RingSlots) → SameUse (f id r).ring r.ring
  pub seen : (id : PortId) (r : RingSlots) → r.side ≡ side → IsRing r.ring → ring_seen h id (f id r) ≡ g (ring_seen h id r)

module _ (h : HoldState) (side : Side) (f : PortId → RingSlots → RingSlots) (g : OwnRing → OwnRing) (keeps : Keeps h side f g) where
  tx_seen : (id : PortId) (tx : Option RingSlots) → side ≡ Tx → IsTxSide tx → IsRingIf tx → option_map (ring_seen h id) (option_map (f id) tx) ≡ option_map g (option_map (ring_seen h id) tx)
  tx_seen id None e is rings = refl
  tx_seen id (Some r) e is rings = ap (λ (o : OwnRing). Some o) (keeps.seen id r (is ∙ sym e) rings)

  seen_port : (s : Side) (p : UserPort) → side ≡ s → IsTxSide p.tx → p.rx.side ≡ Rx → IsRingIf p.tx → IsRing p.rx.ring
      → port_seen h (port_changed s f p) ≡ with_ring_on s g (port_seen h p)
  seen_port Tx p e tx rx tx_ring rx_ring = ap (λ (o : Option OwnRing). record (port_seen h p) { tx = o }) (tx_seen p.id p.tx e tx tx_ring)
  seen_port Rx p e tx rx tx_ring rx_ring = ap (λ (r : OwnRing). record (port_seen h p) { rx = r }) (keeps.seen p.id p.rx (rx ∙ sym e) rx_ring)

  seen_ports : (id : ℕ) (ports : List UserPort) → AreSided ports → AreRings ports
      → map (port_seen h) (map (port_changed_if id side f) ports) ≡ map (port_if id (with_ring_on side g)) (map (port_seen h) ports)
  seen_ports id [] sided rings = refl
  seen_ports id (p ∷ ports) sided rings =
      let others = seen_ports id ports sided.1 rings.1 in
      elim (cases_Bool (nat_eq p.id.0 id)) [
        | inl here ↦ rw (here, seen_port side p refl sided.0.0 sided.0.1 rings.0.0 rings.0.1, others) refl
        | inr other ↦ rw (other, others) refl
      ]

  -- what is seen after a change
  pub seen_changed : (id : ℕ) (ports : List UserPort) → AreSided ports → AreRings ports → own_seen h (map (port_changed_if id side f) ports) ≡ with_ring side id g (own_seen h ports)
  seen_changed id ports sided rings =
      ap (λ (seen : List OwnPort). let s : OwnState = record { pool = buffers_of h; ports = seen; bytes = map bytes_in_cell h.cells } in s) (seen_ports id ports sided rings)

-- a change of the transmit ring that keeps its side and its size keeps the places
module _ (f : PortId → RingSlots → RingSlots) (keeps_side : (id : PortId) (r : RingSlots) → (f id r).side ≡ r.side) (keeps_size : (id : PortId) (r : RingSlots) → (f id r).ring.size ≡ r.ring.size) where
  tx_side : (id : PortId) (tx : Option RingSlots) → IsTxSide tx → IsTxSide (option_map (f id) tx)
  tx_side id None is = tt
  tx_side id (Some r) is = keeps_side id r ∙ is

  tx_size : (id : PortId) (tx : Option RingSlots) → size_if (option_map (f id) tx) ≡ size_if tx
  tx_size id None = refl
  tx_size id (Some r) = keeps_size id r

  tx_filled : (q : Place) (p : UserPort) → is_filled_in q (port_changed Tx f p) ≡ is_filled_in q p
  tx_filled (place.Tx port at) p = rw (tx_size p.id p.tx) refl
  tx_filled (place.Rx port at) p = refl
  tx_filled (place.Extra port at) p = refl

  pub tx_keeps : KeepsPlaces (port_changed Tx f)
  tx_keeps = record {
    sided = λ p is. (tx_side p.id p.tx is.0, is.1);
    places = λ p. rw (tx_size p.id p.tx) refl;
    filled = tx_filled;
    back = λ p room. rw (tx_size p.id p.tx) room;
  }

-- a change of a ring keeps what is asked of a port
module _ (h : HoldState) (f : PortId → RingSlots → RingSlots) (g : OwnRing → OwnRing) where
  tx_port : Keeps h Tx f g → KeepsPort (port_changed Tx f)
  tx_port keeps = record {
    stays = tx_keeps f keeps.sides (λ id r. (keeps.same id r).size);
    rings = λ p are. (ring p.id p.tx are.0, are.1);
    named = λ p. ap (λ (places : List Place). places ++ (named_ring_places p.id p.rx ++ map (place.Extra p.id) (range_with_len 0 p.extra))) (places p.id p.tx);
  }
    where
      ring : (id : PortId) (tx : Option RingSlots) → IsRingIf tx → IsRingIf (option_map (f id) tx)
      ring id None is = tt
      ring id (Some r) is = keeps.rings id r is

      places : (id : PortId) (tx : Option RingSlots) → named_tx_places id (option_map (f id) tx) ≡ named_tx_places id tx
      places id None = refl
      places id (Some r) = keeps.places id r

  rx_port : Keeps h Rx f g → KeepsPort (port_changed Rx f)
  rx_port keeps = record {
    stays = record {
      sided = λ p is. (is.0, keeps.sides p.id p.rx ∙ is.1);
      places = λ p. rw ((keeps.same p.id p.rx).size) refl;
      filled = filled;
      back = λ p room. rw ((keeps.same p.id p.rx).size) room;
    };
    rings = λ p are. (are.0, keeps.rings p.id p.rx are.1);
    named = λ p. ap (λ (places : List Place). named_tx_places p.id p.tx ++ (places ++ map (place.Extra p.id) (range_with_len 0 p.extra))) (keeps.places p.id p.rx);
  }
    where
      filled : (q : Place) (p : UserPort) → is_filled_in q (port_changed Rx f p) ≡ is_filled_in q p
      filled (place.Tx port at) p = refl
      filled (place.Rx port at) p = rw (user_same (f p.id p.rx).ring p.rx.ring at (keeps.same p.id p.rx)) refl
      filled (place.Extra port at) p = refl

by_side : (h : HoldState) (side : Side) (f : PortId → RingSlots → RingSlots) (g : OwnRing → OwnRing) → Keeps h side f g → KeepsPort (port_changed side f)
by_side h Tx f g keeps = tx_port h f g keeps
by_side h Rx f g keeps = rx_port h f g keeps

pub change_keeps : {h : HoldState} {side : Side} {f : PortId → RingSlots → RingSlots} {g : OwnRing → OwnRing} → Keeps h side f g → (id : ℕ) → KeepsPort (port_changed_if id side f)
change_keeps {h = h} {side = side} {f = f} {g = g} keeps id = keeps_port_if id (port_changed side f) (by_side h side f g keeps)
