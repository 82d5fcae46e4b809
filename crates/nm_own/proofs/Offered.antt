-- What a put offers, and what a receive sync gives back, over what is seen.
use Rattle.std.proofs.Common.{ℕ, ◌≡◌, List, [], ◌∷◌, ◌++◌, length, map, Some, refl, sym, ◌∙◌, ap}
use Rattle.std.proofs.lemmas.List.{length-map}
use Rattle.std.proofs.lemmas.Option.{same_Some}
use Rattle.nm_types.specs.declared.id.PortId.{PortId}
use Rattle.nm_types.specs.declared.id.Side.TheVariants.{Tx, Rx}
use Rattle.nm_types.specs.Positions.{IsRing, dist, pending_slots, pushed_slots}
use Rattle.nm_types.specs.Frames.{Frame}
use Rattle.nm_types.specs.Slots.{SlotState, pushed_frames, pushed_names}
use Rattle.nm_types.specs.OwnPorts.{bytes_at, pushed_at, pushed_on, slot_in}
use Rattle.nm_types.specs.OwnSyncs.{back_on}
use Rattle.nm_types.proofs.RingSteps.{length-slots_from}
use Rattle.nm_hold.specs.Holds.{HoldState}
use Rattle.nm_port.specs.declared.port.UserPort.{UserPort}
use Rattle.nm_port.specs.RingSlots.{RingSlots, slot_at}
use Rattle.nm_port.specs.Sides.{names_pushed}
use Rattle.nm_port.specs.Own.{frames_seen, ring_seen, own_seen, slots_at, AreSided, AreRings}
use Rattle.nm_port.specs.Offers.{unmarked_frame, offer_seen, offers_seen, frames_offered, length_seen, lengths_seen, offered_lengths}
use Rattle.nm_own.specs.FittingRings.{IsFittingRing}
use Rattle.nm_port.proofs.Checked.{bytes_are_seen, found, frames_are_seen, ring_found, side_found}
use Rattle.nm_port.proofs.Seeing.{pushed_is_seen}
use Rattle.nm_port.proofs.Pushes.{names-seen}
use Rattle.nm_own.proofs.Closing.{ring_one}

pub offers_are_seen : (h : HoldState) (ports : List UserPort) (id : PortId) (r : RingSlots) → AreSided ports → slots_at Tx ports id.0 ≡ Some r → offers_seen h r ≡ frames_offered id.0 (own_seen h ports)
offers_are_seen h ports id r sided at =
    let side = side_found ports Tx id r sided at in
    rw (ring_found h ports Tx id r at) (over side (pending_slots r.ring ++ pushed_slots r.ring r.ring.head))
  where
    over : r.side ≡ Tx → (ats : List ℕ) → map (offer_seen h r) ats ≡ map (λ (k : ℕ). unmarked_frame (bytes_at (own_seen h ports)) (slot_in Tx (ring_seen h id r) k)) ats
    over side [] = refl
    over side (k ∷ ats) =
        let slot : slot_at r k ≡ slot_in Tx (ring_seen h id r) k = rw side refl in
        let bytes = bytes_are_seen h ports (slot_at r k).buf_idx in
        let one : offer_seen h r k ≡ unmarked_frame (bytes_at (own_seen h ports)) (slot_in Tx (ring_seen h id r) k) = rw (← slot, bytes) refl in
        ap (λ (frame : Frame). frame ∷ map (offer_seen h r) ats) one ∙ ap (λ (frames : List Frame). unmarked_frame (bytes_at (own_seen h ports)) (slot_in Tx (ring_seen h id r) k) ∷ frames) (over side ats)

pub lengths_are_seen : (h : HoldState) (ports : List UserPort) (id : PortId) (r : RingSlots) → AreSided ports → slots_at Tx ports id.0 ≡ Some r → lengths_seen r ≡ offered_lengths id.0 (own_seen h ports)
lengths_are_seen h ports id r sided at =
    let side = side_found ports Tx id r sided at in
    rw (ring_found h ports Tx id r at) (over side (pending_slots r.ring ++ pushed_slots r.ring r.ring.head))
  where
    over : r.side ≡ Tx → (ats : List ℕ) → map (length_seen r) ats ≡ map (λ (k : ℕ). (slot_in Tx (ring_seen h id r) k).len) ats
    over side [] = refl
    over side (k ∷ ats) =
        let slot : slot_at r k ≡ slot_in Tx (ring_seen h id r) k = rw side refl in
        ap (λ (n : ℕ). n ∷ map (length_seen r) ats) (ap (λ (s : SlotState). s.len) slot) ∙ ap (λ (ns : List ℕ). (slot_in Tx (ring_seen h id r) k).len ∷ ns) (over side ats)

-- the positions of a receive ring that is found, and what is pushed there
pub rx_ring_found : (ports : List UserPort) (id : PortId) (r : RingSlots) → AreRings ports → slots_at Rx ports id.0 ≡ Some r → IsRing r.ring
rx_ring_found ports id r rings at =
    let f = found ports Rx id r at in
    let is : f.p.rx ≡ r = same_Some f.p.rx r f.on in
    rw (← is) (ring_one ports id.0 f.p f.there rings)

pub back_is_seen : (h : HoldState) (ports : List UserPort) (id : PortId) (r : RingSlots) → AreSided ports → IsFittingRing ports id.0 Rx r → names_pushed r ≡ back_on id.0 (own_seen h ports)
back_is_seen h ports id r sided is =
    rw (ring_found h ports Rx id r is.at) (sym (ap pushed_names (pushed_is_seen h id Rx r (side_found ports Rx id r sided is.at) is.ring is.fits) ∙ names-seen h id r))

-- the frames that are pushed in a transmit ring
pub frames_pushed : (h : HoldState) (ports : List UserPort) (id : PortId) (r : RingSlots) → AreSided ports → IsFittingRing ports id.0 Tx r
    → frames_seen h r ≡ pushed_frames (bytes_at (own_seen h ports)) (pushed_on Tx id.0 (own_seen h ports))
frames_pushed h ports id r sided is = frames_are_seen h ports id r sided is.ring is.at is.fits

-- how many slots are pushed there
pub pushed_length : (h : HoldState) (ports : List UserPort) (id : PortId) (r : RingSlots) → slots_at Tx ports id.0 ≡ Some r → dist r.ring.size r.ring.accepted_head r.ring.head ≡ length (pushed_on Tx id.0 (own_seen h ports))
pushed_length h ports id r at =
    let seen = ring_seen h id r in
    let count = length-map (pushed_slots r.ring r.ring.head) (pushed_at Tx seen) in
    rw (ring_found h ports Tx id r at) (sym (count ∙ length-slots_from r.ring.size r.ring.accepted_head (dist r.ring.size r.ring.accepted_head r.ring.head)))
