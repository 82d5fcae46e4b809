-- What a check of a port's ring answers, over what is seen; and an own side that was made.
use Rattle.std.proofs.Common.{ℕ, zero, suc, ◌≡◌, ◌+◌, ◌-◌, Bool, List, [], ◌∷◌, length, map, get_or, replicate, nat_eq, Option, Some, None, option_map, inl, inr, refl, sym, ◌∙◌, ap, arith, subst, false}
use Rattle.std.specs.Prelude.{IsSome, option_and_then}
use Rattle.std.proofs.lemmas.Bool.{cases_Bool}
use Rattle.std.proofs.lemmas.List.{length-replicate}
use Rattle.nm_types.specs.declared.id.PortId.{PortId}
use Rattle.nm_types.specs.declared.id.Side.{Side}
use Rattle.nm_types.specs.declared.id.Side.TheVariants.{Tx}
use Rattle.nm_types.specs.declared.refusal.RingFault.{RingFault}
use Rattle.nm_types.specs.Positions.{IsRing, FitsRing, pushed_slots}
use Rattle.nm_types.specs.Slots.{SlotState, Pushed, pushed_frames, slot_of_pushed, joined_frames, with_slot_bytes, goes_on}
use Rattle.nm_types.specs.Frames.{Frame}
use Rattle.nm_types.specs.SyncChecks.{ring_refusal, refusal_of, EachPasses}
use Rattle.nm_types.specs.OwnPorts.{OwnRing, OwnPort, empty_own, bytes_at, port_with_id, ring_at, ring_on, pushed_in, pushed_on, named_of, refusal_in, refusal_at}
use Rattle.nm_types.specs.Names.{is_pipe_name}
use Rattle.nm_types.specs.OwnEdits.{user_slot}
use Rattle.nm_slot.proofs.CheckLaws.{passed_positions_fit, passed_slots_pass}
use Rattle.nm_hold.specs.declared.standing.Standing.{Standing}
use Rattle.nm_hold.specs.Holds.{HoldState, buffers_of, empty_hold}
use Rattle.nm_hold.proofs.Spots.{nat_eq-is}
use Rattle.nm_port.specs.declared.port.UserPort.{UserPort}
use Rattle.nm_port.specs.RingSlots.{RingSlots, slot_of_user, slot_at}
use Rattle.nm_port.specs.Sides.{pushed_seen, pushed_seen_at}
use Rattle.nm_port.specs.Own.{frames_seen, bytes_in_hold, bytes_in_cell, ring_seen, own_seen, port_at, slots_on, slots_at, AreSided, AreRings, IsRingIf, whole_at, port_seen}
use Rattle.nm_port.specs.Gathered.{goes_on_behind, slots_pushed}
use Rattle.nm_port.proofs.Gathering.{passed-ends}
use Rattle.nm_port.proofs.Seeing.{pushed_is_seen, side_of_found, ring_is_seen, port_is_seen, ring_on_seen}

-- a ring that is found, with the port that has it
pub record Found (ports : List UserPort) (side : Side) (port : PortId) (r : RingSlots) : Type 0 where
  pub p : UserPort
  pub there : port_at ports port.0 ≡ Some p
  pub on : slots_on side p ≡ Some r
  pub id : p.id ≡ port

pub id_of_found : (ports : List UserPort) (id : ℕ) (p : UserPort) → port_at ports id ≡ Some p → p.id.0 ≡ id
id_of_found [] id p e = absurd cc
id_of_found (q ∷ ports) id p e = elim (cases_Bool (nat_eq q.id.0 id)) [
  | inl here ↦ (let is : q ≡ p = (let found : Some q ≡ Some p = rw here at e in cc) in rw (← is) (nat_eq-is q.id.0 id here))
  | inr other ↦ id_of_found ports id p (rw other at e)
]

pub found : (ports : List UserPort) (side : Side) (port : PortId) (r : RingSlots) → slots_at side ports port.0 ≡ Some r → Found ports side port r
found ports side port r e = by_port (port_at ports port.0) refl
  where
    by_port : (o : Option UserPort) → port_at ports port.0 ≡ o → Found ports side port r
    by_port None none = absurd (let no : None ≡ Some r = rw none at e in cc)
    by_port (Some p) there = record { p = p; there = there; on = rw there at e; id = ap (λ (n : ℕ). let i : PortId = record { 0 = n } in i) (id_of_found ports port.0 p there) }

-- positions that are refused are refused whatever is pushed
refusal_same : (side : Side) (whole : Bool) (pool : ℕ) (named : List ℕ) (r : RingSlots) (xs ys : List Pushed) → (FitsRing r.ring r.ring.head r.ring.cur → xs ≡ ys) → refusal_of side whole pool named r.ring xs ≡ refusal_of side whole pool named r.ring ys
refusal_same side whole pool named r xs ys same = by_positions (ring_refusal r.ring r.ring.head r.ring.cur) refl
  where
    by_positions : (o : Option RingFault) → ring_refusal r.ring r.ring.head r.ring.cur ≡ o → refusal_of side whole pool named r.ring xs ≡ refusal_of side whole pool named r.ring ys
    by_positions (Some fault) e = rw e refl
    by_positions None e = ap (refusal_of side whole pool named r.ring) (same (passed_positions_fit side whole pool [] r.ring [] (rw e refl)))

pub refusal_is_seen : (h : HoldState) (ports : List UserPort) (side : Side) (port : PortId) (r : RingSlots) → AreSided ports → IsRing r.ring → slots_at side ports port.0 ≡ Some r
    → refusal_at side port.0 (own_seen h ports) ≡ refusal_of r.side (whole_at ports port.0) (buffers_of h) (named_of (own_seen h ports)) r.ring (pushed_seen h port r)
refusal_is_seen h ports side port r sided is e =
    let f = found ports side port r e in
    let own_side = side_of_found ports side port.0 f.p r sided f.there f.on in
    let ring : ring_on side (port_seen h f.p) ≡ Some (ring_seen h port r) = ring_on_seen h f.p side ∙ rw (f.on, f.id) refl in
    let own = own_seen h ports in
    let named = named_of own in
    let whole = is_pipe_name f.p.name in
    let mine : whole ≡ whole_at ports port.0 = rw f.there refl in
    let there : port_with_id own port.0 ≡ Some (port_seen h f.p) = port_is_seen h ports port.0 ∙ rw f.there refl in
    ap (option_and_then (λ (p : OwnPort). option_and_then (refusal_in side own p) (ring_on side p))) there
    ∙ (ap (option_and_then (refusal_in side own (port_seen h f.p))) ring
    ∙ (refusal_same side whole (buffers_of h) named r (pushed_in side (ring_seen h port r)) (pushed_seen h port r) (λ fits. pushed_is_seen h port side r own_side is fits)
    ∙ (ap (λ (s : Side). refusal_of s whole (buffers_of h) named r.ring (pushed_seen h port r)) (sym own_side)
    ∙ ap (λ (b : Bool). refusal_of r.side b (buffers_of h) named r.ring (pushed_seen h port r)) mine)))

pub is_made : (n : ℕ) → own_seen (empty_hold n) [] ≡ empty_own n
is_made n =
    let none : Option Standing = None in
    let count : length (replicate (n + 2) none) - 2 ≡ n = omega (arith, length-replicate (n + 2) none) in
    rw (count, none_in (n + 2)) refl
  where
    none_in : (k : ℕ) → map bytes_in_cell (replicate k None) ≡ replicate k []
    none_in zero = refl
    none_in (suc k) = ap (λ (xs : List (List ℕ)). [] ∷ xs) (none_in k)

-- where no ring is found there is none
pub no_ring : (h : HoldState) (ports : List UserPort) (side : Side) (id : ℕ) → slots_at side ports id ≡ None → IsSome (ring_at side (own_seen h ports) id) → ⊥
no_ring h ports side id e some = none_some (ring_is_seen h ports side id ∙ by_port (port_at ports id) e)
  where
    by_port : (o : Option UserPort) → option_and_then (slots_on side) o ≡ None → option_and_then (λ (p : UserPort). option_map (ring_seen h p.id) (slots_on side p)) o ≡ None
    by_port None e = refl
    by_port (Some p) e = rw e refl

    none_some : ring_at side (own_seen h ports) id ≡ None → ⊥
    none_some none = let ring : Option OwnRing = None in let no : IsSome ring = rw none at some in cc

-- the ring of a port as it is seen, and that there is none
pub ring_found : (h : HoldState) (ports : List UserPort) (side : Side) (port : PortId) (r : RingSlots) → slots_at side ports port.0 ≡ Some r → ring_at side (own_seen h ports) port.0 ≡ Some (ring_seen h port r)
ring_found h ports side port r e = let f = found ports side port r e in ring_is_seen h ports side port.0 ∙ rw (f.there, f.on, f.id) refl

pub ring_not_found : (h : HoldState) (ports : List UserPort) (side : Side) (id : ℕ) → slots_at side ports id ≡ None → ring_at side (own_seen h ports) id ≡ None
ring_not_found h ports side id e = ring_is_seen h ports side id ∙ by_port (port_at ports id) e
  where
    by_port : (o : Option UserPort) → option_and_then (slots_on side) o ≡ None → option_and_then (λ (p : UserPort). option_map (ring_seen h p.id) (slots_on side p)) o ≡ None
    by_port None e = refl
    by_port (Some p) e = rw e refl

pub side_found : (ports : List UserPort) (side : Side) (port : PortId) (r : RingSlots) → AreSided ports → slots_at side ports port.0 ≡ Some r → r.side ≡ side
side_found ports side port r sided e = let f = found ports side port r e in side_of_found ports side port.0 f.p r sided f.there f.on

-- a slot of the user as it is seen
pub slot_is_seen : (h : HoldState) (port : PortId) (side : Side) (r : RingSlots) (at : ℕ) → r.side ≡ side → slot_of_user r at ≡ user_slot side (ring_seen h port r) at
slot_is_seen h port side r at e = rw e refl

-- the bytes of a buffer, and the frames of a push that passes, as they are seen
pub bytes_are_seen : (h : HoldState) (ports : List UserPort) (idx : ℕ) → bytes_at (own_seen h ports) idx ≡ bytes_in_hold h idx
bytes_are_seen h ports idx = get_mapped h.cells idx
  where
    get_mapped : (cells : List (Option Standing)) (idx : ℕ) → get_or (map bytes_in_cell cells) idx [] ≡ bytes_in_cell (get_or cells idx None)
    get_mapped [] idx = refl
    get_mapped (cell ∷ cells) zero = refl
    get_mapped (cell ∷ cells) (suc idx) = get_mapped cells idx

-- the slots that are pushed
pub slots_are_seen : (h : HoldState) (port : PortId) (r : RingSlots) → slots_pushed r ≡ map slot_of_pushed (pushed_seen h port r)
slots_are_seen h port r = over (pushed_slots r.ring r.ring.head)
  where
    over : (ats : List ℕ) → map (slot_at r) ats ≡ map slot_of_pushed (map (pushed_seen_at h port r) ats)
    over [] = refl
    over (at ∷ ats) = ap (λ (slots : List SlotState). slot_at r at ∷ slots) (over ats)

-- frames of buffers that hold the same
joined_same : (f g : ℕ → List ℕ) → ((idx : ℕ) → f idx ≡ g idx) → (begun : Option Frame) (slots : List SlotState) → joined_frames f begun slots ≡ joined_frames g begun slots
joined_same f g same begun [] = refl
joined_same f g same begun (slot ∷ slots) =
    let now : with_slot_bytes f begun slot ≡ with_slot_bytes g begun slot = with_same begun in
    elim (cases_Bool (goes_on slot)) [
      | inl e ↦ rw e (ap (λ (b : Option Frame). joined_frames f b slots) (ap (λ (x : Frame). Some x) now) ∙ joined_same f g same (Some (with_slot_bytes g begun slot)) slots)
      | inr e ↦ rw e (ap (λ (x : Frame). x ∷ joined_frames f None slots) now ∙ ap (λ (xs : List Frame). with_slot_bytes g begun slot ∷ xs) (joined_same f g same None slots))
    ]
  where
    with_same : (begun : Option Frame) → with_slot_bytes f begun slot ≡ with_slot_bytes g begun slot
    with_same None = rw (same slot.buf_idx) refl
    with_same (Some b) = rw (same slot.buf_idx) refl

pub frames_are_seen : (h : HoldState) (ports : List UserPort) (port : PortId) (r : RingSlots) → AreSided ports → IsRing r.ring → slots_at Tx ports port.0 ≡ Some r → FitsRing r.ring r.ring.head r.ring.cur
    → frames_seen h r ≡ pushed_frames (bytes_at (own_seen h ports)) (pushed_on Tx port.0 (own_seen h ports))
frames_are_seen h ports port r sided is e fits =
    let own_side = side_found ports Tx port r sided e in
    let ring = ring_found h ports Tx port r e in
    let pushed : pushed_on Tx port.0 (own_seen h ports) ≡ pushed_seen h port r = rw ring (pushed_is_seen h port Tx r own_side is fits) in
    rw pushed (joined_same (bytes_in_hold h) (bytes_at (own_seen h ports)) (λ idx. sym (bytes_are_seen h ports idx)) None (slots_pushed r)
    ∙ ap (joined_frames (bytes_at (own_seen h ports)) None) (slots_are_seen h port r))

-- a push that is not refused has positions that fit
pub passed_fits : (h : HoldState) (ports : List UserPort) (side : Side) (port : PortId) (r : RingSlots) → AreSided ports → IsRing r.ring → slots_at side ports port.0 ≡ Some r
    → refusal_at side port.0 (own_seen h ports) ≡ None → FitsRing r.ring r.ring.head r.ring.cur
passed_fits h ports side port r sided is e passes =
    passed_positions_fit r.side (whole_at ports port.0) (buffers_of h) (named_of (own_seen h ports)) r.ring (pushed_seen h port r) (sym (refusal_is_seen h ports side port r sided is e) ∙ passes)

-- the positions of a transmit ring that is found
pub tx_ring_found : (ports : List UserPort) (port : PortId) (r : RingSlots) → AreRings ports → slots_at Tx ports port.0 ≡ Some r → IsRing r.ring
tx_ring_found ports port r rings e = let f = found ports Tx port r e in over ports rings f.there f.on
  where
    over : (ports : List UserPort) → AreRings ports → {p : UserPort} → port_at ports port.0 ≡ Some p → p.tx ≡ Some r → IsRing r.ring
    over [] rings there on = absurd cc
    over (q ∷ qs) rings {p = p} there on = elim (cases_Bool (nat_eq q.id.0 port.0)) [
      | inl here ↦ (let is : q ≡ p = (let e : Some q ≡ Some p = rw here at there in cc) in tx_ring q.tx (rw (← is) at on) rings.0.0)
      | inr other ↦ over qs rings.1 {p = p} (rw other at there) on
    ]
      where
        tx_ring : (o : Option RingSlots) → o ≡ Some r → IsRingIf o → IsRing r.ring
        tx_ring None e is = absurd cc
        tx_ring (Some t) e is = let same : t ≡ r = cc in rw (← same) is

-- the frames of a push that is not refused all end in it
pub passed_whole : (h : HoldState) (ports : List UserPort) (port : PortId) (r : RingSlots) → AreSided ports → IsRing r.ring → slots_at Tx ports port.0 ≡ Some r
    → refusal_at Tx port.0 (own_seen h ports) ≡ None → goes_on_behind false (slots_pushed r) ≡ false
passed_whole h ports port r sided is e passes =
    let whole = whole_at ports port.0 in
    let named = named_of (own_seen h ports) in
    let each = passed_slots_pass r.side whole (buffers_of h) named r.ring (pushed_seen h port r) (sym (refusal_is_seen h ports Tx port r sided is e) ∙ passes) in
    let on_tx = subst (λ (s : Side). EachPasses s whole (buffers_of h) named [] 0 (pushed_seen h port r)) (side_found ports Tx port r sided e) each in
    ap (goes_on_behind false) (slots_are_seen h port r) ∙ passed-ends whole (buffers_of h) named (pushed_seen h port r) on_tx
