-- Copies of one frame that are put into a ring of a session, over what is seen.
use Rattle.std.proofs.Common.{ℕ, zero, suc, ◌≡◌, ◌≤◌, true, false, nat_eq, List, [], ◌∷◌, length, map, set, Option, Some, None, option_map, inl, inr, refl, sym, ◌∙◌, ap, subst, arith}
use Rattle.std.specs.Prelude.{position, slice_get, slice_index_or, option_and_then}
use Rattle.std.specs.Option.{option_map_or}
use Rattle.std.proofs.lemmas.Bool.{cases_Bool}
use Rattle.nm_types.specs.declared.id.PortId.{PortId}
use Rattle.nm_types.specs.declared.id.Side.TheVariants.{Tx}
use Rattle.nm_types.specs.Slots.{SlotState}
use Rattle.nm_types.specs.OwnPorts.{OwnRing, OwnState, ring_at, with_ring}
use Rattle.nm_types.specs.OwnEdits.{has_slots, has_room, with_written, with_frame}
use Rattle.nm_types.specs.Parts.{slots_of_length}
use Rattle.nm_hold.specs.Standings.{cell_fronted}
use Rattle.nm_hold.specs.Offsets.{ArePortsOnce}
use Rattle.nm_hold.specs.Holds.{HoldState, buffers_of, bufs_of, standing_at, with_cell, is_named_at, IsHold}
use Rattle.nm_port.specs.declared.port.UserPort.{UserPort}
use Rattle.nm_port.specs.Closing.{has_id}
use Rattle.nm_port.specs.RingSlots.{RingSlots, slot_at, head_has_slot, slot_before_tail}
use Rattle.nm_port.specs.Own.{own_seen, port_at, places_of_port, slots_on, slots_at, port_changed, port_changed_if, AreSided, AreRings, AreFlagged, AreFilled, AreWhole, HasPlaces, HaveBackRoom, IsTxSide}
use Rattle.nm_port.specs.Regions.{SideState, side_seen, regions_in}
use Rattle.nm_port.proofs.Checked.{ring_found, ring_not_found, side_found}
use Rattle.nm_port.proofs.PortOut.{found_at, none_there, taken_is}
use Rattle.nm_port.proofs.Regions.{regions_fronted, same_side}
use Rattle.nm_own.specs.declared.edit.RingEdit.TheVariants.{Frame}
use Rattle.std.specs.Vec.{with_item}
use Rattle.nm_own.specs.declared.own.OwnSide.TheInside.{Inside}
use Rattle.nm_own.specs.Kept.{IsKept}
use Rattle.nm_own.specs.Edits.{edited, ring_framed, port_edited_if}
use Rattle.nm_own.specs.Acts.{head_slot_in}
use Rattle.nm_own.specs.Copies.{with_copies, FindRoom, AreCopies}
use Rattle.nm_own.specs.CopiesIn.{ring_behind, named_at_head, IsFronted, AreWritten, ArePutOn}
use Rattle.nm_own.specs.LentSlots.{index_of_port}
use Rattle.nm_own.proofs.KeptPorts.{sided_by, rings_by, flagged_by, places_by, filled_by, back_by}
use Rattle.nm_own.proofs.Changing.{change_keeps}
use Rattle.nm_own.proofs.Editing.{edits_keep, seen_edited}
use Rattle.nm_own.proofs.OnePort.{changed_if}
use Rattle.nm_own.proofs.SlotsLent.{first_changed, first_is}
use Rattle.nm_own.proofs.RingTests.{rings_seen, room_short}
use Rattle.nm_own.proofs.Written.{fronted_is_seen, not_written, fronted_keeps, flagged_kept, filled_kept, whole_kept, head_has, head_slot_seen}

-- what holds of a hold and the ports with it
record AreSound (count : ℕ) (h : HoldState) (ports : List UserPort) : Type 0 where
  sided : AreSided ports
  rings : AreRings ports
  flagged : AreFlagged h ports
  hold : IsHold h
  places : HasPlaces h ports
  filled : AreFilled h ports
  whole : AreWhole h
  back : HaveBackRoom ports
  size : buffers_of h ≡ count

-- bytes written over the first ones of a buffer that a slot names
module _ (count : ℕ) (h new : HoldState) (ports : List UserPort) (idx : ℕ) (bytes : List ℕ) (sound : AreSound count h ports) (few : length bytes ≤ 2048) (fronted : IsFronted idx bytes h new) where
  written_cell : is_named_at h idx ≡ true → new ≡ with_cell h idx (cell_fronted bytes (standing_at h idx))
  written_cell named = fronted.cell ∙ rw named refl

  same_hold : is_named_at h idx ≡ false → new ≡ h
  same_hold other = fronted.cell ∙ rw other refl

  sound_fronted : AreSound count new ports
  sound_fronted = elim (cases_Bool (is_named_at h idx)) [
    | inl named ↦ (let cell = written_cell named in let homes = fronted_keeps h new idx bytes cell in
        record {
          sided = sound.sided;
          rings = sound.rings;
          flagged = flagged_kept h new ports homes sound.flagged;
          hold = fronted.hold;
          places = ap (λ (x : HoldState). x.ports) cell ∙ sound.places;
          filled = filled_kept h new ports fronted.places sound.filled;
          whole = whole_kept h new idx bytes few cell sound.whole;
          back = sound.back;
          size = homes.count ∙ sound.size;
        })
    | inr other ↦ subst (λ (x : HoldState). AreSound count x ports) (sym (same_hold other)) sound
  ]

  seen_fronted : own_seen new ports ≡ with_written idx bytes (own_seen h ports)
  seen_fronted = elim (cases_Bool (is_named_at h idx)) [
    | inl named ↦ fronted_is_seen h new ports idx bytes sound.hold sound.sided sound.rings sound.flagged sound.filled named (written_cell named) fronted.places
    | inr other ↦ ap (λ (x : HoldState). own_seen x ports) (same_hold other) ∙ not_written h ports idx bytes sound.hold sound.sided sound.rings sound.flagged sound.filled other
  ]

  regions_same : regions_in (bufs_of new) ≡ regions_in (bufs_of h)
  regions_same = elim (cases_Bool (is_named_at h idx)) [
    | inl named ↦ regions_fronted bytes h new idx (written_cell named)
    | inr other ↦ ap (λ (x : HoldState). regions_in (bufs_of x)) (same_hold other)
  ]

-- a frame's length in the slot at the head
sound_framed : (count : ℕ) (h : HoldState) (ports : List UserPort) (id len : ℕ) → AreSound count h ports → AreSound count h (map (port_edited_if id Tx (Frame len)) ports)
sound_framed count h ports id len sound =
    let keeps = change_keeps (edits_keep h Tx (Frame len)) id in
    record {
      sided = sided_by keeps.stays ports sound.sided;
      rings = rings_by keeps ports sound.rings;
      flagged = flagged_by keeps h ports sound.flagged;
      hold = sound.hold;
      places = sound.places ∙ sym (places_by keeps.stays ports);
      filled = λ q. sound.filled q ∙ sym (filled_by keeps.stays ports q);
      whole = sound.whole;
      back = back_by keeps.stays ports sound.back;
      size = sound.size;
    }

-- one frame
frame_seen : (count : ℕ) (h new : HoldState) (ports : List UserPort) (port : PortId) (r : RingSlots) (bytes : List ℕ) → AreSound count h ports → length bytes ≤ 2048 → slots_at Tx ports port.0 ≡ Some r
    → head_has_slot r.ring ≡ true → IsFronted (named_at_head r) bytes h new → own_seen new (map (port_edited_if port.0 Tx (Frame (length bytes))) ports) ≡ with_frame port.0 bytes (own_seen h ports)
frame_seen count h new ports port r bytes sound few there has fronted =
    let id = port.0 in
    let idx = named_at_head r in
    let slot : SlotState = slot_at r r.ring.head in
    let now = sound_fronted count h new ports idx bytes sound few fronted in
    let before : slot_before_tail r ≡ Some slot = rw has refl in
    let head : head_slot_in Tx (ring_at Tx (own_seen h ports) id) ≡ Some slot =
    ap (head_slot_in Tx) (ring_found h ports Tx port r there) ∙ (sym (head_slot_seen h port Tx r (side_found ports Tx port r sound.sided there)) ∙ before) in
    seen_edited new id Tx (Frame (length bytes)) ports now.sided now.rings
    ∙ (ap (with_ring Tx id (ring_framed Tx (length bytes))) (seen_fronted count h new ports idx bytes sound few fronted)
    ∙ sym (head_has (own_seen h ports) id bytes slot (rings_seen Tx h ports port sound.rings) few head))

-- the ports, behind so many frames of a length
abbrev ports_behind : ℕ → ℕ → ℕ → List UserPort → List UserPort
ports_behind count len id ports = map (port_changed_if id Tx (λ (port : PortId). ring_behind count len)) ports

tx_same : (tx : Option RingSlots) → option_map (λ (r : RingSlots). r) tx ≡ tx
tx_same None = refl
tx_same (Some r) = refl

none_behind : (len id : ℕ) (ports : List UserPort) → ports_behind 0 len id ports ≡ ports
none_behind len id [] = refl
none_behind len id (p ∷ ports) = elim (cases_Bool (nat_eq p.id.0 id)) [
  | inl here ↦ rw (here, tx_same p.tx, none_behind len id ports) refl
  | inr other ↦ rw (other, none_behind len id ports) refl
]

tx_more : (count len : ℕ) (tx : Option RingSlots) → option_map (edited (Frame len)) (option_map (ring_behind count len) tx) ≡ option_map (ring_behind (suc count) len) tx
tx_more count len None = refl
tx_more count len (Some r) = refl

one_more : (count len id : ℕ) (ports : List UserPort) → map (port_edited_if id Tx (Frame len)) (ports_behind count len id ports) ≡ ports_behind (suc count) len id ports
one_more count len id [] = refl
one_more count len id (p ∷ ports) = elim (cases_Bool (nat_eq p.id.0 id)) [
  | inl here ↦ rw (here, here, tx_more count len p.tx, one_more count len id ports) refl
  | inr other ↦ rw (other, other, one_more count len id ports) refl
]

ring_there : (count len id : ℕ) (ports : List UserPort) (r : RingSlots) → slots_at Tx ports id ≡ Some r → slots_at Tx (ports_behind count len id ports) id ≡ Some (ring_behind count len r)
ring_there count len id [] r e = absurd cc
ring_there count len id (p ∷ ports) r e = elim (cases_Bool (nat_eq p.id.0 id)) [
  | inl here ↦ rw (here, here) (let is : p.tx ≡ Some r = rw here at e in ap (option_map (ring_behind count len)) is)
  | inr other ↦ rw (other, other) (ring_there count len id ports r (rw other at e))
]

-- so many frames
record AreBehind (size count : ℕ) (h new : HoldState) (ports : List UserPort) (id : ℕ) (bytes : List ℕ) : Type 0 where
  sound : AreSound size new (ports_behind count (length bytes) id ports)
  seen : own_seen new (ports_behind count (length bytes) id ports) ≡ with_copies count id bytes (own_seen h ports)
  regions : regions_in (bufs_of new) ≡ regions_in (bufs_of h)
  room : FindRoom count id bytes (own_seen h ports)

has_room_there : (h : HoldState) (ports : List UserPort) (port : PortId) (r : RingSlots) (bytes : List ℕ) → AreRings ports → length bytes ≤ 2048 → slots_at Tx ports port.0 ≡ Some r → has_room (own_seen h ports) port.0 (length bytes) ≡ head_has_slot r.ring
has_room_there h ports port r bytes rings few there =
    room_short (own_seen h ports) port.0 bytes (rings_seen Tx h ports port rings) few ∙ ap (λ (o : Option OwnRing). option_map_or (λ (q : OwnRing). head_has_slot q.ring) o false) (ring_found h ports Tx port r there)

module _ (size : ℕ) (h : HoldState) (ports : List UserPort) (port : PortId) (r : RingSlots) (bytes : List ℕ) (sound : AreSound size h ports) (few : length bytes ≤ 2048) (there : slots_at Tx ports port.0 ≡ Some r) where
  written_so_often : (count : ℕ) (new : HoldState) → AreWritten count bytes r h new → AreBehind size count h new ports port.0 bytes
  written_so_often zero new same =
      let are : ports_behind 0 (length bytes) port.0 ports ≡ ports = none_behind (length bytes) port.0 ports in
      record {
        sound = subst (λ (ps : List UserPort). AreSound size new ps) (sym are) (subst (λ (x : HoldState). AreSound size x ports) (sym same) sound);
        seen = ap (own_seen new) are ∙ ap (λ (x : HoldState). own_seen x ports) same;
        regions = ap (λ (x : HoldState). regions_in (bufs_of x)) same;
        room = tt;
      }
  written_so_often (suc count) new (was, before, has, fronted) =
      let b = written_so_often count was before in
      let len = length bytes in
      let id = port.0 in
      let now = ports_behind count len id ports in
      let ring : RingSlots = ring_behind count len r in
      let here : slots_at Tx now id ≡ Some ring = ring_there count len id ports r there in
      let more = one_more count len id ports in
      let next = sound_framed size new now id len (sound_fronted size was new now (named_at_head ring) bytes b.sound few fronted) in
      let seen = frame_seen size was new now port ring bytes b.sound few here has fronted in
      record {
        sound = subst (λ (ps : List UserPort). AreSound size new ps) more next;
        seen = ap (own_seen new) (sym more) ∙ (seen ∙ ap (with_frame id bytes) b.seen);
        regions = regions_same size was new now (named_at_head ring) bytes b.sound few fronted ∙ b.regions;
        room = (b.room, ap (λ (s : OwnState). has_room s id (length bytes)) (sym b.seen) ∙ (has_room_there was now port ring bytes b.sound.rings few here ∙ has));
      }

  full_behind : (count : ℕ) (new : HoldState) → AreWritten count bytes r h new → head_has_slot (ring_behind count (length bytes) r).ring ≡ false → has_room (with_copies count port.0 bytes (own_seen h ports)) port.0 (length bytes) ≡ false
  full_behind count new written none =
      let b = written_so_often count new written in
      ap (λ (s : OwnState). has_room s port.0 (length bytes)) (sym b.seen)
      ∙ (has_room_there new (ports_behind count (length bytes) port.0 ports) port (ring_behind count (length bytes) r) bytes b.sound.rings few (ring_there count (length bytes) port.0 ports r there) ∙ none)

-- where there is no ring there is no room
no_copies : (wanted : ℕ) (h : HoldState) (ports : List UserPort) (id : ℕ) (bytes : List ℕ) → slots_at Tx ports id ≡ None → AreCopies wanted 0 id bytes (own_seen h ports)
no_copies wanted h ports id bytes none = record {
  most = omega arith;
  room = tt;
  full = λ more. ap (λ (o : Option OwnRing). option_map_or (has_slots (slots_of_length (length bytes))) o false) (ring_not_found h ports Tx id none);
}

-- the port that is found at a place, and what is put into its ring
record ArePut (size wanted count : ℕ) (h new : HoldState) (ports after : List UserPort) (id : ℕ) (bytes : List ℕ) : Type 0 where
  sound : AreSound size new after
  seen : own_seen new after ≡ with_copies count id bytes (own_seen h ports)
  regions : regions_in (bufs_of new) ≡ regions_in (bufs_of h)
  copies : AreCopies wanted count id bytes (own_seen h ports)

module _ (size : ℕ) (h : HoldState) (ports : List UserPort) (port : PortId) (p : UserPort) (at : ℕ) (sound : AreSound size h ports) (place : position (has_id port.0) ports ≡ Some at) (here : p ≡ slice_index_or ports at p) where
  port_there : port_at ports port.0 ≡ Some p
  port_there = taken_is port.0 ports at p place here

  slots_there : slots_at Tx ports port.0 ≡ p.tx
  slots_there = ap (option_and_then (slots_on Tx)) port_there

  tx_side_there : IsTxSide p.tx
  tx_side_there = by_ring p.tx refl
    where
      by_ring : (o : Option RingSlots) → p.tx ≡ o → IsTxSide o
      by_ring None e = tt
      by_ring (Some r) e = side_found ports Tx port r sound.sided (slots_there ∙ e)

  changed_there : (change : UserPort → UserPort) → set ports at (change p) ≡ map (changed_if port.0 change) ports
  changed_there change =
      let id = port.0 in
      let first = index_of_port id ports in
      let found : slice_get ports first ≡ Some p = first_is id ports ∙ port_there in
      let is : at ≡ first = found_at id ports at place in
      let once : ArePortsOnce (map places_of_port ports) = subst ArePortsOnce sound.places sound.hold.once in
      ap (λ (k : ℕ). set ports k (change p)) is
      ∙ (sym (ap (λ (o : Option UserPort). option_map_or (λ (x : UserPort). set ports first (change x)) o ports) found) ∙ first_changed id change ports once)

  module _ (wanted count : ℕ) (new : HoldState) (q : UserPort) (bytes : List ℕ) (few : length bytes ≤ 2048) (put : ArePutOn wanted count bytes p.tx h new)
      (changed : q ≡ port_changed Tx (λ (id : PortId). ring_behind count (length bytes)) p) where
    after_is : ports_behind count (length bytes) port.0 ports ≡ set ports at q
    after_is = sym (ap (set ports at) changed ∙ changed_there (port_changed Tx (λ (id : PortId). ring_behind count (length bytes))))

    put_there : ArePut size wanted count h new ports (set ports at q) port.0 bytes
    put_there = subst (λ (after : List UserPort). ArePut size wanted count h new ports after port.0 bytes) after_is (by_ring p.tx refl put)
      where
        by_ring : (o : Option RingSlots) → p.tx ≡ o → ArePutOn wanted count bytes o h new → ArePut size wanted count h new ports (ports_behind count (length bytes) port.0 ports) port.0 bytes
        by_ring None e none =
            let are : (n : ℕ) → n ≡ 0 → ports_behind n (length bytes) port.0 ports ≡ ports = (λ n zero. ap (λ (k : ℕ). ports_behind k (length bytes) port.0 ports) zero ∙ none_behind (length bytes) port.0 ports) in
            let same = are count none.0 in
            record {
              sound = subst (λ (ps : List UserPort). AreSound size new ps) (sym same) (subst (λ (x : HoldState). AreSound size x ports) (sym none.1) sound);
              seen = ap (own_seen new) same ∙ (ap (λ (x : HoldState). own_seen x ports) none.1 ∙ sym (ap (λ (n : ℕ). with_copies n port.0 bytes (own_seen h ports)) none.0));
              regions = ap (λ (x : HoldState). regions_in (bufs_of x)) none.1;
              copies = subst (λ (n : ℕ). AreCopies wanted n port.0 bytes (own_seen h ports)) (sym none.0) (no_copies wanted h ports port.0 bytes (slots_there ∙ e));
            }
        by_ring (Some r) e some =
            let there : slots_at Tx ports port.0 ≡ Some r = slots_there ∙ e in
            let b = written_so_often size h ports port r bytes sound few there count new some.written in
            record {
              sound = b.sound;
              seen = b.seen;
              regions = b.regions;
              copies = record { most = some.most; room = b.room; full = λ more. full_behind size h ports port r bytes sound few there count new some.written (some.full more) };
            }

-- the same of the fields of an own side
module _ (o : Inside) (kept : IsKept o) (port : PortId) (p : UserPort) (at : ℕ) (place : position (has_id port.0) o.ports.items ≡ Some at) (here : p ≡ slice_index_or o.ports.items at p) where
  sound_inside : AreSound (buffers_of o.hold) o.hold o.ports.items
  sound_inside = record {
    sided = kept.sided;
    rings = kept.rings;
    flagged = kept.flagged;
    hold = kept.hold;
    places = kept.places;
    filled = kept.filled;
    whole = kept.whole;
    back = kept.back;
    size = refl;
  }

  pub port_sided : IsTxSide p.tx
  port_sided = tx_side_there (buffers_of o.hold) o.hold o.ports.items port p at sound_inside place here

  module _ (wanted count : ℕ) (new : HoldState) (q : UserPort) (bytes : List ℕ) (few : length bytes ≤ 2048) (put : ArePutOn wanted count bytes p.tx o.hold new)
      (changed : q ≡ port_changed Tx (λ (id : PortId). ring_behind count (length bytes)) p) where
    are_put : ArePut (buffers_of o.hold) wanted count o.hold new o.ports.items (set o.ports.items at q) port.0 bytes
    are_put = put_there (buffers_of o.hold) o.hold o.ports.items port p at sound_inside place here wanted count new q bytes few put changed

    pub kept_put : IsKept (record o { hold = new; ports = with_item o.ports at q })
    kept_put = let s = are_put.sound in record {
      sided = s.sided;
      rings = s.rings;
      flagged = s.flagged;
      hold = s.hold;
      places = s.places;
      filled = s.filled;
      whole = s.whole;
      blank = rw s.size kept.blank;
      back = s.back;
    }

    pub copies_put : (side : SideState) → side_seen o.hold o.ports.items ≡ side → AreCopies wanted count port.0 bytes side.own
    copies_put side seen = subst (λ (x : SideState). AreCopies wanted count port.0 bytes x.own) seen are_put.copies

    pub side_put : (side : SideState) → side_seen o.hold o.ports.items ≡ side → side_seen new (set o.ports.items at q) ≡ record side { own = with_copies count port.0 bytes side.own }
    side_put side seen = same_side o.hold new o.ports.items (set o.ports.items at q) side (with_copies count port.0 bytes) seen are_put.regions are_put.seen

-- and where there is no such port
pub none_put : (wanted : ℕ) (h : HoldState) (ports : List UserPort) (id : ℕ) (bytes : List ℕ) (side : SideState) → position (has_id id) ports ≡ None → side_seen h ports ≡ side → AreCopies wanted 0 id bytes side.own
none_put wanted h ports id bytes side none seen =
    subst (λ (x : SideState). AreCopies wanted 0 id bytes x.own) seen (no_copies wanted h ports id bytes (ap (option_and_then (slots_on Tx)) (by_port (port_at ports id) refl)))
  where
    by_port : (o : Option UserPort) → port_at ports id ≡ o → port_at ports id ≡ None
    by_port None e = e
    by_port (Some p) e = absurd (none_there id ports none (rw e refl))
