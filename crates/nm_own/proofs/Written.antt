-- A buffer whose first bytes are written, over what is seen.
use Rattle.std.proofs.Common.{ℕ, zero, suc, ◌≡◌, ◌≤◌, ◌-◌, Bool, true, false, List, [], ◌∷◌, ◌++◌, length, drop, if◌then◌else◌, map, set, Option, Some, None, refl, sym, ◌∙◌, ap, arith, length-append}
use Rattle.std.specs.Prelude.{is_some, unwrap_or}
use Rattle.std.specs.Option.{option_map_or}
use Rattle.std.proofs.lemmas.List.{length-set, length-drop}
use Rattle.nm_types.specs.declared.id.Side.{Side}
use Rattle.nm_types.specs.declared.id.Side.TheVariants.{Tx}
use Rattle.nm_types.specs.Slots.{SlotState}
use Rattle.nm_types.specs.OwnPorts.{OwnRing, OwnPort, OwnState, bytes_at, with_ring, slot_in, named_of, ring_at}
use Rattle.nm_types.specs.OwnEdits.{has_room, with_written, with_frame, with_part, with_part_on, with_parts}
use Rattle.nm_types.specs.Parts.{parts_of}
use Rattle.nm_types.proofs.PutParts.{with_frame-one}
use Rattle.nm_own.specs.Acts.{IsRingAt, head_slot_in, front_slot_in}
use Rattle.nm_own.specs.Edits.{ring_framed}
use Rattle.nm_types.specs.SyncChecks.{contains_index}
use Rattle.nm_hold.specs.declared.standing.Home.{Home}
use Rattle.nm_hold.specs.declared.standing.Standing.{Standing}
use Rattle.nm_hold.specs.Standings.{cell_fronted}
use Rattle.nm_hold.specs.Holds.{HoldState, buffers_of, standing_at, cell_at, places_of, with_cell, is_named_at, IsHold, SamePlaces}
use Rattle.nm_hold.proofs.Shown.{named_stands}
use Rattle.nm_port.specs.declared.port.UserPort.{UserPort}
use Rattle.nm_port.specs.RingSlots.{RingSlots, slot_at, slot_before_tail, head_has_slot}
use Rattle.nm_port.specs.Own.{ring_seen, port_seen, own_seen, bytes_in_cell, AreSided, AreRings, AreFlagged, AreFilled, AreWhole}
use Rattle.nm_own.proofs.Filled.{is_named_seen}
use Rattle.nm_port.proofs.Checked.{bytes_are_seen}
use Rattle.nm_port.proofs.Seeing.{map-set, ports_same}
use Rattle.nm_types.specs.declared.id.PortId.{PortId}
use Rattle.nm_own.specs.Kept.{IsKept}
use Rattle.nm_own.specs.declared.own.OwnSide.TheInside.{Inside}
use Rattle.nm_own.proofs.RingTests.{room_short}

-- a written cell
fronted_bytes : (bytes : List ℕ) (cell : Option Standing) (s : Standing) → cell ≡ Some s → bytes_in_cell (cell_fronted bytes cell) ≡ bytes ++ drop (length bytes) (bytes_in_cell cell)
fronted_bytes bytes cell s e = rw e refl

pub fronted_is_seen : (h new : HoldState) (ports : List UserPort) (idx : ℕ) (bytes : List ℕ) → IsHold h → AreSided ports → AreRings ports → AreFlagged h ports → AreFilled h ports
    → is_named_at h idx ≡ true → new ≡ with_cell h idx (cell_fronted bytes (standing_at h idx)) → SamePlaces (places_of h) (places_of new)
    → own_seen new ports ≡ with_written idx bytes (own_seen h ports)
fronted_is_seen h new ports idx bytes is sided rings flagged filled named cell places =
    let found = named_stands (standing_at h idx) named in
    let in_named : contains_index (named_of (own_seen h ports)) idx ≡ true = sym (is_named_seen h ports idx is sided rings flagged filled) ∙ named in
    let seen : map (port_seen new) ports ≡ map (port_seen h) ports = ports_same h new (λ q. ap (λ (o : Option ℕ). unwrap_or o 0) (places q)) ports in
    let count : buffers_of new ≡ buffers_of h = ap buffers_of cell ∙ ap (λ (n : ℕ). n - 2) (length-set h.cells idx (cell_fronted bytes (standing_at h idx))) in
    let now : bytes_in_cell (cell_fronted bytes (standing_at h idx)) ≡ bytes ++ drop (length bytes) (bytes_at (own_seen h ports) idx) =
    fronted_bytes bytes (standing_at h idx) found.0 found.1 ∙ ap (λ (old : List ℕ). bytes ++ drop (length bytes) old) (sym (bytes_are_seen h ports idx)) in
    let all : map bytes_in_cell new.cells ≡ set (map bytes_in_cell h.cells) idx (bytes ++ drop (length bytes) (bytes_at (own_seen h ports) idx)) =
    ap (λ (x : HoldState). map bytes_in_cell x.cells) cell ∙ (map-set bytes_in_cell h.cells idx (cell_fronted bytes (standing_at h idx)) ∙ ap (set (map bytes_in_cell h.cells) idx) now) in
    rw in_named (made (buffers_of new) (buffers_of h) (map (port_seen new) ports) (map (port_seen h) ports) (map bytes_in_cell new.cells) (set (map bytes_in_cell h.cells) idx (bytes ++ drop (length bytes) (bytes_at (own_seen h ports) idx))) count seen all)
  where
    made : (a b : ℕ) (ps qs : List OwnPort) (bs cs : List (List ℕ)) → a ≡ b → ps ≡ qs → bs ≡ cs
        → (let s : OwnState = record { pool = a; ports = ps; bytes = bs } in s) ≡ (let s : OwnState = record { pool = b; ports = qs; bytes = cs } in s)
    made a b ps qs bs cs e f g = rw (e, f, g) refl

pub not_written : (h : HoldState) (ports : List UserPort) (idx : ℕ) (bytes : List ℕ) → IsHold h → AreSided ports → AreRings ports → AreFlagged h ports → AreFilled h ports
    → is_named_at h idx ≡ false → own_seen h ports ≡ with_written idx bytes (own_seen h ports)
not_written h ports idx bytes is sided rings flagged filled named =
    let in_named : contains_index (named_of (own_seen h ports)) idx ≡ false = sym (is_named_seen h ports idx is sided rings flagged filled) ∙ named in
    rw in_named refl

-- what is kept of a hold that has the same homes
pub record KeepsHomes (h new : HoldState) : Type 0 where
  pub homes : (i : ℕ) (s : Standing) → standing_at new i ≡ Some s → (t : Standing) × (standing_at h i ≡ Some t) × (s.home ≡ t.home)
  pub count : buffers_of new ≡ buffers_of h

homes_fronted : (cells : List (Option Standing)) (idx i : ℕ) (bytes : List ℕ) (s : Standing) → cell_at (set cells idx (cell_fronted bytes (cell_at cells idx))) i ≡ Some s
    → (t : Standing) × (cell_at cells i ≡ Some t) × (s.home ≡ t.home)
homes_fronted [] idx i bytes s e = absurd cc
homes_fronted (cell ∷ cells) zero zero bytes s e = by_cell cell e
  where
    by_cell : (cell : Option Standing) → cell_fronted bytes cell ≡ Some s → (t : Standing) × (cell ≡ Some t) × (s.home ≡ t.home)
    by_cell None e = absurd cc
    by_cell (Some t) e = (t, refl, home_of e)
      where
        home_of : cell_fronted bytes (Some t) ≡ Some s → s.home ≡ t.home
        home_of e = ap (λ (o : Option Standing). option_home o t.home) (sym e)
          where
            option_home : Option Standing → Home → Home
            option_home None d = d
            option_home (Some x) d = x.home
homes_fronted (cell ∷ cells) zero (suc i) bytes s e = (s, e, refl)
homes_fronted (cell ∷ cells) (suc idx) zero bytes s e = (s, e, refl)
homes_fronted (cell ∷ cells) (suc idx) (suc i) bytes s e = homes_fronted cells idx i bytes s e

pub fronted_keeps : (h new : HoldState) (idx : ℕ) (bytes : List ℕ) → new ≡ with_cell h idx (cell_fronted bytes (standing_at h idx)) → KeepsHomes h new
fronted_keeps h new idx bytes cell = record {
  homes = λ i s e. homes_fronted h.cells idx i bytes s (ap (λ (x : HoldState). standing_at x i) (sym cell) ∙ e);
  count = ap buffers_of cell ∙ ap (λ (n : ℕ). n - 2) (length-set h.cells idx (cell_fronted bytes (standing_at h idx)));
}

pub flagged_kept : (h new : HoldState) (ports : List UserPort) → KeepsHomes h new → AreFlagged h ports → AreFlagged new ports
flagged_kept h new ports keeps flagged i s e = let found = keeps.homes i s e in rw found.2 (flagged i found.0 found.1)

pub filled_kept : (h new : HoldState) (ports : List UserPort) → SamePlaces (places_of h) (places_of new) → AreFilled h ports → AreFilled new ports
filled_kept h new ports places filled q = ap is_some (places q) ∙ filled q

-- a short frame that is put at the head, if there is a slot
pub head_has : (s : OwnState) (id : ℕ) (bytes : List ℕ) (slot : SlotState) → IsRingAt Tx s id → length bytes ≤ 2048 → head_slot_in Tx (ring_at Tx s id) ≡ Some slot
    → with_frame id bytes s ≡ with_ring Tx id (ring_framed Tx (length bytes)) (with_written slot.buf_idx bytes s)
head_has s id bytes slot rings few e = with_frame-one id bytes s few ∙ by_ring (ring_at Tx s id) refl e
  where
    by_slot : (r : OwnRing) (b : Bool) → head_has_slot r.ring ≡ b → ring_at Tx s id ≡ Some r → head_slot_in Tx (Some r) ≡ Some slot
        → (if has_room s id (length bytes) then with_part id false bytes s else s) ≡ with_ring Tx id (ring_framed Tx (length bytes)) (with_written slot.buf_idx bytes s)
    by_slot r false has at e = absurd (let no = rw has at e in cc)
    by_slot r true has at e =
        let is : slot_in Tx r r.ring.head ≡ slot = (let one = rw has at e in cc) in
        let room : has_room s id (length bytes) ≡ true = room_short s id bytes rings few ∙ (ap (λ (o : Option OwnRing). option_map_or (λ (q : OwnRing). head_has_slot q.ring) o false) at ∙ has) in
        rw room (ap (with_part_on id false bytes s) at ∙ rw is refl)

    by_ring : (o : Option OwnRing) → ring_at Tx s id ≡ o → head_slot_in Tx o ≡ Some slot
        → (if has_room s id (length bytes) then with_part id false bytes s else s) ≡ with_ring Tx id (ring_framed Tx (length bytes)) (with_written slot.buf_idx bytes s)
    by_ring None at e = absurd cc
    by_ring (Some r) at e = by_slot r (head_has_slot r.ring) refl at e

pub head_lacks : (s : OwnState) (id : ℕ) (bytes : List ℕ) → IsRingAt Tx s id → length bytes ≤ 2048 → head_slot_in Tx (ring_at Tx s id) ≡ None → with_frame id bytes s ≡ s
head_lacks s id bytes rings few e = rw (room_short s id bytes rings few) (by_ring (ring_at Tx s id) e)
  where
    by_slot : (r : OwnRing) (b : Bool) → head_has_slot r.ring ≡ b → head_slot_in Tx (Some r) ≡ None → (if head_has_slot r.ring then with_parts id (parts_of bytes) s else s) ≡ s
    by_slot r false has e = rw has refl
    by_slot r true has e = absurd (let one = rw has at e in cc)

    by_ring : (o : Option OwnRing) → head_slot_in Tx o ≡ None → (if option_map_or (λ (q : OwnRing). head_has_slot q.ring) o false then with_parts id (parts_of bytes) s else s) ≡ s
    by_ring None e = refl
    by_ring (Some r) e = by_slot r (head_has_slot r.ring) refl e

pub nothing_there : {X : Type 0} (o : Option X) → ((x : X) → o ≡ Some x → ⊥) → o ≡ None
nothing_there None never = refl
nothing_there (Some x) never = absurd (never x refl)

-- a buffer whose first bytes are written has as many bytes
whole_fronted : (cells : List (Option Standing)) (idx i : ℕ) (bytes : List ℕ) (s : Standing) → length bytes ≤ 2048 → ((j : ℕ) (t : Standing) → cell_at cells j ≡ Some t → length t.buf.bytes ≡ 2048)
    → cell_at (set cells idx (cell_fronted bytes (cell_at cells idx))) i ≡ Some s → length s.buf.bytes ≡ 2048
whole_fronted [] idx i bytes s few whole e = absurd cc
whole_fronted (cell ∷ cells) zero zero bytes s few whole e = by_cell cell (λ t there. whole zero t there) e
  where
    option_bytes : Option Standing → List ℕ → List ℕ
    option_bytes None d = d
    option_bytes (Some x) d = x.buf.bytes

    by_cell : (cell : Option Standing) → ((t : Standing) → cell ≡ Some t → length t.buf.bytes ≡ 2048) → cell_fronted bytes cell ≡ Some s → length s.buf.bytes ≡ 2048
    by_cell None all e = absurd cc
    by_cell (Some t) all e =
        let is : s.buf.bytes ≡ bytes ++ drop (length bytes) t.buf.bytes = ap (λ (o : Option Standing). option_bytes o []) (sym e) in
        let size = all t refl in
        rw is (omega (arith, length-append bytes (drop (length bytes) t.buf.bytes), length-drop (length bytes) t.buf.bytes, size))
whole_fronted (cell ∷ cells) zero (suc i) bytes s few whole e = whole (suc i) s e
whole_fronted (cell ∷ cells) (suc idx) zero bytes s few whole e = whole zero s e
whole_fronted (cell ∷ cells) (suc idx) (suc i) bytes s few whole e = whole_fronted cells idx i bytes s few (λ j t there. whole (suc j) t there) e

pub whole_kept : (h new : HoldState) (idx : ℕ) (bytes : List ℕ) → length bytes ≤ 2048 → new ≡ with_cell h idx (cell_fronted bytes (standing_at h idx)) → AreWhole h → AreWhole new
whole_kept h new idx bytes few cell whole i s e = whole_fronted h.cells idx i bytes s few whole (ap (λ (x : HoldState). standing_at x i) (sym cell) ∙ e)

-- what is kept of a session's own side whose hold has first bytes written
pub fronted_inside : (o : Inside) (new : HoldState) (idx : ℕ) (bytes : List ℕ) → IsKept o → length bytes ≤ 2048 → new ≡ with_cell o.hold idx (cell_fronted bytes (standing_at o.hold idx)) → SamePlaces (places_of o.hold) (places_of new) → IsHold new
    → IsKept (record o { hold = new })
fronted_inside o new idx bytes kept few cell places is =
    let homes = fronted_keeps o.hold new idx bytes cell in
    record {
      sided = kept.sided;
      rings = kept.rings;
      flagged = flagged_kept o.hold new o.ports.items homes kept.flagged;
      hold = is;
      places = ap (λ (x : HoldState). x.ports) cell ∙ kept.places;
      filled = filled_kept o.hold new o.ports.items places kept.filled;
      whole = whole_kept o.hold new idx bytes few cell kept.whole;
      blank = rw homes.count kept.blank;
      back = kept.back;
    }

-- the slot at the head, as it is seen
pub head_slot_seen : (h : HoldState) (port : PortId) (side : Side) (r : RingSlots) → r.side ≡ side → slot_before_tail r ≡ head_slot_in side (Some (ring_seen h port r))
head_slot_seen h port side r e = rw e refl

pub front_slot_seen : (h : HoldState) (port : PortId) (side : Side) (r : RingSlots) → r.side ≡ side → Some (slot_at r r.ring.head) ≡ front_slot_in side (Some (ring_seen h port r))
front_slot_seen h port side r e = rw e refl
