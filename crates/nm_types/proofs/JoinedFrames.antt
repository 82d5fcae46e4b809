-- The frames in pushed slots: where no slot goes on, one in each; where the checks passed, none longer
-- than frames are, and together in no more slots than are pushed.
use Rattle.std.proofs.Common.{ℕ, Bool, true, false, ◌||◌, ◌==◌, ◌≡◌, ◌+◌, ◌*◌, ◌≤◌, ◌<◌, List, [], ◌∷◌, ◌++◌, Option, Some, None, length, map, take, flat_map, eq-eqb, refl, ◌∙◌, ap, arith, inl, inr}
use Rattle.std.specs.List.{list_all, AllByRecursion}
use Rattle.std.specs.Option.{option_map_or}
use Rattle.std.proofs.lemmas.Bool.{cases_Bool, le-leb, eqb-true, eqb-false}
use Rattle.std.proofs.lemmas.List.{append_assoc, length-append, length-take, length-map}
use Rattle.nm_types.specs.declared.id.Side.TheVariants.{Tx}
use Rattle.nm_types.specs.Limits.{buffer_bytes, most_frame_bytes, most_frame_slots}
use Rattle.nm_types.specs.Frames.{Frame, size_of_frames}
use Rattle.nm_types.specs.Sendable.{is_frame, AreSent}
use Rattle.nm_types.specs.Slots.{SlotState, Pushed, slot_of_pushed, goes_on, bytes_in_slot, frame_at, with_slot_bytes, joined_frames, pushed_frames}
use Rattle.nm_types.specs.SyncChecks.{is_closing, begun_after, EachPasses}
use Rattle.nm_types.proofs.PartLemmas.{slots-within}
use Rattle.nm_types.proofs.Sizes.{size-cons}

-- slots each of which ends a frame
abbrev pub AllEnd : List SlotState → Type 0
AllEnd slots = AllByRecursion (λ (slot : SlotState). goes_on slot ≡ false) slots

pub joined-whole : (bytes_of : ℕ → List ℕ) (slots : List SlotState) → AllEnd slots → joined_frames bytes_of None slots ≡ map (frame_at bytes_of) slots
joined-whole bytes_of [] whole = refl
joined-whole bytes_of (slot ∷ slots) whole = let rest = joined-whole bytes_of slots whole.1 in rw (whole.0, rest) refl

-- a frame more, behind slots whose frames all ended
pub joined-ended : (bytes_of : ℕ → List ℕ) (begun : Option Frame) (slot : SlotState) (slots : List SlotState) → goes_on slot ≡ false
    → joined_frames bytes_of begun (slot ∷ slots) ≡ with_slot_bytes bytes_of begun slot ∷ joined_frames bytes_of None slots
joined-ended bytes_of begun slot slots e = rw e refl

pub joined-goes_on : (bytes_of : ℕ → List ℕ) (begun : Option Frame) (slot : SlotState) (slots : List SlotState) → goes_on slot ≡ true
    → joined_frames bytes_of begun (slot ∷ slots) ≡ joined_frames bytes_of (Some (with_slot_bytes bytes_of begun slot)) slots
joined-goes_on bytes_of begun slot slots e = rw e refl

-- slots whose lengths are within a buffer
abbrev pub AreShort : List SlotState → Type 0
AreShort slots = AllByRecursion (λ (slot : SlotState). slot.len ≤ buffer_bytes) slots

-- how long a frame is that began
abbrev pub begun_length : Option Frame → ℕ
begun_length begun = option_map_or (λ (f : Frame). length f.bytes) begun 0

with_slot-short : (bytes_of : ℕ → List ℕ) (begun : Option Frame) (slot : SlotState) (count : ℕ) → begun_length begun ≤ buffer_bytes * count → slot.len ≤ buffer_bytes
    → length (with_slot_bytes bytes_of begun slot).bytes ≤ buffer_bytes * (count + 1)
with_slot-short bytes_of None slot count h short = let size = length-take slot.len (bytes_of slot.buf_idx) in omega (arith, size, short)
with_slot-short bytes_of (Some begun) slot count h short =
    let size = length-take slot.len (bytes_of slot.buf_idx) in
    let both = length-append begun.bytes (take slot.len (bytes_of slot.buf_idx)) in
    omega (arith, size, short, h, both)

-- frames take no more slots than they came in
pub joined-size : (bytes_of : ℕ → List ℕ) (begun : Option Frame) (count : ℕ) (slots : List SlotState) → begun_length begun ≤ buffer_bytes * count → AreShort slots
    → size_of_frames (joined_frames bytes_of begun slots) ≤ count + length slots
joined-size bytes_of begun count [] h short = omega arith
joined-size bytes_of begun count (slot ∷ slots) h short =
    let one = with_slot-short bytes_of begun slot count h short.0 in
    elim (cases_Bool (goes_on slot)) [
      | inl e ↦
          let rest = joined-size bytes_of (Some (with_slot_bytes bytes_of begun slot)) (count + 1) slots one short.1 in
          rw e (omega (arith, rest))
      | inr e ↦
          let rest = joined-size bytes_of None 0 slots (omega arith) short.1 in
          let first = slots-within (length (with_slot_bytes bytes_of begun slot).bytes) (count + 1) (omega arith) one in
          let cut = size-cons (with_slot_bytes bytes_of begun slot) (joined_frames bytes_of None slots) in
          rw e (omega (arith, rest, first, cut))
    ]

-- what the checks let through
pub passed-short : (whole : Bool) (pool : ℕ) (named earlier : List ℕ) (begun : ℕ) (pushed : List Pushed) → EachPasses Tx whole pool named earlier begun pushed → AreShort (map slot_of_pushed pushed)
passed-short whole pool named earlier begun [] passes = tt
passed-short whole pool named earlier begun (p ∷ ps) passes =
    (passes.0.fits_buffer refl, passed-short whole pool named (earlier ++ p.slot.buf_idx ∷ []) (begun_after begun p.slot) ps passes.1)

-- where each slot is a frame, none goes on
pub passed-whole : (pool : ℕ) (named earlier : List ℕ) (begun : ℕ) (pushed : List Pushed) → EachPasses Tx true pool named earlier begun pushed → AllEnd (map slot_of_pushed pushed)
passed-whole pool named earlier begun [] passes = tt
passed-whole pool named earlier begun (p ∷ ps) passes =
    (passes.0.ends refl refl, passed-whole pool named (earlier ++ p.slot.buf_idx ∷ []) (begun_after begun p.slot) ps passes.1)

-- a slot that may go on is neither the last one nor the last that a frame may have
abbrev IsInside : ℕ → List Pushed → Type 0
IsInside begun others = (begun + 1 ≡ most_frame_slots → ⊥) × (length others ≡ 0 → ⊥)

open_inside : (whole : Bool) (begun : ℕ) (others : List Pushed) (on : Bool) → (is_closing whole begun (length others) ≡ true → on ≡ false) → on ≡ true → IsInside begun others
open_inside whole begun others on closed e = (
  (λ h. (let closing : is_closing whole begun (length others) ≡ true = by_last whole (length others == 0) (begun + 1 == most_frame_slots) (eq-eqb (begun + 1) most_frame_slots h) in let off = closed closing in cc)),
  (λ h. (let closing : is_closing whole begun (length others) ≡ true = by_end whole (length others == 0) (begun + 1 == most_frame_slots) (eq-eqb (length others) 0 h) in let off = closed closing in cc)),
)
  where
    by_last : (a b c : Bool) → c ≡ true → (a || (b || c)) ≡ true
    by_last true b c h = refl
    by_last false true c h = refl
    by_last false false c h = h

    by_end : (a b c : Bool) → b ≡ true → (a || (b || c)) ≡ true
    by_end true b c h = refl
    by_end false true c h = refl
    by_end false false c h = cc

-- no frame of an accepted push is longer than frames are
pub joined-frames : (bytes_of : ℕ → List ℕ) (whole : Bool) (pool : ℕ) (named earlier : List ℕ) (frame : Option Frame) (begun : ℕ) (pushed : List Pushed)
    → begun < most_frame_slots → begun_length frame ≤ buffer_bytes * begun → EachPasses Tx whole pool named earlier begun pushed
    → list_all is_frame (joined_frames bytes_of frame (map slot_of_pushed pushed)) ≡ true
joined-frames bytes_of whole pool named earlier frame begun [] few h passes = refl
joined-frames bytes_of whole pool named earlier frame begun (p ∷ ps) few h passes =
    let one = with_slot-short bytes_of frame p.slot begun h (passes.0.fits_buffer refl) in
    elim (cases_Bool (goes_on p.slot)) [
      | inl e ↦
          let inside = open_inside whole begun ps (goes_on p.slot) (passes.0.ends refl) e in
          let next : begun_after begun p.slot ≡ begun + 1 = rw e refl in
          let rest = joined-frames bytes_of whole pool named (earlier ++ p.slot.buf_idx ∷ []) (Some (with_slot_bytes bytes_of frame p.slot)) (begun + 1) ps (below begun few inside.0) one (rw next at passes.1) in
          rw e rest
      | inr e ↦
          let next : begun_after begun p.slot ≡ 0 = rw e refl in
          let rest = joined-frames bytes_of whole pool named (earlier ++ p.slot.buf_idx ∷ []) None 0 ps (omega arith) (omega arith) (rw next at passes.1) in
          let first : is_frame (with_slot_bytes bytes_of frame p.slot) ≡ true = le-leb (length (with_slot_bytes bytes_of frame p.slot).bytes) most_frame_bytes (omega (arith, one, few)) in
          rw (e, first, rest) refl
    ]
  where
    below : (n : ℕ) → n < most_frame_slots → (n + 1 ≡ most_frame_slots → ⊥) → n + 1 < most_frame_slots
    below n h k = elim (cases_Bool (n + 1 == most_frame_slots)) [
      | inl e ↦ absurd (k (eqb-true (n + 1) most_frame_slots e))
      | inr e ↦ (let other = eqb-false (n + 1) most_frame_slots e in omega (arith, h, other))
    ]

-- the last slot pushed must end a frame
pub closing-last : (whole : Bool) (begun : ℕ) → is_closing whole begun 0 ≡ true
closing-last true begun = refl
closing-last false begun = refl

-- so the frames have all bytes of the slots
abbrev begun_bytes : Option Frame → List ℕ
begun_bytes begun = option_map_or (λ (f : Frame). f.bytes) begun []

with_slot-bytes : (bytes_of : ℕ → List ℕ) (begun : Option Frame) (slot : SlotState) → (with_slot_bytes bytes_of begun slot).bytes ≡ begun_bytes begun ++ bytes_in_slot bytes_of slot
with_slot-bytes bytes_of None slot = refl
with_slot-bytes bytes_of (Some f) slot = refl

bytes-behind : (bytes_of : ℕ → List ℕ) (begun : Option Frame) (slot : SlotState) (rest : List ℕ)
    → (with_slot_bytes bytes_of begun slot).bytes ++ rest ≡ begun_bytes begun ++ (bytes_in_slot bytes_of slot ++ rest)
bytes-behind bytes_of begun slot rest =
    ap (λ (b : List ℕ). b ++ rest) (with_slot-bytes bytes_of begun slot) ∙ append_assoc (begun_bytes begun) (bytes_in_slot bytes_of slot) rest

joined-bytes : (bytes_of : ℕ → List ℕ) (whole : Bool) (pool : ℕ) (named earlier : List ℕ) (frame : Option Frame) (begun : ℕ) (p : Pushed) (ps : List Pushed) → EachPasses Tx whole pool named earlier begun (p ∷ ps)
    → flat_map (λ (f : Frame). f.bytes) (joined_frames bytes_of frame (map slot_of_pushed (p ∷ ps))) ≡ begun_bytes frame ++ flat_map (bytes_in_slot bytes_of) (map slot_of_pushed (p ∷ ps))
joined-bytes bytes_of whole pool named earlier frame begun p [] passes =
    let ends : goes_on p.slot ≡ false = passes.0.ends refl (closing-last whole begun) in
    rw ends (bytes-behind bytes_of frame p.slot [])
joined-bytes bytes_of whole pool named earlier frame begun p (q ∷ qs) passes =
    let behind = bytes-behind bytes_of frame p.slot (flat_map (bytes_in_slot bytes_of) (map slot_of_pushed (q ∷ qs))) in
    elim (cases_Bool (goes_on p.slot)) [
      | inl e ↦
          let rest = joined-bytes bytes_of whole pool named (earlier ++ p.slot.buf_idx ∷ []) (Some (with_slot_bytes bytes_of frame p.slot)) (begun_after begun p.slot) q qs passes.1 in
          ap (flat_map (λ (f : Frame). f.bytes)) (joined-goes_on bytes_of frame p.slot (map slot_of_pushed (q ∷ qs)) e) ∙ (rest ∙ behind)
      | inr e ↦
          let rest = joined-bytes bytes_of whole pool named (earlier ++ p.slot.buf_idx ∷ []) None (begun_after begun p.slot) q qs passes.1 in
          ap (flat_map (λ (f : Frame). f.bytes)) (joined-ended bytes_of frame p.slot (map slot_of_pushed (q ∷ qs)) e)
          ∙ (ap (λ (b : List ℕ). (with_slot_bytes bytes_of frame p.slot).bytes ++ b) rest ∙ behind)
    ]

pub passed-bytes : (bytes_of : ℕ → List ℕ) (whole : Bool) (pool : ℕ) (named : List ℕ) (pushed : List Pushed) → EachPasses Tx whole pool named [] 0 pushed
    → flat_map (λ (f : Frame). f.bytes) (pushed_frames bytes_of pushed) ≡ flat_map (bytes_in_slot bytes_of) (map slot_of_pushed pushed)
passed-bytes bytes_of whole pool named [] passes = refl
passed-bytes bytes_of whole pool named (p ∷ ps) passes = joined-bytes bytes_of whole pool named [] None 0 p ps passes

-- where something is pushed a frame is
pub joined-some : (bytes_of : ℕ → List ℕ) (whole : Bool) (pool : ℕ) (named earlier : List ℕ) (frame : Option Frame) (begun : ℕ) (pushed : List Pushed)
    → 0 < length pushed → EachPasses Tx whole pool named earlier begun pushed → 0 < length (joined_frames bytes_of frame (map slot_of_pushed pushed))
joined-some bytes_of whole pool named earlier frame begun [] some passes = absurd (omega (arith, some))
joined-some bytes_of whole pool named earlier frame begun (p ∷ ps) some passes = elim (cases_Bool (goes_on p.slot)) [
  | inl e ↦
      let inside = open_inside whole begun ps (goes_on p.slot) (passes.0.ends refl) e in
      let more : 0 < length ps = positive (length ps) inside.1 in
      let rest = joined-some bytes_of whole pool named (earlier ++ p.slot.buf_idx ∷ []) (Some (with_slot_bytes bytes_of frame p.slot)) (begun_after begun p.slot) ps more passes.1 in
      rw e rest
  | inr e ↦ rw e (omega arith)
]
  where
    positive : (n : ℕ) → (n ≡ 0 → ⊥) → 0 < n
    positive n h = elim (cases_Bool (n == 0)) [
      | inl e ↦ absurd (h (eqb-true n 0 e))
      | inr e ↦ (let other = eqb-false n 0 e in omega (arith, other))
    ]

pub passed-sent : (bytes_of : ℕ → List ℕ) (whole : Bool) (pool : ℕ) (named : List ℕ) (pushed : List Pushed) → EachPasses Tx whole pool named [] 0 pushed
    → AreSent (pushed_frames bytes_of pushed) (length pushed)
passed-sent bytes_of whole pool named pushed passes =
    let size = joined-size bytes_of None 0 (map slot_of_pushed pushed) (omega arith) (passed-short whole pool named [] 0 pushed passes) in
    record {
      fit = joined-frames bytes_of whole pool named [] None 0 pushed (omega arith) (omega arith) passes;
      within = omega (arith, size, length-map pushed slot_of_pushed);
      some = (λ some. joined-some bytes_of whole pool named [] None 0 pushed some passes);
    }

-- where each slot is a frame, a push has a frame in each slot
pub passed-each : (bytes_of : ℕ → List ℕ) (pool : ℕ) (named : List ℕ) (pushed : List Pushed) → EachPasses Tx true pool named [] 0 pushed
    → pushed_frames bytes_of pushed ≡ map (frame_at bytes_of) (map slot_of_pushed pushed)
passed-each bytes_of pool named pushed passes = joined-whole bytes_of (map slot_of_pushed pushed) (passed-whole pool named [] 0 pushed passes)
