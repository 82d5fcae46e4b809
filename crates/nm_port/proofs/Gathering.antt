-- Frames that are gathered from slots one by one are those that end in the slots.
use Rattle.std.proofs.Common.{ℕ, Bool, true, false, ◌≡◌, ◌<◌, ◌+◌, List, [], ◌∷◌, ◌++◌, length, map, take, Option, Some, None, inl, inr, refl, sym, ◌∙◌, ap, arith}
use Rattle.std.specs.Prelude.{is_some}
use Rattle.std.proofs.lemmas.Bool.{cases_Bool}
use Rattle.std.proofs.lemmas.List.{append-nil, append_assoc, length-append}
use Rattle.nm_types.specs.Frames.{Frame, extended, extended_behind}
use Rattle.nm_types.specs.declared.id.Side.TheVariants.{Tx}
use Rattle.nm_types.specs.Slots.{SlotState, Pushed, slot_of_pushed, goes_on, with_slot_bytes, joined_frames}
use Rattle.nm_types.specs.SyncChecks.{begun_after, EachPasses}
use Rattle.nm_types.proofs.PutParts.{extended-last}
use Rattle.nm_types.proofs.JoinedFrames.{closing-last}
use Rattle.nm_port.specs.Gathered.{with_gathered, gathered, goes_on_behind}

-- the frames so far, with the one that began
abbrev shown : List Frame → Option Frame → List Frame
shown fs None = fs
shown fs (Some f) = fs ++ f ∷ []

shown-more : (bytes_of : ℕ → List ℕ) (fs : List Frame) (begun : Option Frame) (slot : SlotState)
    → with_gathered bytes_of (shown fs begun) (is_some begun) slot ≡ fs ++ with_slot_bytes bytes_of begun slot ∷ []
shown-more bytes_of fs None slot = refl
shown-more bytes_of fs (Some f) slot = extended-last (take slot.len (bytes_of slot.buf_idx)) fs f

-- where the last slot ends a frame, all frames that were gathered have ended
pub gathered-joined : (bytes_of : ℕ → List ℕ) (fs : List Frame) (begun : Option Frame) (slots : List SlotState) → goes_on_behind (is_some begun) slots ≡ false
    → gathered bytes_of (shown fs begun) (is_some begun) slots ≡ fs ++ joined_frames bytes_of begun slots
gathered-joined bytes_of fs None [] whole = sym (append-nil fs)
gathered-joined bytes_of fs (Some f) [] whole = absurd (let wrong : true ≡ false = whole in cc)
gathered-joined bytes_of fs begun (slot ∷ slots) whole = elim (cases_Bool (goes_on slot)) [
  | inl e ↦
      let now = with_slot_bytes bytes_of begun slot in
      let left : goes_on_behind true slots ≡ false = rw e at whole in
      rw e (ap (λ (frames : List Frame). gathered bytes_of frames true slots) (shown-more bytes_of fs begun slot) ∙ gathered-joined bytes_of fs (Some now) slots left)
  | inr e ↦
      let now = with_slot_bytes bytes_of begun slot in
      let left : goes_on_behind false slots ≡ false = rw e at whole in
      rw e (ap (λ (frames : List Frame). gathered bytes_of frames false slots) (shown-more bytes_of fs begun slot)
      ∙ (gathered-joined bytes_of (fs ++ now ∷ []) None slots left ∙ append_assoc fs (now ∷ []) (joined_frames bytes_of None slots)))
]

pub gathered-append : (bytes_of : ℕ → List ℕ) (fs : List Frame) (begun : Bool) (xs ys : List SlotState)
    → gathered bytes_of fs begun (xs ++ ys) ≡ gathered bytes_of (gathered bytes_of fs begun xs) (goes_on_behind begun xs) ys
gathered-append bytes_of fs begun [] ys = refl
gathered-append bytes_of fs begun (x ∷ xs) ys = gathered-append bytes_of (with_gathered bytes_of fs begun x) (goes_on x) xs ys

pub goes_on-append : (begun : Bool) (xs ys : List SlotState) → goes_on_behind begun (xs ++ ys) ≡ goes_on_behind (goes_on_behind begun xs) ys
goes_on-append begun [] ys = refl
goes_on-append begun (x ∷ xs) ys = goes_on-append (goes_on x) xs ys

-- a slot leaves no batch empty
pub extended-some : (more : List ℕ) (fs : List Frame) → 0 < length fs → 0 < length (extended more fs)
extended-some more [] some = absurd (omega (arith, some))
extended-some more (f ∷ fs) some = by fs
  where
    by : (fs : List Frame) → 0 < length (extended_behind more f fs)
    by [] = omega arith
    by (g ∷ gs) = omega arith

pub pushed-some : (fs : List Frame) (f : Frame) → 0 < length (fs ++ f ∷ [])
pushed-some fs f = let long = length-append fs (f ∷ []) in omega (arith, long)

pub ruleset gathering = (extended-some, pushed-some)

-- the last slot of a push that no check refuses ends a frame
ends-behind : (whole : Bool) (pool : ℕ) (named earlier : List ℕ) (begun : ℕ) (on : Bool) (p : Pushed) (ps : List Pushed) → EachPasses Tx whole pool named earlier begun (p ∷ ps)
    → goes_on_behind on (map slot_of_pushed (p ∷ ps)) ≡ false
ends-behind whole pool named earlier begun on p [] passes = passes.0.ends refl (closing-last whole begun)
ends-behind whole pool named earlier begun on p (q ∷ qs) passes =
    ends-behind whole pool named (earlier ++ p.slot.buf_idx ∷ []) (begun_after begun p.slot) (goes_on p.slot) q qs passes.1

pub passed-ends : (whole : Bool) (pool : ℕ) (named : List ℕ) (pushed : List Pushed) → EachPasses Tx whole pool named [] 0 pushed → goes_on_behind false (map slot_of_pushed pushed) ≡ false
passed-ends whole pool named [] passes = refl
passed-ends whole pool named (p ∷ ps) passes = ends-behind whole pool named [] 0 false p ps passes
