-- Frames that fit a buffer are put into one slot, and a last frame goes on.
use Rattle.std.proofs.Common.{ℕ, false, ◌≡◌, ◌≤◌, List, [], ◌∷◌, ◌++◌, length, if◌then◌else◌, refl, ap}
use Rattle.nm_types.specs.Frames.{Frame, extended, extended_behind}
use Rattle.nm_types.specs.OwnPorts.{OwnState}
use Rattle.nm_types.specs.OwnEdits.{with_part, with_frame, has_room}
use Rattle.nm_types.proofs.PartLemmas.{parts-one}

pub with_frame-one : (id : ℕ) (bytes : List ℕ) (s : OwnState) → length bytes ≤ 2048 → with_frame id bytes s ≡ (if has_room s id (length bytes) then with_part id false bytes s else s)
with_frame-one id bytes s h = rw (parts-one bytes h) refl

pub extended-last : (more : List ℕ) (fs : List Frame) (f : Frame) → extended more (fs ++ f ∷ []) ≡ fs ++ record f { bytes = f.bytes ++ more } ∷ []
extended-last more [] f = refl
extended-last more (g ∷ fs) f = behind g fs
  where
    behind : (g : Frame) (fs : List Frame) → extended_behind more g (fs ++ f ∷ []) ≡ g ∷ (fs ++ record f { bytes = f.bytes ++ more } ∷ [])
    behind g [] = refl
    behind g (next ∷ fs) = ap (λ (xs : List Frame). g ∷ xs) (behind next fs)
