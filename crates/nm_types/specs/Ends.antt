-- How a batch keeps its frames: side by side in one run of bytes, each from the end of the one before it.
use Rattle.std.specs.Prelude.{ℕ, zero, suc, Bool, false, ◌≡◌, ◌≤◌, List, [], ◌∷◌, drop, length, slice_index_or, slice_range}
use Rattle.nm_types.specs.Frames.{Frame}

-- the frames that end there, the first one from a place on; those behind the last mark have none
abbrev pub frames_from : List ℕ → List ℕ → List Bool → ℕ → List Frame
frames_from bytes [] marks start = []
frames_from bytes (end ∷ ends) marks start = (record { bytes = slice_range bytes start end; no_learn = slice_index_or marks 0 false }) ∷ frames_from bytes ends (drop 1 marks) end

-- where a frame begins, the first one at a place
abbrev pub start_at : ℕ → List ℕ → ℕ → ℕ
start_at start ends zero = start
start_at start [] (suc i) = start
start_at start (end ∷ ends) (suc i) = start_at end ends i

-- no frame ends before it begins, and the last one ends at the end of the run
abbrev pub AreEnds : ℕ → ℕ → List ℕ → Type 0
AreEnds start size [] = start ≡ size
AreEnds start size (end ∷ ends) = (start ≤ end) × AreEnds end size ends

pub record IsRun (bytes : List ℕ) (ends : List ℕ) (marks : List Bool) : Type 0 where
  pub cut : AreEnds 0 (length bytes) ends
  pub few : length marks ≤ length ends
