-- The numbers at the front of a list that follow one another.
use Rattle.std.specs.Prelude.{ℕ, ◌≡◌, ◌≤◌, ◌<◌, ◌+◌, List, ◌∷◌, ◌++◌, length, take, drop}
use Rattle.std.specs.List.{flat_map, range_with_len}
use Rattle.vale_entry.specs.declared.entry.Span.{Span}
use Rattle.vale_entry.specs.Spans.{spans_in}
use Rattle.vale_entry.specs.Transcript.{newest, span_text}
use Rattle.vale_strip.specs.Pieces.{behind}
use Rattle.vale_strip.specs.Placed.{Placed}

-- so many numbers from the first one on, and then another one or none
pub record IsRun (numbers : List ℕ) (first len : ℕ) : Type 0 where
  pub some : 0 < len
  pub within : len ≤ length numbers
  pub run : take len numbers ≡ range_with_len first len
  pub stops : (next : ℕ) (rest : List ℕ) → drop len numbers ≡ next ∷ rest → next ≡ first + len → ⊥

-- the first spans of numbers are at a place of a buffer, each behind a comma, and those of the rest are not
pub record ArePlaced (old new : List ℕ) (at end : ℕ) (numbers rest : List ℕ) : Type 0 where
  pub done : List Span
  pub spans : spans_in newest numbers ≡ done ++ spans_in newest rest
  pub placed : Placed old new at (flat_map (behind 44 span_text) done) end
  pub fewer : length rest ≤ length numbers

-- these were added to a text
pub record AreAdded (old new numbers rest : List ℕ) : Type 0 where
  pub done : List Span
  pub spans : spans_in newest numbers ≡ done ++ spans_in newest rest
  pub added : new ≡ old ++ flat_map (behind 44 span_text) done
