-- The word at a place of a line, and what the fixed words stand for, of which a place has a few.
use Rattle.std.specs.Prelude.{ℕ, if◌then◌else◌, List, [], ◌∷◌, codes, bytes_eq, slice_index_or}
use Rattle.nm_types.specs.declared.id.Side.{Side}
use Rattle.nm_types.specs.declared.id.Side.TheVariants as rings
use Rattle.nm_types.specs.declared.id.Sides.{Sides}
use Rattle.nm_types.specs.declared.id.Sides.TheVariants as watched

-- the word at a place, counted from 0; past the line's end it is empty
abbrev pub word_at : ℕ → List (List ℕ) → List ℕ
word_at i words = slice_index_or words i []

-- the value beside a word in a table, or the last value for a word that is not in it
abbrev pub value_of : {T : Type 0} → List (List ℕ × T) → List ℕ → T → T
value_of [] word last = last
value_of (row ∷ rows) word last = if bytes_eq word row.0 then row.1 else value_of rows word last

abbrev pub side_of : List ℕ → Side
side_of word = if bytes_eq word (codes "tx") then rings.Tx else rings.Rx

abbrev pub sides_of : List ℕ → Sides
sides_of word = value_of ((codes "t", watched.T) ∷ (codes "r", watched.R) ∷ []) word watched.TR
