-- Cells of a ring, in each a buffer with its frame, or nothing.
use Rattle.std.specs.Prelude.{◌≡◌, List, [], ◌∷◌, length, Option, Some, None}
use Rattle.nm_reach.specs.Fields.{Run}
use Rattle.nm_region.specs.Buffers.{Buffer}
use Rattle.vale_line.specs.declared.got.Got.{Got}
use Rattle.vale_line.specs.Gots.{blank}

-- the buffers in cells, in their order
abbrev pub gots_in : List (Option Got) → List Got
gots_in [] = []
gots_in (None ∷ cells) = gots_in cells
gots_in (Some got ∷ cells) = got ∷ gots_in cells

abbrev pub AreFull : List (Option Got) → Type 0
AreFull cells = length (gots_in cells) ≡ length cells

abbrev pub AreEmpty : List (Option Got) → Type 0
AreEmpty cells = gots_in cells ≡ []

abbrev pub emptied : Option Got → Option Got
emptied cell = None

abbrev pub with_buffer : Buffer → Option Got
with_buffer buffer = Some (blank buffer)

-- the same cells, whatever they hold
pub record SameCells (a b : Run (Option Got)) : Type 0 where
  pub field : b.field ≡ a.field
  pub size : b.size ≡ a.size
  pub start : b.start ≡ a.start
  pub count : length b.values ≡ length a.values
