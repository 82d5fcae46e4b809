-- What the code keeps while it builds a load.
use Rattle.std.specs.Prelude.{ℕ, ◌+◌, List, ◌++◌, length}
use Rattle.vale_script.specs.declared.script.Line.{Line}
use Rattle.vale_gen.specs.Load.{Deed, numbered}

-- lines, and the number of the next one
pub record Sheet : Type 0 where
  pub next : ℕ
  pub lines : List Line

-- the sheet with the lines of these deeds behind its own
abbrev pub with_deeds : Sheet → List Deed → Sheet
with_deeds sheet deeds = record { next = sheet.next + length deeds; lines = sheet.lines ++ numbered sheet.next deeds }

-- a user's work, up to a frame
pub record Progress : Type 0 where
  pub n : ℕ
  pub user : ℕ
  pub frame : ℕ
