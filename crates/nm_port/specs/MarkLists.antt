-- Marks by index, of which the first ones lie in memory; behind them none is marked.
use Rattle.std.specs.Prelude.{ℕ, ◌≤◌, ◌-◌, ◌++◌, Bool, false, List, length, replicate}
use Rattle.std.specs.Vec.{vec_capacity}
use Rattle.nm_port.specs.declared.marks.Marks.TheInside.{Inside}

abbrev pub blanks : ℕ → List Bool
blanks count = replicate count false

-- so many marks, of which these are the first
abbrev pub with_blanks : ℕ → List Bool → List Bool
with_blanks count marks = marks ++ blanks (count - length marks)

pub record IsMarks (m : Inside) : Type 0 where
  pub within : length m.marks.items ≤ m.count
  pub room : m.count ≤ vec_capacity m.marks
