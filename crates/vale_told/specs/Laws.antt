-- What is told, and what a switch has counted.
use Rattle.std.specs.Prelude.{ℕ, ◌≡◌, List}
use Rattle.vale_entry.specs.declared.entry.Entry.{Entry}
use Rattle.vale_entry.specs.Legal.{IsLegal}
use Rattle.vale_entry.specs.Counted.{counts_told}
use Rattle.vale_told.specs.Told.{told_of}

-- In every legal history the counts that are told of a port are what the port has counted, also
-- once it is gone.
abbrev pub TellsCounters : Type 0
TellsCounters = (pool : ℕ) (history : List Entry) → IsLegal pool history → (port : ℕ)
    → (told_of history port).tally.counts ≡ counts_told pool history port
