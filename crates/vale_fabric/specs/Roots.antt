-- What a book is to a turn: its entries, the root of each, and what never changes.
use Rattle.std.specs.Prelude.{ℕ, List, min}
use Rattle.vale_entry.specs.declared.entry.Entry.{Entry}
use Rattle.vale_book.specs.Recorded.{Recorded}
use Rattle.vale_fabric.specs.declared.kept.Fixed.{Fixed}

abbrev pub entries_of : Recorded → List Entry
entries_of b = b.entries

abbrev pub fixed_of : Recorded → Fixed
fixed_of b = record { pool = b.pool; region = b.region; limits = b.limits }

-- an entry's root is its session's Enter, which in a legal history is never later
abbrev pub root_of : Entry → ℕ → ℕ
root_of entry number = min entry.session.0 number
