-- What entries stand for, each by its number.
use Rattle.std.specs.Prelude.{ℕ, ◌+◌, List, [], ◌∷◌, ◌++◌, Option}
use Rattle.std.specs.Option.{option_to_list}
use Rattle.vale_entry.specs.declared.entry.Entry.{Entry}

-- of entries of which the first has this number, those that stand for something
abbrev pub listed_from : {X : Type 0} → (ℕ → Entry → Option X) → ℕ → List Entry → List X
listed_from pick number [] = []
listed_from pick number (entry ∷ entries) =
    option_to_list (pick number entry) ++ listed_from pick (number + 1) entries
