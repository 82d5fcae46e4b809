-- How many turns a user has: each task makes one call at most, and each offer that the user's entries
-- made is granted once, and a lease of it done once.
use Rattle.std.specs.Prelude.{ℕ, ◌+◌, ◌*◌, ◌-◌, ◌≤◌, List, length, sum_by, slice_get}
use Rattle.std.specs.Option.{option_map_or}
use Rattle.vale_entry.specs.declared.entry.Entry.{Entry}
use Rattle.vale_entry.specs.declared.entry.Reply.{Reply}
use Rattle.vale_entry.specs.declared.entry.Reply.TheVariants.{Offered, Gave, Took}
use Rattle.vale_script.specs.Script.{Program}
use Rattle.vale_replay.specs.Machine.{Machine}
use Rattle.vale_replay.specs.Replay.{Cast, UnitShare, EachShare, Reaches}
use Rattle.vale_replay.specs.Tasks.{Captures}

-- the offers that an entry made, one for each port that its reply names
abbrev pub offers_made : Reply → ℕ
offers_made (Offered short lone to) = length to
offers_made (Gave count to) = length to
offers_made (Took items to) = length to
offers_made _ = 0

abbrev pub offers_by : Entry → ℕ
offers_by entry = offers_made entry.reply

-- those of the entry of this number
abbrev pub offers_at : List Entry → ℕ → ℕ
offers_at history number = option_map_or offers_by (slice_get history (number - 1)) 0

-- The turns of a share's user, with the tasks that are left, are as many at most as the share's
-- tasks, and two for each offer that the user's entries made.
abbrev pub HasFewTurns : List Entry → UnitShare → Machine → List ℕ → Machine → Type 0
HasFewTurns history share before numbers after =
    length numbers + length after.tasks
    ≤ length (share.tasks before) + 2 * sum_by (offers_at history) numbers

-- So it is in the unit under way, with blocks too: no user goes on for ever.
abbrev pub TurnsAreFew : Type 0
TurnsAreFew =
    (program : Program) (captures : Captures) (history : List Entry) (nows : Cast)
    → (reached : Reaches program captures history nows)
    → EachShare (HasFewTurns history) reached.cast reached.unit reached.lists reached.afters
