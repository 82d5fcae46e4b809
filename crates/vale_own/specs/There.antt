-- Whether a session has come and has left, by the entries of a history.
use Rattle.std.specs.Prelude.{ℕ, zero, suc, Bool, false, ◌==◌, List, Option, None, slice_get}
use Rattle.std.specs.List.{list_any}
use Rattle.vale_entry.specs.declared.entry.Ask.{Ask}
use Rattle.vale_entry.specs.declared.entry.Ask.TheVariants.{Leave}
use Rattle.vale_entry.specs.declared.entry.Entry.{Entry}
use Rattle.vale_entry.specs.Legal.{is_met}
use Rattle.vale_own.specs.Asker.{is_enter}

abbrev pub is_coming : Entry → Bool
is_coming entry = is_enter entry.ask

abbrev pub is_leave_of : ℕ → Ask → Bool
is_leave_of session (Leave by) = by.0 == session
is_leave_of session _ = false

abbrev pub is_leaving : ℕ → Entry → Bool
is_leaving session entry = is_leave_of session entry.ask

-- entries are numbered from 1
abbrev pub entry_numbered : List Entry → ℕ → Option Entry
entry_numbered history zero = None
entry_numbered history (suc n) = slice_get history n

-- the entry of the session's number is an Enter
abbrev pub has_come : List Entry → ℕ → Bool
has_come history session = is_met is_coming (entry_numbered history session)

abbrev pub has_left : List Entry → ℕ → Bool
has_left history session = list_any (is_leaving session) history
