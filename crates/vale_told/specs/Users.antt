-- The users of a history, in the order in which they came.
use Rattle.std.specs.Prelude.{ℕ, Bool, ◌==◌, List, count_by, nat_eq, unwrap_or, Option, Some, None}
use Rattle.std.specs.HashMap.{get, HashMap}
use Rattle.vale_entry.specs.declared.entry.Ask.{Ask}
use Rattle.vale_entry.specs.declared.entry.Ask.TheVariants.{Enter}
use Rattle.vale_entry.specs.declared.entry.Entry.{Entry}
use Rattle.vale_told.specs.declared.entered.User.{User}
use Rattle.vale_told.specs.Listed.{listed_from}

abbrev pub is_of : ℕ → Entry → Bool
is_of session entry = entry.session.0 == session

-- how many entries are of a session
abbrev pub entries_of : List Entry → ℕ → ℕ
entries_of history session = count_by (is_of session) history

module _ {S : Type 0} where
  abbrev pub count_in : HashMap ℕ ℕ S → ℕ → ℕ
  count_in counts session = unwrap_or (get nat_eq counts session) 0

-- the user who comes with an entry of this number
abbrev pub user_by : (ℕ → ℕ) → ℕ → Ask → Option User
user_by count number (Enter user) =
    Some (record { session = number; user = user; entries = count number })
user_by count number _ = None

abbrev pub user_entered : (ℕ → ℕ) → ℕ → Entry → Option User
user_entered count number entry = user_by count number entry.ask

abbrev pub users_told : List Entry → List User
users_told history = listed_from (user_entered (entries_of history)) 1 history
