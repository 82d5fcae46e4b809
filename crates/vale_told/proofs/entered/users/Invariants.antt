use Rattle.std.proofs.Common.{◌≡◌, ◌+◌, ◌++◌, drop}
use Rattle.vale_told.specs.Listed.{listed_from}
use Rattle.vale_told.specs.Users.{entries_of, user_entered, users_told}
use Rattle.vale_told.proofs.entered.users.Given as goal

abbrev pub invariant-loop-i : goal.invariant-loop-i
invariant-loop-i l =
    users_told l.entries
    ≡ l.users.items ++ listed_from (user_entered (entries_of l.entries)) (l.i + 1) (drop l.i l.entries)
