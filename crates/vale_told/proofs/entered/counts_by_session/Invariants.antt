use Rattle.std.proofs.Common.{ℕ, ◌≡◌, take}
use Rattle.vale_told.specs.Users.{count_in, entries_of}
use Rattle.vale_told.proofs.entered.counts_by_session.Given as goal

abbrev pub invariant-loop-entry : goal.invariant-loop-entry
invariant-loop-entry l = (session : ℕ) →
    count_in l.counts session ≡ entries_of (take l.entry-index l.entries) session
