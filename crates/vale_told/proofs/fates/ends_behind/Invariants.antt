use Rattle.std.proofs.Common.{◌≡◌, ◌+◌, [], drop}
use Rattle.vale_told.specs.Fates.{ends_from}
use Rattle.vale_told.proofs.fates.ends_behind.Given as goal

abbrev pub invariant-loop-i : goal.invariant-loop-i
invariant-loop-i l =
    ends_from 1 [] l.entries ≡ ends_from (l.i + 1) l.ends.items (drop l.i l.entries)
