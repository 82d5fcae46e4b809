use Rattle.std.proofs.Common.{◌≡◌, ◌+◌, drop}
use Rattle.vale_told.specs.Fates.{first_from, done_in, done_of}
use Rattle.vale_told.proofs.fates.done_of.Given as goal

abbrev pub invariant-loop-i : goal.invariant-loop-i
invariant-loop-i l =
    done_of l.entries l.lease ≡ first_from (done_in l.lease) (l.i + 1) (drop l.i l.entries)
