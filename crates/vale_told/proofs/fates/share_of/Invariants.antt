use Rattle.std.proofs.Common.{◌≡◌, ◌+◌, drop}
use Rattle.vale_told.specs.Fates.{first_from, share_in, share_of}
use Rattle.vale_told.proofs.fates.share_of.Given as goal

abbrev pub invariant-loop-i : goal.invariant-loop-i
invariant-loop-i l =
    share_of l.entries l.origin l.to
    ≡ first_from (share_in l.origin l.to) (l.i + 1) (drop l.i l.entries)
