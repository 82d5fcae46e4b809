use Rattle.std.proofs.Common.{◌≡◌, ◌+◌, drop}
use Rattle.vale_told.specs.Fates.{reader_from}
use Rattle.vale_told.proofs.fates.reader_of.Given as goal

abbrev pub invariant-loop-i : goal.invariant-loop-i
invariant-loop-i l =
    reader_from l.port 1 l.place l.entries
    ≡ reader_from l.port (l.i + 1) l.left (drop l.i l.entries)
