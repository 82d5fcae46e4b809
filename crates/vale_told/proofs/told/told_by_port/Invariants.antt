use Rattle.std.proofs.Common.{ℕ, ◌≡◌, ◌+◌, drop}
use Rattle.vale_told.specs.Told.{told_from, told_both, told_of}
use Rattle.vale_told.specs.ByPort.{told_in}
use Rattle.vale_told.proofs.told.told_by_port.Given as goal

abbrev pub invariant-loop-i : goal.invariant-loop-i
invariant-loop-i l = (port : ℕ) →
    told_of l.entries port
    ≡ told_both (told_in l.by_port port) (told_from (l.i + 1) l.ends.items (drop l.i l.entries) port)
