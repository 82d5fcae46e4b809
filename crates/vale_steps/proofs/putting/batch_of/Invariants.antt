use Rattle.std.proofs.Common.{◌≡◌, take}
use Rattle.vale_entry.specs.Pipe.{frames_of_items}
use Rattle.vale_steps.proofs.putting.batch_of.Given as goal

abbrev pub invariant-loop-i : goal.invariant-loop-i
invariant-loop-i l = l.batch ≡ frames_of_items (take l.i l.items)
