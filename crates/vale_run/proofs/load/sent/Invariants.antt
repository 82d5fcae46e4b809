use Rattle.std.proofs.Common.{◌≡◌, take, sum_by}
use Rattle.vale_run.specs.Load.{count_sent, bytes_sent}
use Rattle.vale_run.proofs.load.sent.Given as goal

abbrev pub invariant-loop-entry : goal.invariant-loop-entry
invariant-loop-entry l = (l.frames ≡ sum_by count_sent (take l.entry-index l.entries)) × (l.bytes ≡ sum_by bytes_sent (take l.entry-index l.entries))
