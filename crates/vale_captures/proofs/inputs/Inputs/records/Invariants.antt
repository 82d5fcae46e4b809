use Rattle.std.proofs.Common.{◌≡◌, drop}
use Rattle.vale_captures.specs.Inputs.{records_in}
use Rattle.vale_captures.proofs.inputs.Inputs.records.Given as goal

abbrev pub invariant-loop-input : goal.invariant-loop-input
invariant-loop-input l = records_in l.input-items l.file ≡ records_in (drop l.input-index l.input-items) l.file
