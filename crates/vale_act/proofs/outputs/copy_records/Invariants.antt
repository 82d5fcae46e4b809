use Rattle.std.proofs.Common.{◌≡◌, take}
use Rattle.vale_act.proofs.outputs.copy_records.Given as goal

abbrev pub invariant-loop-one : goal.invariant-loop-one
invariant-loop-one l = l.copies.items ≡ take l.one-index l.fn.records
