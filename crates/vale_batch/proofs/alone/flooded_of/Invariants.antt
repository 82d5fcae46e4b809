use Rattle.std.proofs.Common.{◌≡◌, take}
use Rattle.vale_batch.specs.Wants.{is_flooded, picked}
use Rattle.vale_batch.proofs.alone.flooded_of.Given as goal

abbrev pub invariant-loop-place : goal.invariant-loop-place
invariant-loop-place l = l.all.items ≡ picked is_flooded 0 (take l.place l.looked)
