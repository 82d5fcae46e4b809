use Rattle.std.proofs.Common.{◌≡◌, ◌≤◌, length, map, take}
use Rattle.vale_batch.specs.Wants.{size_of}
use Rattle.std.specs.Vec.{vec_capacity}
use Rattle.vale_batch.proofs.sole.sizes.Given as goal

abbrev pub invariant-loop-looked : goal.invariant-loop-looked
invariant-loop-looked l = (l.sizes.items ≡ map size_of (take l.looked-index l.all)) × (length l.all ≤ vec_capacity l.sizes)
