use Rattle.std.proofs.Common.{◌≡◌, take, map}
use Rattle.vale_batch.specs.Wants.{owned, own_at}
use Rattle.vale_batch.proofs.alone.owns_of.Given as goal

abbrev pub invariant-loop-place : goal.invariant-loop-place
invariant-loop-place l = map owned l.all.items ≡ map (own_at (take l.place l.looked)) l.ports
