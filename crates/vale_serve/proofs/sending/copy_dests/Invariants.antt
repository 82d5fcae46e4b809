use Rattle.std.proofs.Common.{◌≡◌, ◌≤◌, take, length}
use Rattle.std.specs.Vec.{vec_capacity}
use Rattle.vale_serve.proofs.sending.copy_dests.Given as goal

abbrev pub invariant-loop-dest : goal.invariant-loop-dest
invariant-loop-dest l = record {
  made : l.to.items ≡ take l.dest-index l.from;
  count : length l.to.items ≡ l.dest-index;
  room : length l.from ≤ vec_capacity l.to;
}
