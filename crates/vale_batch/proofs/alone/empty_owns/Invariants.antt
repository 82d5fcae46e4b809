use Rattle.std.proofs.Common.{◌≡◌, ◌≤◌, take, map, length}
use Rattle.std.specs.Vec.{vec_len, vec_capacity}
use Rattle.vale_batch.specs.Wants.{owned, empty_own}
use Rattle.vale_batch.proofs.alone.empty_owns.Given as goal

abbrev pub invariant-loop-port : goal.invariant-loop-port
invariant-loop-port l = record {
  made : map owned l.all.items ≡ map empty_own (take l.port-index l.ports);
  count : vec_len l.all ≡ l.port-index;
  room : length l.ports ≤ vec_capacity l.all;
}
