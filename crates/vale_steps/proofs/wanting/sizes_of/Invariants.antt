use Rattle.std.proofs.Common.{◌≡◌, ◌≤◌, length, take}
use Rattle.std.specs.Vec.{vec_len, vec_capacity}
use Rattle.vale_port.specs.Ports.{sizes_of}
use Rattle.vale_steps.proofs.wanting.sizes_of.Given as goal

abbrev pub invariant-loop-i : goal.invariant-loop-i
invariant-loop-i l = record {
  made : l.sizes.items ≡ sizes_of (take l.i l.batch);
  count : vec_len l.sizes ≡ l.i;
  room : length l.batch ≤ vec_capacity l.sizes;
}
