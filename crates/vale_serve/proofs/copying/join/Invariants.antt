use Rattle.std.proofs.Common.{◌≡◌, ◌≤◌, ◌*◌, length, take}
use Rattle.std.specs.Vec.{vec_capacity}
use Rattle.nm_types.specs.Limits.{buffer_bytes}
use Rattle.vale_line.specs.Gots.{joined_parts}
use Rattle.vale_serve.proofs.copying.join.Given as goal

abbrev pub invariant-loop-i : goal.invariant-loop-i
invariant-loop-i l = record {
  made : l.to.items ≡ joined_parts (take l.i l.gots);
  few : length l.to.items ≤ buffer_bytes * l.i;
  room : buffer_bytes * length l.gots ≤ vec_capacity l.to;
}
