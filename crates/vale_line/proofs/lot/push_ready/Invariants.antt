use Rattle.std.proofs.Common.{◌≡◌, ◌+◌, ◌≤◌, ◌++◌, length, drop}
use Rattle.std.specs.Prelude.{vec_len, vec_capacity}
use Rattle.vale_line.specs.Lines.{ready_sizes}
use Rattle.vale_line.specs.Rings.{held_lots}
use Rattle.vale_line.proofs.lot.push_ready.Given as goal

abbrev pub invariant-loop-i : goal.invariant-loop-i
invariant-loop-i l = record {
  told : l.sizes.items ++ ready_sizes (drop l.i (held_lots l.lots.items)) ≡ l.fn.sizes.items ++ ready_sizes (held_lots l.lots.items);
  room : vec_len l.sizes + length (ready_sizes (drop l.i (held_lots l.lots.items))) ≤ vec_capacity l.sizes;
  capacity : vec_capacity l.sizes ≡ vec_capacity l.fn.sizes;
}
