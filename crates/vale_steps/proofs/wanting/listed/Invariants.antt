use Rattle.std.proofs.Common.{◌≡◌, ◌≤◌, length, map, take}
use Rattle.std.specs.Vec.{vec_len, vec_capacity}
use Rattle.vale_batch.specs.Wants.{wanted}
use Rattle.vale_steps.proofs.wanting.listed.Given as goal

abbrev pub invariant-loop-i : goal.invariant-loop-i
invariant-loop-i l = record {
  wants : map wanted l.all.items ≡ take l.i l.lists.wants;
  count : vec_len l.all ≡ l.i;
  room : length l.lists.wants ≤ vec_capacity l.all;
}
