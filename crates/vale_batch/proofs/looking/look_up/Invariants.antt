use Rattle.std.proofs.Common.{◌≡◌, ◌≤◌, ◌++◌, drop, length}
use Rattle.std.specs.Vec.{vec_len, vec_capacity}
use Rattle.vale_batch.specs.Looking.{destination_of, learned_from, looked_up_batch, learned_of_batch, untaught_all}
use Rattle.vale_batch.proofs.looking.look_up.Given as goal

abbrev pub invariant-loop-i : goal.invariant-loop-i
invariant-loop-i l = record {
  looked : l.all.items ++ looked_up_batch l.from l.table (drop l.i l.batch) ≡ looked_up_batch l.from l.fn.table l.batch;
  learned : learned_of_batch l.from l.table (drop l.i l.batch) ≡ learned_of_batch l.from l.fn.table l.batch;
  went : l.went ≡ destination_of l.from l.table (record { bytes = l.before; no_learn = l.marked });
  known : l.table ≡ learned_from l.from l.table (record { bytes = l.before; no_learn = l.marked });
  undo : untaught_all l.table l.taughts.items ≡ l.fn.table;
  all : vec_len l.all ≡ l.i;
  all_room : length l.batch ≤ vec_capacity l.all;
}
