use Rattle.std.proofs.Common.{◌≡◌, ◌++◌}
use Rattle.std.specs.Vec.{vec_capacity}
use Rattle.nm_hold.specs.NumberTables.{zeros}
use Rattle.nm_hold.proofs.number_table.push_zeros.Given as goal

abbrev pub invariant-loop : goal.invariant-loop
invariant-loop l = record {
  items : l.numbers.items ≡ l.fn.numbers.items ++ zeros l.counter;
  room : vec_capacity l.numbers ≡ vec_capacity l.fn.numbers;
}
