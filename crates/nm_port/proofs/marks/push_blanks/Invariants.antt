use Rattle.std.proofs.Common.{◌≡◌, ◌++◌}
use Rattle.std.specs.Vec.{vec_capacity}
use Rattle.nm_port.specs.MarkLists.{blanks}
use Rattle.nm_port.proofs.marks.push_blanks.Given as goal

abbrev pub invariant-loop : goal.invariant-loop
invariant-loop l = record {
  items : l.marks.items ≡ l.fn.marks.items ++ blanks l.counter;
  room : vec_capacity l.marks ≡ vec_capacity l.fn.marks;
}
