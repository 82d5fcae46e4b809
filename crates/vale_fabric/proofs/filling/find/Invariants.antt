use Rattle.std.proofs.Common.{◌≤◌, ◌-◌}
use Rattle.vale_fabric.specs.Filling.{Begins}
use Rattle.vale_fabric.proofs.filling.find.Given as goal

abbrev pub invariant-loop-cursor : goal.invariant-loop-cursor
invariant-loop-cursor l = record {
  begins : Begins l.gots l.cursor.frame l.cursor.at;
  low : l.cursor.frame ≤ l.place;
}

abbrev pub decreases-loop-cursor : goal.decreases-loop-cursor
decreases-loop-cursor l = l.place - l.cursor.frame
