use Rattle.vale_line.specs.Gots.{frames_in}
use Rattle.vale_fabric.specs.Filling.{Begins, IsFilling}
use Rattle.vale_fabric.proofs.filling.fill_from_gots.Given as goal

abbrev pub invariant-loop-i : goal.invariant-loop-i
invariant-loop-i l = record {
  is : IsFilling l.fn.lease (frames_in l.gots) l.places l.i l.lease;
  begins : Begins l.gots l.next.frame l.next.at;
}
