use Rattle.vale_port.specs.Kept.{bytes_of}
use Rattle.vale_fabric.specs.Filling.{IsFilling}
use Rattle.vale_fabric.proofs.filling.fill_from_batch.Given as goal

abbrev pub invariant-loop-i : goal.invariant-loop-i
invariant-loop-i l = record {
  is : IsFilling l.fn.lease (bytes_of l.batch) l.places l.i l.lease;
}
