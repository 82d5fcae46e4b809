use Rattle.vale_port.specs.Kept.{bytes_of}
use Rattle.nm_desk.specs.Filling.{IsFilling}
use Rattle.nm_desk.proofs.filling.fill_from_batch.Given as goal

abbrev pub invariant-loop-i : goal.invariant-loop-i
invariant-loop-i l = record {
  is : IsFilling l.fn.lease (bytes_of l.batch) l.places l.i l.lease;
}
