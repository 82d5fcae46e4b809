use Rattle.vale_fabric.specs.Fabrics.{IsPassIn, knowing}
use Rattle.vale_act.proofs.AllSeats.{Telling}
use Rattle.vale_act.proofs.block_run.tell_all.Given as goal

abbrev pub invariant-loop-place : goal.invariant-loop-place
invariant-loop-place l = IsPassIn l.fabric l.main × Telling l.fabric (knowing l.fn.main) (knowing l.main) l.fn.seats l.seats l.place
