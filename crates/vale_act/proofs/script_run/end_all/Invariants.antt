use Rattle.vale_act.specs.Seats.{AllAre, IsEmpty}
use Rattle.vale_act.proofs.script_run.end_all.Given as goal

abbrev pub invariant-loop-seat : goal.invariant-loop-seat
invariant-loop-seat l = AllAre IsEmpty l.seats.items

abbrev pub decreases-loop-seat : goal.decreases-loop-seat
decreases-loop-seat l = goal.left-loop-seat l
