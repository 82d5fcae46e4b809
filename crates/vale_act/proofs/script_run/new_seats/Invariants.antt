use Rattle.std.proofs.Common.{◌≡◌, ◌≤◌, length}
use Rattle.std.specs.Vec.{vec_capacity}
use Rattle.vale_act.specs.Seats.{AllAre}
use Rattle.vale_act.specs.declared.seat.Seat.TheVariants.{Away}
use Rattle.vale_act.proofs.script_run.new_seats.Given as goal

abbrev pub invariant-loop-at : goal.invariant-loop-at
invariant-loop-at l = AllAre (λ place seat. seat ≡ Away) l.seats.items × (l.count ≤ vec_capacity l.seats) × (length l.seats.items ≡ l.at)
