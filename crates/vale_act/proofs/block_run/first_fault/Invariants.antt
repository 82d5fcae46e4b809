use Rattle.std.proofs.Common.{◌≡◌, ℕ, ◌<◌, slice_get, Some}
use Rattle.vale_act.specs.Seats.{HasNoFault}
use Rattle.vale_act.specs.declared.seat.Seat.{Seat}
use Rattle.vale_act.proofs.block_run.first_fault.Given as goal

abbrev pub invariant-loop-seat : goal.invariant-loop-seat
invariant-loop-seat l = (k : ℕ) (seat : Seat) → k < l.seat-index → slice_get l.seats k ≡ Some seat → HasNoFault seat
