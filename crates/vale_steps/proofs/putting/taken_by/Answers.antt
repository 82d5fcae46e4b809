use Rattle.std.proofs.Common.{◌≡◌, min, ap, ◌∙◌}
use Rattle.vale_entry.specs.Pipe.{taken_count}
use Rattle.std.specs.Prelude.{Some}
use Rattle.vale_port.specs.Seat.{Seat}
use Rattle.vale_port.proofs.Places.{of-seat}
use Rattle.vale_steps.proofs.putting.taken_by.Goals as goal

pub returns-clause-seat : goal.returns-clause-seat
returns-clause-seat c =
    of-seat (λ (seat : Seat). c.min.result ≡ taken_count (Some seat.port) c.args.offered) c.args.ports.now c.args.place c.index-ports-place.result c.index-ports-place.is
    (λ seat is. c.min.ensures ∙ ap (min c.args.offered) (c.space.ensures.seat seat is))
