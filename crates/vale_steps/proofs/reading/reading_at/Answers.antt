use Rattle.std.proofs.Common.{◌≡◌, length}
use Rattle.vale_entry.specs.Delivery.{delivered_frames}
use Rattle.vale_port.specs.Seat.{Seat}
use Rattle.vale_port.proofs.Places.{of-seat}
use Rattle.vale_steps.proofs.reading.reading_at.Goals as goal

pub returns-clause-frames : goal.returns-clause-frames
returns-clause-frames c =
    of-seat (λ (seat : Seat). c.ready_frames.result ≡ length (delivered_frames seat.port)) c.args.ports.now c.args.place c.index-ports-place.result c.index-ports-place.is c.ready_frames.ensures.seat
