use Rattle.vale_port.specs.Seat.{Seat}
use Rattle.vale_port.proofs.Places.{of-seat}
use Rattle.vale_book.specs.Asking.{AreReady}
use Rattle.vale_book.proofs.asking.ready_at.Goals as goal

pub returns-clause-are : goal.returns-clause-are
returns-clause-are c =
    of-seat (λ (seat : Seat). AreReady seat.port (record { frames = c.ready_frames.result; buffers = c.ready.result; is_watched = c.args.is_watched })) c.args.ports.now c.args.place
    c.index-ports-place.result c.index-ports-place.is (λ seat is. record { frames = c.ready_frames.ensures.seat seat is; buffers = c.ready.ensures.seat seat is })
