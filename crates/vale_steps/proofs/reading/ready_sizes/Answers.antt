use Rattle.std.proofs.Common.{◌≡◌}
use Rattle.vale_entry.specs.Delivery.{delivered_frames}
use Rattle.vale_port.specs.Ports.{sizes_of}
use Rattle.vale_port.specs.Seat.{Seat}
use Rattle.vale_port.proofs.Places.{of-seat}
use Rattle.vale_steps.proofs.reading.ready_sizes.Goals as goal

pub returns : goal.returns
returns c =
    of-seat (λ (seat : Seat). c.ready_sizes.new.sizes.items ≡ sizes_of (delivered_frames seat.port)) c.args.ports.now c.args.place c.index-ports-place.result c.index-ports-place.is c.ready_sizes.ensures.sizes
