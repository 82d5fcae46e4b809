use Rattle.std.proofs.Common.{◌≡◌, get_or, rules}
use Rattle.vale_entry.specs.Closing.{leases_out}
use Rattle.vale_port.specs.Seat.{Seat}
use Rattle.vale_port.proofs.Places.{of-seat}
use Rattle.vale_book.proofs.finishing.leases_out_at.Goals as goal

pub returns-clause-seat : goal.returns-clause-seat
returns-clause-seat c =
    let here : c.index-ports-place.result ≡ get_or c.args.ports.now c.args.place c.index-ports-place.result = search rules in
    of-seat (λ (seat : Seat). c.leases_out.result ≡ leases_out seat.port) c.args.ports.now c.args.place c.index-ports-place.result here c.leases_out.ensures.seat
