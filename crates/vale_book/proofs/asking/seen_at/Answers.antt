use Rattle.std.proofs.Common.{◌≡◌, ◌∙◌, get_or, rules}
use Rattle.vale_port.specs.Seat.{Seat}
use Rattle.vale_port.proofs.Places.{of-seat}
use Rattle.vale_book.specs.Asking.{IsSeen}
use Rattle.vale_book.proofs.asking.seen_at.Goals as goal

pub returns : goal.returns
returns c =
    let here : c.index-ports-place.result ≡ get_or c.args.ports.now c.args.place c.index-ports-place.result = search rules in
    of-seat
    (λ (seat : Seat). IsSeen seat.port (record { session = c.session.result; name = c.name.result; tx = c.tx.result; out = c.out.result; due = c.due.result; leases_out = c.leases_out.result }))
    c.args.ports.now c.args.place c.index-ports-place.result here
    (λ seat is. record {
      session = c.session.ensures ∙ is.session;
      name = c.name.ensures ∙ is.name;
      tx = c.tx.ensures ∙ is.tx;
      out = c.out.ensures ∙ is.out;
      due = c.due.ensures.seat seat is;
      leases = c.leases_out.ensures.seat seat is;
    })
