use Rattle.std.proofs.Common.{sym, subst}
use Rattle.vale_line.specs.Lines.{LineState}
use Rattle.vale_port.specs.Ports.{PortState, IsSeatOf}
use Rattle.vale_port.specs.Seat.{seat_done}
use Rattle.vale_port.specs.Stored.{state_of}
use Rattle.vale_port.proofs.SeatTies.{done_is_done}
use Rattle.vale_port.proofs.port.Port.done.Goals as goal

pub returns-clause-seat : goal.returns-clause-seat
returns-clause-seat c = λ seat is filled.
    let p : PortState = state_of c.self.inside in
    let was : IsSeatOf seat p = subst (IsSeatOf seat) (sym c.self.view_is) is in
    let next = done_is_done seat p c.args.lease was c.done.ensures.was filled in
    subst (λ (l : LineState). IsSeatOf (seat_done c.args.lease.id seat) (record p { line = l })) (sym c.done.ensures.line) next
