use Rattle.std.proofs.Common.{map}
use Rattle.vale_line.specs.Lines.{completed}
use Rattle.vale_port.specs.Laws.{with_line}
use Rattle.vale_port.specs.Ports.{PortState, IsFilledFor}
use Rattle.vale_port.specs.Seat.{Seat, seat_done}
use Rattle.vale_port.proofs.Places.{changes-if, set-of_state}
use Rattle.vale_port.proofs.steps.done_at.Goals as goal

pub returns-clause-seats : goal.returns-clause-seats
returns-clause-seats c =
    changes-if (λ (seat : Seat). IsFilledFor seat c.args.lease) (seat_done c.args.lease.id) c.args.ports.now.items c.args.place c.index_mut.result.now c.done.new.self
    c.index_mut.ensures.value c.done.ensures.seat

pub returns-clause-lots : goal.returns-clause-lots
returns-clause-lots c =
    set-of_state (λ (p : PortState). with_line (record p.line { lots = map (completed c.args.lease.id c.args.lease.filled) p.line.lots }) p) c.args.ports.now.items c.args.place
    c.index_mut.result.now c.done.new.self c.index_mut.ensures.value c.done.ensures.lots
