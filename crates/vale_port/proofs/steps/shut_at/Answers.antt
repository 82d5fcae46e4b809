use Rattle.std.proofs.Common.{true}
use Rattle.vale_port.specs.Ports.{PortState}
use Rattle.vale_port.specs.Seat.{seat_shut}
use Rattle.vale_port.proofs.Places.{changes-at, set-of_state}
use Rattle.vale_port.proofs.steps.shut_at.Goals as goal

pub returns-clause-seats : goal.returns-clause-seats
returns-clause-seats c =
    changes-at seat_shut c.args.ports.now.items c.args.place c.index_mut.result.now c.shut.new.self c.index_mut.ensures.value c.shut.ensures.seat

pub returns-clause-port : goal.returns-clause-port
returns-clause-port c =
    set-of_state (λ (p : PortState). record p { shutting = true }) c.args.ports.now.items c.args.place c.index_mut.result.now c.shut.new.self c.index_mut.ensures.value c.shut.ensures.state
