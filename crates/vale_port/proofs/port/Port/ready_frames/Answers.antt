use Rattle.std.proofs.Common.{sym, ◌∙◌, subst}
use Rattle.vale_port.specs.Ports.{IsSeatOf}
use Rattle.vale_port.specs.Stored.{state_of}
use Rattle.vale_port.proofs.ReadyTies.{count-ready}
use Rattle.vale_port.proofs.port.Port.ready_frames.Goals as goal

pub returns-clause-seat : goal.returns-clause-seat
returns-clause-seat c = λ seat is.
    let was : IsSeatOf seat (state_of c.self.inside) = subst (IsSeatOf seat) (sym c.self.view_is) is in
    c.ready_frames.ensures ∙ count-ready seat (state_of c.self.inside) was
