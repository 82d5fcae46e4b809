use Rattle.std.proofs.Common.{sym, ◌∙◌, subst}
use Rattle.vale_port.specs.Ports.{IsSeatOf}
use Rattle.vale_port.specs.Stored.{state_of}
use Rattle.vale_port.proofs.ReadyTies.{sizes-ready}
use Rattle.vale_port.proofs.port.Port.ready_sizes.Goals as goal

pub returns-clause-sizes : goal.returns-clause-sizes
returns-clause-sizes c = λ seat is.
    let was : IsSeatOf seat (state_of c.self.inside) = subst (IsSeatOf seat) (sym c.self.view_is) is in
    c.ready_sizes.ensures.sizes ∙ sizes-ready seat (state_of c.self.inside) was
