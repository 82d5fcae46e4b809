use Rattle.std.proofs.Common.{sym, subst}
use Rattle.vale_port.specs.Ports.{PortState, IsSeatOf}
use Rattle.vale_port.specs.Stored.{state_of}
use Rattle.vale_port.proofs.Calls.{seat-granted, lease-for, nothing-given}
use Rattle.vale_port.proofs.port.Port.grant.Goals as goal

pub returns-clause-seat : goal.returns-clause-seat
returns-clause-seat c = λ seat offer is same.
    let p : PortState = state_of c.self.inside in
    let was : IsSeatOf seat p = subst (IsSeatOf seat) (sym c.self.view_is) is in
    seat-granted seat p c.args.id offer c.args.want.now c.grant.new.self c.grant.result was c.grant.ensures.line same c.grant.ensures.none c.grant.ensures.some c.grant.ensures.lot

pub returns-clause-some : goal.returns-clause-some
returns-clause-some c =
    lease-for (state_of c.self.inside) c.args.self.now c.args.id c.args.want.now c.grant.result c.self.view_is c.grant.ensures.line c.grant.ensures.some c.grant.ensures.lease c.grant.ensures.count

pub returns-clause-none : goal.returns-clause-none
returns-clause-none c =
    nothing-given (state_of c.self.inside) c.args.self.now c.args.want.now c.grant.new.self c.grant.result c.self.view_is c.grant.ensures.line c.grant.ensures.none
