use Rattle.std.proofs.Common.{subst, Option, IfSome}
use Rattle.nm_port.specs.Regions.{SideState, AllOf}
use Rattle.nm_desk.proofs.opening.add.Goals as goal

pub returns-clause-region : goal.returns-clause-region
returns-clause-region c region all =
    c.add.ensures.region region (subst (λ (own : Option SideState). IfSome own (AllOf region)) c.in-Some-Some.is-0 all)
