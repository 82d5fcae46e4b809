use Rattle.vale_fabric.specs.Fabrics.{knowing}
use Rattle.nm_user.proofs.Passing.{there-joined}
use Rattle.nm_user.proofs.Written.{session-passed}
use Rattle.nm_user.proofs.session.Session.join.Goals as goal

pub invariant_of-self : goal.invariant_of-self
invariant_of-self c =
    session-passed c.self.invariant c.join.ensures.pass
    (there-joined (knowing c.args.other) (knowing c.join.new.pass) c.self.invariant.there c.join.ensures.joined c.join.ensures.known.0 c.join.ensures.pass.2)

pub returns-clause-there : goal.returns-clause-there
returns-clause-there c = (invariant_of-self c).there
