use Rattle.nm_user.proofs.Written.{session-lent}
use Rattle.nm_user.proofs.session.Session.lend.Goals as goal

pub invariant_of-self-lent : goal.invariant_of-self-lent
invariant_of-self-lent c = λ w. session-lent c.self.inside c.self.invariant c.args.idx w
