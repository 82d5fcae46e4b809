use Rattle.nm_user.proofs.Written.{session-slot-lent}
use Rattle.nm_user.proofs.session.Session.slot_mut.Goals as goal

pub invariant_of-self-lent : goal.invariant_of-self-lent
invariant_of-self-lent c = λ lent. (λ slot. session-slot-lent c.self.inside c.self.invariant c.args.side c.args.port.0 c.args.at slot, c.self.invariant)
