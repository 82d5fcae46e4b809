use Rattle.std.proofs.Common.{subst, sym}
use Rattle.nm_user.specs.Receives.{RingNot}
use Rattle.nm_user.proofs.Refusals.{refused-not, reset-not}
use Rattle.nm_user.proofs.session.Session.refuse.Goals as goal

pub returns-in-Ok-clause-not : goal.returns-in-Ok-clause-not
returns-in-Ok-clause-not g c = refused-not c.args.self.now c.reset.new.self c.args.side c.args.port c.args.fault c.requires.refused c.in-Ok.ensures.made

pub returns-in-Err-clause-not : goal.returns-in-Err-clause-not
returns-in-Err-clause-not g c =
    let not = reset-not c.args.self.now c.reset.new.self c.args.side c.args.port c.args.fault c.in-Err.full c.requires.refused c.in-Err.ensures.full in
    subst (RingNot c.args.side c.args.self.now c.reset.new.self c.args.port.0) (sym c.into.ensures) not
