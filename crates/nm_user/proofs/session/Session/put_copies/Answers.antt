use Rattle.std.proofs.Common.{◌≡◌, sym, subst, ap, None, Some}
use Rattle.nm_types.specs.OwnPorts.{OwnState}
use Rattle.nm_own.specs.Copies.{with_copies, AreCopies}
use Rattle.nm_user.specs.Sessions.{IsSession}
use Rattle.nm_user.proofs.CopiesPut.{copies-keep}
use Rattle.nm_user.proofs.Written.{session-edited}
use Rattle.nm_user.proofs.session.Session.put_copies.Goals as goal
use Rattle.nm_user.proofs.session.Session.put_copies.Goals.{in-Some, in-None}

pub invariant_of-self : goal.invariant_of-self
invariant_of-self c = elim c.match-self.branch [
  | in-Some w ↦ subst IsSession (sym w.self-inside-is)
      (session-edited c.self.inside w.in-Some.own w.put_copies.new.self (with_copies w.put_copies.result c.args.port.0 c.args.bytes.now) (copies-keep w.put_copies.result c.args.port.0 c.args.bytes.now) c.self.invariant w.in-Some.is w.put_copies.ensures.own)
  | in-None w ↦ subst IsSession (sym w.self-inside-is) c.self.invariant
]
