use Rattle.std.proofs.Common.{sym, subst}
use Rattle.nm_types.specs.OwnEdits.{with_forwarded}
use Rattle.vale_own.proofs.SideEditing.{edits-keep}
use Rattle.nm_user.specs.Sessions.{IsSession}
use Rattle.nm_user.proofs.Written.{session-edited}
use Rattle.nm_user.proofs.session.Session.forward.Goals as goal
use Rattle.nm_user.proofs.session.Session.forward.Goals.{in-Some, in_default}

pub invariant_of-self : goal.invariant_of-self
invariant_of-self c = elim c.match-self.branch [
  | in-Some w ↦ subst IsSession (sym w.self-inside-is)
      (session-edited c.self.inside w.in-Some.own w.forward.new.self (with_forwarded c.args.count c.args.from.0 c.args.to.0) (edits-keep.forwarded c.args.count c.args.from.0 c.args.to.0) c.self.invariant w.in-Some.is w.forward.ensures)
  | in_default w ↦ subst IsSession (sym w.self-inside-is) c.self.invariant
]
