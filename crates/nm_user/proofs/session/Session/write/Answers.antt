use Rattle.std.proofs.Common.{sym, subst}
use Rattle.nm_types.specs.OwnEdits.{with_written}
use Rattle.vale_own.proofs.SideEditing.{edits-keep}
use Rattle.nm_user.specs.Sessions.{IsSession}
use Rattle.nm_user.proofs.Written.{session-edited}
use Rattle.nm_user.proofs.session.Session.write.Goals as goal
use Rattle.nm_user.proofs.session.Session.write.Goals.{in-Some, in_default}

pub invariant_of-self : goal.invariant_of-self
invariant_of-self c = elim c.match-self.branch [
  | in-Some w ↦ subst IsSession (sym w.self-inside-is)
      (session-edited c.self.inside w.in-Some.own w.write_front.new.self (with_written c.args.idx c.args.bytes.now) (edits-keep.written c.args.idx c.args.bytes.now) c.self.invariant w.in-Some.is w.write_front.ensures)
  | in_default w ↦ subst IsSession (sym w.self-inside-is) c.self.invariant
]
