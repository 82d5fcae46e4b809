use Rattle.std.proofs.Common.{sym, subst}
use Rattle.nm_types.specs.OwnEdits.{with_extra_link}
use Rattle.vale_own.proofs.SideEditing.{edits-keep}
use Rattle.nm_user.specs.Sessions.{IsSession}
use Rattle.nm_user.proofs.Written.{session-edited}
use Rattle.nm_user.proofs.session.Session.link_extra.Goals as goal
use Rattle.nm_user.proofs.session.Session.link_extra.Goals.{in-Some, in_default}

pub invariant_of-self : goal.invariant_of-self
invariant_of-self c = elim c.match-self.branch [
  | in-Some w ↦ subst IsSession (sym w.self-inside-is)
      (session-edited c.self.inside w.in-Some.own w.link_extra.new.self (with_extra_link c.args.port.0 c.args.from c.args.to) (edits-keep.extra_link c.args.port.0 c.args.from c.args.to) c.self.invariant w.in-Some.is w.link_extra.ensures)
  | in_default w ↦ subst IsSession (sym w.self-inside-is) c.self.invariant
]
