use Rattle.std.proofs.Common.{sym, subst}
use Rattle.nm_types.specs.OwnEdits.{with_slot_field}
use Rattle.vale_own.proofs.SideEditing.{edits-keep}
use Rattle.nm_user.specs.Sessions.{IsSession}
use Rattle.nm_user.proofs.Written.{session-edited}
use Rattle.nm_user.proofs.session.Session.write_slot.Goals as goal
use Rattle.nm_user.proofs.session.Session.write_slot.Goals.{in-Some, in_default}

pub invariant_of-self : goal.invariant_of-self
invariant_of-self c = elim c.match-self.branch [
  | in-Some w ↦ subst IsSession (sym w.self-inside-is)
      (session-edited c.self.inside w.in-Some.own w.write_slot.new.self (with_slot_field c.args.side c.args.port.0 c.args.at c.args.write) (edits-keep.slot_field c.args.side c.args.port.0 c.args.at c.args.write) c.self.invariant w.in-Some.is w.write_slot.ensures)
  | in_default w ↦ subst IsSession (sym w.self-inside-is) c.self.invariant
]
