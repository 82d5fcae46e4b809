use Rattle.std.proofs.Common.{sym, subst}
use Rattle.nm_types.specs.OwnEdits.{with_slots_swapped}
use Rattle.nm_own.specs.Acts.{place_seen}
use Rattle.vale_own.proofs.SideEditing.{edits-keep}
use Rattle.nm_user.specs.Sessions.{IsSession}
use Rattle.nm_user.proofs.Written.{session-edited}
use Rattle.nm_user.proofs.session.Session.swap_slots.Goals as goal
use Rattle.nm_user.proofs.session.Session.swap_slots.Goals.{in-Some, in_default}

pub invariant_of-self : goal.invariant_of-self
invariant_of-self c = elim c.match-self.branch [
  | in-Some w ↦ subst IsSession (sym w.self-inside-is)
      (session-edited c.self.inside w.in-Some.own w.swap_slots.new.self (with_slots_swapped c.args.announce (place_seen c.args.here) (place_seen c.args.there)) (edits-keep.slots_swapped c.args.announce (place_seen c.args.here) (place_seen c.args.there)) c.self.invariant w.in-Some.is w.swap_slots.ensures)
  | in_default w ↦ subst IsSession (sym w.self-inside-is) c.self.invariant
]
