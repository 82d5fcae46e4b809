use Rattle.std.proofs.Common.{None, sym, subst}
use Rattle.nm_types.specs.OwnEdits.{with_slot_field}
use Rattle.vale_own.proofs.SideEditing.{edits-keep}
use Rattle.nm_user.specs.Sessions.{IsThere}
use Rattle.nm_user.proofs.Written.{there-edited}
use Rattle.vale_player.proofs.KeptPorts.{edited-keeping}
use Rattle.vale_player.proofs.player.Player.poke.Goals as goal

pub invariant_of-self : goal.invariant_of-self
invariant_of-self c =
    edited-keeping c.self.inside.session c.write_slot.new.self _ c.self.inside.kept c.write_slot.ensures (subst (IsThere None) (sym c.write_slot.ensures) (there-edited (with_slot_field c.args.side c.in-Some.port.0 c.args.slot c.field_written.result) (edits-keep.slot_field c.args.side c.in-Some.port.0 c.args.slot c.field_written.result) c.self.invariant.there)) c.self.invariant
