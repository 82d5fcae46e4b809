use Rattle.std.proofs.Common.{None, not, sym, subst}
use Rattle.nm_types.specs.OwnEdits.{SlotPlace, with_slots_swapped}
use Rattle.vale_own.proofs.SideEditing.{edits-keep}
use Rattle.nm_user.specs.Sessions.{IsThere}
use Rattle.nm_user.proofs.Written.{there-edited}
use Rattle.vale_player.proofs.KeptPorts.{edited-keeping}
use Rattle.vale_player.proofs.player.Player.swap.Goals as goal

pub invariant_of-self : goal.invariant_of-self
invariant_of-self c =
    let here : SlotPlace = record { side = c.args.side; port = c.in-Some.port.0; at = c.args.slot } in
    let there : SlotPlace = record { side = c.args.other_side; port = c.in-Some-port_named.other_port.0; at = c.args.other_slot } in
    edited-keeping c.self.inside.session c.swap_slots.new.self _ c.self.inside.kept c.swap_slots.ensures (subst (IsThere None) (sym c.swap_slots.ensures) (there-edited (with_slots_swapped (not c.args.quiet) here there) (edits-keep.slots_swapped (not c.args.quiet) here there) c.self.invariant.there)) c.self.invariant
