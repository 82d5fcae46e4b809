use Rattle.std.proofs.Common.{None, sym, subst}
use Rattle.nm_types.specs.OwnEdits.{with_extra_link}
use Rattle.vale_own.proofs.SideEditing.{edits-keep}
use Rattle.nm_user.specs.Sessions.{IsThere}
use Rattle.nm_user.proofs.Written.{there-edited}
use Rattle.vale_player.proofs.KeptPorts.{edited-keeping}
use Rattle.vale_player.proofs.player.Player.link_extra.Goals as goal

pub invariant_of-self : goal.invariant_of-self
invariant_of-self c =
    edited-keeping c.self.inside.session c.link_extra.new.self _ c.self.inside.kept c.link_extra.ensures (subst (IsThere None) (sym c.link_extra.ensures) (there-edited (with_extra_link c.in-Some.port.0 c.args.from c.args.to) (edits-keep.extra_link c.in-Some.port.0 c.args.from c.args.to) c.self.invariant.there)) c.self.invariant
