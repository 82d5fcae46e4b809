use Rattle.std.proofs.Common.{◌≡◌, false, None, sym, subst, ◌∙◌}
use Rattle.nm_types.specs.OwnEdits.{with_all_back}
use Rattle.vale_own.proofs.SideEditing.{edits-keep}
use Rattle.nm_user.specs.Sessions.{IsThere}
use Rattle.nm_user.proofs.Written.{there-edited}
use Rattle.vale_script.specs.declared.script.Act.TheVariants as acts
use Rattle.vale_player.specs.Players.{PlayerState, with_act}
use Rattle.vale_player.proofs.Changes.{changed-at, acted}
use Rattle.vale_player.proofs.KeptPorts.{edited-keeping}
use Rattle.vale_player.proofs.player.Player.give_all_back.Goals as goal

pub invariant_of-self : goal.invariant_of-self
invariant_of-self c =
    edited-keeping c.self.inside.session c.give_all_back.new.self _ c.self.inside.kept c.give_all_back.ensures (subst (IsThere None) (sym c.give_all_back.ensures) (there-edited (with_all_back c.in-Some.port.0) (edits-keep.all_back c.in-Some.port.0) c.self.invariant.there)) c.self.invariant

pub returns-in-Some : goal.returns-in-Some
returns-in-Some c =
    let s = c.self.inside.session in
    let p : PlayerState = record { number = c.self.inside.number; session = s; saves = c.self.inside.saves.items; names = c.self.inside.names.now } in
    let act = acts.Rx c.args.name.now false in
    subst (λ (x : PlayerState). record p { session = c.give_all_back.new.self } ≡ with_act act x) c.self.view_is
    (acted p c.give_all_back.new.self act (with_all_back c.in-Some.port.0 s.own) c.give_all_back.ensures (changed-at s.own c.args.name.now c.in-Some.port with_all_back (sym c.port_named.ensures ∙ c.in-Some.is)))
