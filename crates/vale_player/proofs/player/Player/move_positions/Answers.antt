use Rattle.std.proofs.Common.{◌≡◌, None, sym, subst, ◌∙◌}
use Rattle.nm_types.specs.OwnEdits.{with_positions}
use Rattle.vale_own.proofs.SideEditing.{edits-keep}
use Rattle.nm_user.specs.Sessions.{IsThere}
use Rattle.nm_user.proofs.Written.{there-edited}
use Rattle.vale_script.specs.declared.script.Act.TheVariants as acts
use Rattle.vale_player.specs.Players.{PlayerState, with_act}
use Rattle.vale_player.proofs.Changes.{changed-at, acted}
use Rattle.vale_player.proofs.KeptPorts.{edited-keeping}
use Rattle.vale_player.proofs.player.Player.move_positions.Goals as goal

pub invariant_of-self : goal.invariant_of-self
invariant_of-self c =
    edited-keeping c.self.inside.session c.put_positions.new.self _ c.self.inside.kept c.put_positions.ensures (subst (IsThere None) (sym c.put_positions.ensures) (there-edited (with_positions c.args.side c.in-Some.port.0 c.args.head c.args.cur) (edits-keep.positions c.args.side c.in-Some.port.0 c.args.head c.args.cur) c.self.invariant.there)) c.self.invariant

pub returns-in-Some : goal.returns-in-Some
returns-in-Some c =
    let s = c.self.inside.session in
    let p : PlayerState = record { number = c.self.inside.number; session = s; saves = c.self.inside.saves.items; names = c.self.inside.names.now } in
    let act = acts.Move c.args.name.now c.args.side c.args.head c.args.cur in
    subst (λ (x : PlayerState). record p { session = c.put_positions.new.self } ≡ with_act act x) c.self.view_is
    (acted p c.put_positions.new.self act (with_positions c.args.side c.in-Some.port.0 c.args.head c.args.cur s.own) c.put_positions.ensures
    (changed-at s.own c.args.name.now c.in-Some.port (λ id. with_positions c.args.side id c.args.head c.args.cur) (sym c.port_named.ensures ∙ c.in-Some.is)))
