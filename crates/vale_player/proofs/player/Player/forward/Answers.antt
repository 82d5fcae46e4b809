use Rattle.std.proofs.Common.{◌≡◌, None, sym, subst, ◌∙◌}
use Rattle.nm_types.specs.OwnEdits.{with_forwarded}
use Rattle.vale_own.proofs.SideEditing.{edits-keep}
use Rattle.nm_user.specs.Sessions.{IsThere}
use Rattle.nm_user.proofs.Written.{there-edited}
use Rattle.vale_script.specs.declared.script.Act.TheVariants as acts
use Rattle.vale_player.specs.Players.{PlayerState, with_act}
use Rattle.vale_player.proofs.Changes.{acted}
use Rattle.vale_player.proofs.NamedActs.{forwards}
use Rattle.vale_player.proofs.KeptPorts.{edited-keeping}
use Rattle.vale_player.proofs.player.Player.forward.Goals as goal

pub invariant_of-self : goal.invariant_of-self
invariant_of-self c =
    let from = c.in-Some.here.0 in
    let to = c.in-Some-port_named.there.0 in
    edited-keeping c.self.inside.session c.forward.new.self _ c.self.inside.kept c.forward.ensures
    (subst (IsThere None) (sym c.forward.ensures) (there-edited (with_forwarded c.args.count from to) (edits-keep.forwarded c.args.count from to) c.self.invariant.there)) c.self.invariant

pub returns-in-Some-port_named : goal.returns-in-Some-port_named
returns-in-Some-port_named c =
    let s = c.self.inside.session in
    let p : PlayerState = record { number = c.self.inside.number; session = s; saves = c.self.inside.saves.items; names = c.self.inside.names.now } in
    let here = c.in-Some.here in
    let there = c.in-Some-port_named.there in
    let act = acts.Fwd c.args.from.now c.args.to.now c.args.count in
    subst (λ (x : PlayerState). record p { session = c.forward.new.self } ≡ with_act act x) c.self.view_is
    (acted p c.forward.new.self act (with_forwarded c.args.count here.0 there.0 s.own) c.forward.ensures
    (forwards s.own c.args.from.now c.args.to.now here there c.args.count (sym c.port_named.ensures ∙ c.in-Some.is) (sym c.port_named-in-Some.ensures ∙ c.in-Some-port_named.is)))
