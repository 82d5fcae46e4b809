use Rattle.std.proofs.Common.{◌≡◌, [], ◌∷◌, None, option_map, refl, sym, subst, ◌∙◌}
use Rattle.nm_types.specs.OwnPorts.{port_with_name}
use Rattle.vale_replay.specs.Tasks.{ShutPort, FinishPort}
use Rattle.vale_player.specs.Players.{PlayerState, Does}
use Rattle.vale_player.proofs.Changes.{id-of}
use Rattle.vale_player.proofs.PortCalls.{found-port, is-some}
use Rattle.vale_player.proofs.PortsShut.{closes-does, closes-none}
use Rattle.vale_player.proofs.PortNames.{named-left}
use Rattle.vale_player.proofs.KeptPorts.{keeping, detach-saves}
use Rattle.vale_player.proofs.player.Player.close.Goals as goal

pub detach-requires : goal.detach-requires
detach-requires g c =
    let own = c.self.inside.session.own in
    is-some own c.args.name.now c.in-Some.port (found-port own c.args.name.now c.in-Some.port c.self.invariant.there.side.sound (sym c.port_named.ensures ∙ c.in-Some.is))

pub returns-in-Some-clause-does : goal.returns-in-Some-clause-does
returns-in-Some-clause-does g c =
    let p : PlayerState = record { number = c.self.inside.number; session = c.self.inside.session; saves = c.self.inside.saves.items; names = c.self.inside.names.now } in
    let q : PlayerState = record p { session = c.detach.new.self } in
    subst (λ (x : PlayerState). Does x q (ShutPort c.args.name.now ∷ FinishPort c.args.name.now ∷ [])) c.self.view_is
    (closes-does p q refl c.args.name.now c.in-Some.port c.detach.result c.detach.ensures.detached c.self.invariant.there c.detach.ensures.there (sym c.port_named.ensures ∙ c.in-Some.is))

pub returns-in_default-clause-does : goal.returns-in_default-clause-does
returns-in_default-clause-does g c =
    let none : option_map id-of (port_with_name c.self.inside.session.own c.args.name.now) ≡ None = sym c.port_named.ensures ∙ c.in_default.is in
    closes-none c.args.self.now c.args.name.now (subst (λ (x : PlayerState). option_map id-of (port_with_name x.session.own c.args.name.now) ≡ None) c.self.view_is none)

pub invariant_of-self : goal.invariant_of-self
invariant_of-self g c =
    let s = c.self.inside.session in
    let t = c.detach.new.self in
    keeping s t c.self.inside.kept c.detach.ensures.there (detach-saves s t c.self.invariant.there c.detach.ensures.there c.in-Some.port.0 c.detach.result c.detach.ensures.detached)
    (named-left c.self.inside.names.now c.self.inside.kept s t c.in-Some.port.0 c.detach.result c.detach.ensures.detached) c.self.invariant
