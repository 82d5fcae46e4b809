use Rattle.std.proofs.Common.{ℕ, ◌≡◌, None, option_map, refl, sym, subst, ◌∙◌}
use Rattle.nm_types.specs.OwnPorts.{port_with_name}
use Rattle.nm_user.specs.Sessions.{IsThere}
use Rattle.vale_replay.specs.Tasks.{TakeFrames}
use Rattle.vale_player.specs.Players.{PlayerState, HasCalled}
use Rattle.vale_player.specs.Kept.{AreOrLost, HasReceived, kept_received}
use Rattle.vale_player.proofs.Changes.{id-of}
use Rattle.vale_player.proofs.PortCalls.{found-port, is-some, passed}
use Rattle.vale_player.proofs.Leading.{port-at}
use Rattle.vale_player.proofs.KeptSaves.{received-keeping}
use Rattle.vale_player.proofs.ReceivedFrames.{has-received}
use Rattle.vale_player.proofs.KeptPorts.{takes-on, stops-on, still-on}
use Rattle.vale_player.proofs.player.Player.take.Goals as goal

pub returns-in_default : goal.returns-in_default
returns-in_default g c =
    let none : option_map id-of (port_with_name c.self.inside.session.own c.args.name.now) ≡ None = sym c.port_named.ensures ∙ c.in_default.is in
    let gone = subst (λ (x : PlayerState). option_map id-of (port_with_name x.session.own c.args.name.now) ≡ None) c.self.view_is none in
    passed c.args.self.now c.args.name.now (TakeFrames c.args.name.now) (subst (λ (x : PlayerState). IsThere None x.session) c.self.view_is c.self.invariant.there) refl gone

pub receive-ended-requires-clause-port : goal.receive-ended-requires-clause-port
receive-ended-requires-clause-port g c _ _ =
    let own = c.self.inside.session.own in
    is-some own c.args.name.now c.in-Some.port (found-port own c.args.name.now c.in-Some.port c.self.invariant.there.side.sound (sym c.port_named.ensures ∙ c.in-Some.is))

pub receive-requires : goal.receive-requires
receive-requires g c =
    let s = c.self.inside.session in
    let t = c.receive-ended.new.session in
    let at = c.in-Some.port.0 in
    let got = c.receive-ended.result.0 in
    subst (λ (tail : ℕ). HasReceived t.own at tail got) (sym c.rx_tail-tail.ensures) (has-received s t at got c.self.invariant.there c.receive-ended.ensures.saves)

pub invariant_of-self : goal.invariant_of-self
invariant_of-self g c =
    let s = c.self.inside.session in
    let t = c.receive-ended.new.session in
    let at = c.in-Some.port.0 in
    let got = c.receive-ended.result.0 in
    let kept = subst (λ (tail : ℕ). AreOrLost (option_map (kept_received t.own at tail got) c.self.inside.kept) c.receive.new.self) c.rx_tail-tail.ensures c.receive.ensures in
    received-keeping s t at got c.self.inside.names.now c.self.inside.saves.items c.self.inside.kept c.receive.new.self c.receive-ended.ensures.there c.receive-ended.ensures.saves kept c.self.invariant

pub returns : goal.returns
returns g c =
    let p : PlayerState = record { number = c.self.inside.number; session = c.self.inside.session; saves = c.self.inside.saves.items; names = c.self.inside.names.now } in
    let q : PlayerState = record p { session = c.receive-ended.new.session } in
    let name = c.args.name.now in
    let port = c.in-Some.port in
    let at = port-at p.session.own name port c.self.invariant.there.side.sound (sym c.port_named.ensures ∙ c.in-Some.is) in
    let r = c.receive-ended.result.1 in
    let call = c.receive-ended.ensures in
    let called : HasCalled p q (TakeFrames name) r = record {
      does = takes-on p q refl name port at c.self.invariant.there call.there r call.came;
      stops = stops-on p q refl name port at r call.none;
      still = still-on p q refl name port at r call.came call.none;
      there = c.self.invariant.there;
    } in
    subst (λ (x : PlayerState). HasCalled x q (TakeFrames name) r) c.self.view_is called
