use Rattle.std.proofs.Common.{◌≡◌, Option, Some, None, option_map, sym, subst, ap, ◌∙◌}
use Rattle.std.specs.Option.{option_copied}
use Rattle.nm_types.specs.declared.id.PortId.{PortId}
use Rattle.nm_types.specs.declared.id.Side.TheVariants.{Tx}
use Rattle.nm_types.specs.OwnPorts.{ring_at}
use Rattle.nm_port.specs.Own.{ring_of}
use Rattle.nm_user.specs.Sessions.{IsThere}
use Rattle.vale_player.specs.Players.{PlayerState}
use Rattle.vale_player.specs.Syncing.{sender_named}
use Rattle.vale_player.proofs.Leading.{port-at, sender-some, sender-none, sender-away}
use Rattle.vale_player.proofs.player.Player.sender.Goals as goal

pub returns-in_default-clause-sender : goal.returns-in_default-clause-sender
returns-in_default-clause-sender c =
    let own = c.self.inside.session.own in
    let name = c.args.name.now in
    subst (λ (x : PlayerState). ◌≡◌ {A = Option PortId} None (sender_named x.session.own name)) c.self.view_is (sym (sender-away own name (sym c.port_named.ensures ∙ c.in_default.is)))

pub returns-in-Some-ring-clause-sender : goal.returns-in-Some-ring-clause-sender
returns-in-Some-ring-clause-sender c =
    let own = c.self.inside.session.own in
    let name = c.args.name.now in
    let port = c.in-Some.port in
    let at = port-at own name port c.self.invariant.there.side.sound (sym c.port_named.ensures ∙ c.in-Some.is) in
    let ring : option_map ring_of (ring_at Tx own port.0) ≡ Some c.in-Some-ring.field-0.now = sym c.ring.ensures ∙ ap option_copied c.in-Some-ring.is in
    subst (λ (x : PlayerState). Some port ≡ sender_named x.session.own name) c.self.view_is (sym (sender-some own name port at ring_of c.in-Some-ring.field-0.now ring))

pub returns-in-None-clause-sender : goal.returns-in-None-clause-sender
returns-in-None-clause-sender c =
    let own = c.self.inside.session.own in
    let name = c.args.name.now in
    let port = c.in-Some.port in
    let at = port-at own name port c.self.invariant.there.side.sound (sym c.port_named.ensures ∙ c.in-Some.is) in
    let none : option_map ring_of (ring_at Tx own port.0) ≡ None = sym c.ring.ensures ∙ ap option_copied c.in-None.is in
    subst (λ (x : PlayerState). ◌≡◌ {A = Option PortId} None (sender_named x.session.own name)) c.self.view_is (sym (sender-none own name port at ring_of none))

pub returns-in_default-clause-there : goal.returns-in_default-clause-there
returns-in_default-clause-there c = subst (λ (x : PlayerState). IsThere None x.session) c.self.view_is c.self.invariant.there

pub returns-in-Some-ring-clause-there : goal.returns-in-Some-ring-clause-there
returns-in-Some-ring-clause-there c = subst (λ (x : PlayerState). IsThere None x.session) c.self.view_is c.self.invariant.there

pub returns-in-None-clause-there : goal.returns-in-None-clause-there
returns-in-None-clause-there c = subst (λ (x : PlayerState). IsThere None x.session) c.self.view_is c.self.invariant.there
