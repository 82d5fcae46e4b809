use Rattle.std.proofs.Common.{refl, subst}
use Rattle.vale_player.specs.Players.{PlayerState}
use Rattle.vale_player.specs.Syncing.{HasSent}
use Rattle.vale_player.proofs.Leading.{sender-asked, sender-ring}
use Rattle.vale_player.proofs.PutCopies.{named-before}
use Rattle.vale_player.proofs.Sending.{has-sent}
use Rattle.vale_player.proofs.PortNames.{named-stay, sync-ports}
use Rattle.vale_player.proofs.KeptPorts.{keeping, sync-saves}
use Rattle.vale_player.proofs.player.Player.send.Goals as goal

pub transmit-requires-clause-ring : goal.transmit-requires-clause-ring
transmit-requires-clause-ring g c _ _ =
    let p : PlayerState = record { number = c.self.inside.number; session = c.self.inside.session; saves = c.self.inside.saves.items; names = c.self.inside.names.now } in
    let name = c.args.name.now in
    let port = c.args.port in
    sender-ring p.session.own name port (sender-asked p c.args.self.now name port c.self.view_is c.self.invariant.there c.requires)

pub invariant_of-self : goal.invariant_of-self
invariant_of-self g c =
    let s = c.self.inside.session in
    let t = c.transmit.new.session in
    keeping s t c.self.inside.kept c.transmit.ensures.there
    (sync-saves s t c.self.invariant.there c.transmit.ensures.there c.args.port.0 c.transmit.result c.transmit.ensures.came c.transmit.ensures.none)
    (named-stay c.self.inside.names.now c.self.inside.kept s t (sync-ports s t c.args.port.0 c.transmit.result c.transmit.ensures.came c.transmit.ensures.none)) c.self.invariant

pub returns : goal.returns
returns g c =
    let p : PlayerState = record { number = c.self.inside.number; session = c.self.inside.session; saves = c.self.inside.saves.items; names = c.self.inside.names.now } in
    let q : PlayerState = record p { session = c.transmit.new.session } in
    let name = c.args.name.now in
    let port = c.args.port in
    let named = named-before p c.args.self.now name port c.self.view_is c.requires in
    let call = c.transmit.ensures in
    subst (λ (x : PlayerState). HasSent x q name port c.transmit.result) c.self.view_is
    (has-sent p q c.self.invariant.there call.there refl name port named c.transmit.result call.came call.none)
