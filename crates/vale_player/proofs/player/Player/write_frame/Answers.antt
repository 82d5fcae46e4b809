use Rattle.std.proofs.Common.{◌≡◌, Some, None, sym, subst}
use Rattle.nm_types.specs.OwnEdits.{with_frame}
use Rattle.vale_own.proofs.SideEditing.{edits-keep}
use Rattle.nm_user.specs.Sessions.{IsThere}
use Rattle.nm_user.proofs.Written.{there-edited}
use Rattle.vale_player.specs.Players.{PlayerState}
use Rattle.vale_player.specs.Syncing.{sender_named, with_put}
use Rattle.vale_player.proofs.PutCopies.{named-before, put-at, put-named}
use Rattle.vale_player.proofs.KeptPorts.{edited-keeping}
use Rattle.vale_player.proofs.player.Player.write_frame.Goals as goal

pub invariant_of-self : goal.invariant_of-self
invariant_of-self c =
    let id = c.args.port.0 in
    edited-keeping c.self.inside.session c.put_frame.new.self _ c.self.inside.kept c.put_frame.ensures (subst (IsThere None) (sym c.put_frame.ensures) (there-edited (with_frame id c.args.bytes.now) (edits-keep.frame id c.args.bytes.now) c.self.invariant.there)) c.self.invariant

pub returns : goal.returns
returns c =
    let p : PlayerState = record { number = c.self.inside.number; session = c.self.inside.session; saves = c.self.inside.saves.items; names = c.self.inside.names.now } in
    let name = c.args.name.now in
    let sound = c.self.invariant.there.side.sound in
    let named = named-before p c.args.self.now name c.args.port c.self.view_is c.requires.named in
    let put = put-at p c.put_frame.new.self name c.args.bytes.now c.args.port sound named c.put_frame.ensures in
    record {
      put = subst (λ (x : PlayerState). record p { session = c.put_frame.new.self } ≡ with_put name c.args.bytes.now x) c.self.view_is put;
      named = subst (λ (x : PlayerState). sender_named x.session.own name ≡ Some c.args.port) (sym put) (put-named p name c.args.bytes.now c.args.port sound named);
    }
