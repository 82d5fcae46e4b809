use Rattle.std.proofs.Common.{◌≡◌, replicate, Some, None, true, refl, sym, subst, length}
use Rattle.nm_types.specs.OwnEdits.{has_room}
use Rattle.nm_user.specs.Sessions.{SessionState, IsThere}
use Rattle.vale_replay.specs.Tasks.{PutFrame}
use Rattle.vale_player.specs.Players.{PlayerState, Does, IsStill}
use Rattle.vale_player.specs.Syncing.{sender_named}
use Rattle.vale_player.proofs.PutCopies.{named-before, copies-there, copies-named, copies-done, some-copies}
use Rattle.vale_player.proofs.KeptPorts.{edited-keeping}
use Rattle.vale_player.proofs.player.Player.write_copies.Goals as goal

pub invariant_of-self : goal.invariant_of-self
invariant_of-self c =
    let p : PlayerState = record { number = c.self.inside.number; session = c.self.inside.session; saves = c.self.inside.saves.items; names = c.self.inside.names.now } in
    let named = named-before p c.args.self.now c.args.name.now c.args.port c.self.view_is c.requires.named in
    edited-keeping p.session c.put_copies.new.self _ c.self.inside.kept c.put_copies.ensures.own
    (subst (IsThere None) (sym c.put_copies.ensures.own) (copies-there p c.args.name.now c.args.bytes.now c.args.port c.self.invariant.there named c.put_copies.result)) c.self.invariant

pub returns : goal.returns
returns c =
    let p : PlayerState = record { number = c.self.inside.number; session = c.self.inside.session; saves = c.self.inside.saves.items; names = c.self.inside.names.now } in
    let name = c.args.name.now in
    let port = c.args.port in
    let bytes = c.args.bytes.now in
    let count = c.put_copies.result in
    let copies = c.put_copies.ensures.copies in
    let here = c.self.invariant.there in
    let named = named-before p c.args.self.now name port c.self.view_is c.requires.named in
    let own = sym c.put_copies.ensures.own in
    record {
      does = subst (λ (x : PlayerState). Does x (record p { session = c.put_copies.new.self }) (replicate count (PutFrame name bytes))) c.self.view_is
          (subst (λ (s : SessionState). Does p (record p { session = s }) (replicate count (PutFrame name bytes))) own (copies-done p name bytes port here named count copies.room));
      named = subst (λ (s : SessionState). sender_named s.own name ≡ Some port) own (copies-named p name bytes port here named count);
      some = λ has. some-copies c.args.count count port.0 bytes p.session.own copies (subst (λ (x : PlayerState). has_room x.session.own port.0 (length bytes) ≡ true) (sym c.self.view_is) has);
      most = copies.most;
      still = subst (λ (x : PlayerState). IsStill x (record p { session = c.put_copies.new.self })) c.self.view_is
          (subst (λ (s : SessionState). IsStill p (record p { session = s })) own (record { number = refl; names = refl; fabric = refl; fixed = refl }));
    }
