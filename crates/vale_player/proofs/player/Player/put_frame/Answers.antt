use Rattle.std.proofs.Common.{Bool, [], ◌∷◌, sym, subst}
use Rattle.vale_replay.specs.Tasks.{PutFrame}
use Rattle.vale_player.specs.Players.{PlayerState, Does}
use Rattle.vale_player.specs.Syncing.{NeedsNone, NeedsNoneOrEnds}
use Rattle.vale_player.proofs.Leading.{puts}
use Rattle.vale_player.proofs.player.Player.put_frame.Goals as goal

pub returns-in-Ok-true-clause-does : goal.returns-in-Ok-true-clause-does
returns-in-Ok-true-clause-does g c =
    let p = c.args.self.now in
    let q = c.make_room.new.self in
    let name = c.args.name.now in
    let bytes = c.args.bytes.now in
    let needs : NeedsNone p q (PutFrame name bytes) = subst (λ (b : Bool). NeedsNoneOrEnds p q (PutFrame name bytes) b) c.in-Ok-true.field-0-test c.in-Ok-true.ensures.room in
    subst (λ (x : PlayerState). Does p x (PutFrame name bytes ∷ [])) (sym c.write_frame.ensures.put) (puts p q name bytes needs)

pub returns-in-Ok-false-clause-does : goal.returns-in-Ok-false-clause-does
returns-in-Ok-false-clause-does g c =
    let p = c.args.self.now in
    let q = c.make_room.new.self in
    let task = PutFrame c.args.name.now c.args.bytes.now in
    subst (λ (b : Bool). NeedsNoneOrEnds p q task b) c.in-Ok-false.field-0-test c.in-Ok-false.ensures.room
