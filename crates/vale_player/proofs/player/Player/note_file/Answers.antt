use Rattle.std.proofs.Common.{[], ◌∷◌, sym, subst}
use Rattle.vale_replay.specs.Tasks.{SaveFrames}
use Rattle.vale_player.specs.Players.{PlayerState, DoesLine, with_save}
use Rattle.vale_player.proofs.Doing.{does-line}
use Rattle.vale_player.proofs.PlayerLines.{saved}
use Rattle.vale_player.proofs.player.Player.note_file.Goals as goal

pub returns-in-Ok-clause-does : goal.returns-in-Ok-clause-does
returns-in-Ok-clause-does c =
    let p = c.args.self.now in
    let name = c.args.name.now in
    let file = c.args.file.now in
    subst (λ (x : PlayerState). DoesLine p x (SaveFrames name file ∷ [])) (sym c.in-Ok.ensures.saved)
    (does-line p (with_save name file p) (SaveFrames name file ∷ []) (saved p name file))
