use Rattle.std.proofs.Common.{ℕ, List, replicate, sym, subst, ◌∙◌}
use Rattle.std.specs.Prelude.{OnOk}
use Rattle.vale_replay.specs.Tasks.{Task, PutFrame, frame_of_put}
use Rattle.vale_player.specs.Players.{PlayerState, DoesLine}
use Rattle.vale_player.proofs.player.Player.put_filled.Goals as goal

pub returns-clause-does : goal.returns-clause-does
returns-clause-does g c =
    let name = c.args.name.now in
    let done = c.put-done.result in
    let tasks : List Task = replicate c.args.count (PutFrame name (frame_of_put c.args.to c.args.from c.args.len c.args.fill)) in
    subst (λ (x : PlayerState). OnOk done (DoesLine c.args.self.now x tasks)) (sym c.keep_frame.ensures)
    (subst (λ (x : PlayerState). OnOk done (DoesLine x c.put-done.new.self tasks)) c.take_frame-frame.ensures
    (subst (λ (bytes : List ℕ). OnOk done (DoesLine c.take_frame-frame.new.self c.put-done.new.self (replicate c.args.count (PutFrame name bytes)))) (c.deref.ensures.value ∙ c.in_ok-write_frame_of_put.ensures) c.put-done.ensures.does))
