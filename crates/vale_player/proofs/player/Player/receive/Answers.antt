use Rattle.std.proofs.Common.{◌≡◌, true, false, inl, inr, ◌⊎◌, ◌∙◌}
use Rattle.vale_script.specs.declared.script.Act.TheVariants as acts
use Rattle.vale_player.specs.Players.{with_act}
use Rattle.vale_player.proofs.PlayerLines.{received}
use Rattle.vale_player.proofs.player.Player.receive.Goals as goal
use Rattle.vale_player.proofs.player.Player.receive.Goals.{then-not-keep, else-not-keep}

pub returns : goal.returns
returns g c =
    let p = c.args.self.now in
    let mid = c.if-not-keep.self in
    let name = c.args.name.now in
    let keep = c.args.keep in
    let way : ((keep ≡ true) × (mid ≡ p)) ⊎ ((keep ≡ false) × (mid ≡ with_act (acts.Rx name false) p)) = elim c.if-not-keep.branch [
      | then-not-keep w ↦ inr (w.if-not-keep.true, w.self-is ∙ w.give_all_back.ensures)
      | else-not-keep w ↦ inl (w.if-not-keep.false, w.self-is)
    ] in
    let done = received p mid c.take.new.self name keep c.take.result way c.take.ensures in
    record { does = done.does; stops = done.stops; still = done.still }
