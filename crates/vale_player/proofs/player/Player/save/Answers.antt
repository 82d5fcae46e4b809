use Rattle.std.proofs.Common.{◌≡◌, true, sym, subst, ◌∙◌}
use Rattle.vale_player.specs.Kept.{is_one_of}
use Rattle.vale_player.specs.Players.{PlayerState}
use Rattle.vale_player.proofs.KeptSaves.{found-kept, noted-keeping}
use Rattle.vale_player.proofs.player.Player.save.Goals as goal

pub invariant_of-self-2 : goal.invariant_of-self-2
invariant_of-self-2 c =
    let s = c.self.inside.session in
    let names = c.self.inside.names.now in
    let saves = c.self.inside.saves.items in
    let kept = c.self.inside.kept in
    let one = subst (λ (p : PlayerState). is_one_of p.names c.args.name.now ≡ true) (sym c.self.view_is) c.requires in
    noted-keeping s names saves c.reserve.new.self.items c.push_reserved.new.self.items _ kept c.reserve.ensures.items c.push_reserved.ensures.items
    (found-kept s names saves kept c.args.name.now c.in-Some.port c.self.invariant (sym c.port_named.ensures ∙ c.in-Some.is) one) c.self.invariant
