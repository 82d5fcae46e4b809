use Rattle.vale_player.proofs.KeptPorts.{met-keeping}
use Rattle.vale_player.proofs.player.Player.meet.Goals as goal

pub invariant_of-self : goal.invariant_of-self
invariant_of-self c =
    met-keeping c.self.inside.session c.join.new.self _ c.self.inside.kept c.join.ensures.joined c.join.ensures.known.0 c.join.ensures.there c.self.invariant
