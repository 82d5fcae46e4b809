use Rattle.nm_own.proofs.Closing.{all_gone}
use Rattle.nm_own.proofs.own.OwnSide.close.Goals as goal

pub close-requires : goal.close-requires
close-requires c = all_gone c.self.inside.hold c.self.inside.ports.items (rw (← c.self.view_is) at c.requires) c.self.invariant.hold c.self.invariant.filled
