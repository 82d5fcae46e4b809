use Rattle.std.proofs.Common.{rules}
use Rattle.nm_turn.proofs.Keeps.{splits_keeps}
use Rattle.nm_turn.proofs.turn.Turn.fork.Goals as goal

pub split_seat-requires : goal.split_seat-requires
split_seat-requires g c = (search rules, search rules, splits_keeps g.B.Kept.entries g.B.Kept.fixed g.B.Kept.root _ _ _ (c.requires.1, c.requires.2))
