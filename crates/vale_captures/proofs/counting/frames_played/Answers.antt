use Rattle.std.proofs.Common.{refl, sym}
use Rattle.vale_captures.proofs.Sums.{none_played}
use Rattle.vale_captures.proofs.counting.frames_played.Goals as goal

pub returns-then-is_empty : goal.returns-then-is_empty
returns-then-is_empty c = sym (none_played c.args.script.now c.args.played.now (c.if-is_empty.ensures.0 refl))
