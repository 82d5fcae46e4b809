use Rattle.std.proofs.Common.{length}
use Rattle.vale_words.proofs.fixed.+value_of.Given as goal

abbrev pub decreases-value_of : goal.decreases-value_of
decreases-value_of g l = length l.table.now
