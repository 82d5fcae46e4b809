use Rattle.std.proofs.Common.{length}
use Rattle.vale_script.proofs.places.+any_out.Given as goal

abbrev pub decreases-any_out : goal.decreases-any_out
decreases-any_out l = length l.places.now
