use Rattle.vale_entry.proofs.Causes.{dropped-cause}
use Rattle.vale_entry.proofs.laws.frames_are_dropped_for_cause.Goals as goal

pub returns : goal.returns
returns c = dropped-cause
