use Rattle.vale_captures.proofs.Few.{plays-few}
use Rattle.vale_captures.proofs.counting.frames_are_few.Goals as goal

pub returns : goal.returns
returns c = plays-few
