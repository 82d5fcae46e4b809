use Rattle.vale_parts.proofs.TakenBack.{taken_back}
use Rattle.vale_parts.proofs.laws.what_is_taken_is_given_back.Goals as goal

pub returns : goal.returns
returns c = taken_back
