use Rattle.vale_parts.proofs.NamesKept.{names_follow}
use Rattle.vale_parts.proofs.laws.names_follow.Goals as goal

pub returns : goal.returns
returns c = names_follow
