use Rattle.vale_parts.proofs.CountsKept.{nothing_added, nowhere_added}
use Rattle.vale_parts.proofs.laws.nothing_need_be_added.Goals as goal

pub returns-clause-nothing : goal.returns-clause-nothing
returns-clause-nothing c = nothing_added

pub returns-clause-nowhere : goal.returns-clause-nowhere
returns-clause-nowhere c = nowhere_added
