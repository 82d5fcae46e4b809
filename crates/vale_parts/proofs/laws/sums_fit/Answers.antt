use Rattle.vale_parts.proofs.Additions.{additions_fit}
use Rattle.vale_parts.proofs.SumsFit.{sums_fit}
use Rattle.vale_parts.proofs.laws.sums_fit.Goals as goal

pub returns-clause-sums : goal.returns-clause-sums
returns-clause-sums c = sums_fit

pub returns-clause-additions : goal.returns-clause-additions
returns-clause-additions c = additions_fit
