use Rattle.vale_own.proofs.SideFields.{refusals-fit}
use Rattle.vale_own.proofs.laws.refusals_fit.Goals as goal

pub returns : goal.returns
returns c = refusals-fit
