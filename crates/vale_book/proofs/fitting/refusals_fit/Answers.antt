use Rattle.vale_book.proofs.fitting.refusals_fit.Goals as goal
use Rattle.vale_book.proofs.FittingSums.{refusals-fit}

pub returns : goal.returns
returns c = refusals-fit
