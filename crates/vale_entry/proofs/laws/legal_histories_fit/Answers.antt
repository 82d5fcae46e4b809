use Rattle.vale_entry.proofs.Fitting.{legal-fits}
use Rattle.vale_entry.proofs.laws.legal_histories_fit.Goals as goal

pub returns : goal.returns
returns c = legal-fits
