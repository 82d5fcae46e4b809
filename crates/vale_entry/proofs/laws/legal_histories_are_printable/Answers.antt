use Rattle.vale_entry.proofs.Printable.{legal-printable}
use Rattle.vale_entry.proofs.laws.legal_histories_are_printable.Goals as goal

pub returns : goal.returns
returns c = legal-printable
