use Rattle.vale_entry.proofs.Spans.{spans-alone}
use Rattle.vale_entry.proofs.laws.spans_are_of_numbers.Goals as goal

pub returns : goal.returns
returns c = spans-alone
