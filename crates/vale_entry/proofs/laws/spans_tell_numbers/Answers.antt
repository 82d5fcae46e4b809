use Rattle.vale_entry.proofs.Spans.{spans-tell}
use Rattle.vale_entry.proofs.laws.spans_tell_numbers.Goals as goal

pub returns : goal.returns
returns c = spans-tell
