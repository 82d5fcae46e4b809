use Rattle.vale_parts.proofs.BatchWants.{sends_replied, reads_replied, puts_replied}
use Rattle.vale_parts.proofs.laws.replies_are_told.Goals as goal

pub returns-clause-sends : goal.returns-clause-sends
returns-clause-sends c = sends_replied

pub returns-clause-reads : goal.returns-clause-reads
returns-clause-reads c = reads_replied

pub returns-clause-puts : goal.returns-clause-puts
returns-clause-puts c = puts_replied
