use Rattle.vale_parts.proofs.OffersKept.{offers_start, sends_start, reads_start, puts_start}
use Rattle.vale_parts.proofs.laws.offers_start.Goals as goal

pub returns-clause-start : goal.returns-clause-start
returns-clause-start c = offers_start

pub returns-clause-sends : goal.returns-clause-sends
returns-clause-sends c = sends_start

pub returns-clause-reads : goal.returns-clause-reads
returns-clause-reads c = reads_start

pub returns-clause-puts : goal.returns-clause-puts
returns-clause-puts c = puts_start
