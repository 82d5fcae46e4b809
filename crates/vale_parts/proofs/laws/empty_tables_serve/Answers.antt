use Rattle.vale_parts.proofs.TablesKept.{empty_serve, last_empty}
use Rattle.vale_parts.proofs.laws.empty_tables_serve.Goals as goal

pub returns-clause-serve : goal.returns-clause-serve
returns-clause-serve c = empty_serve

pub returns-clause-last : goal.returns-clause-last
returns-clause-last c = last_empty
