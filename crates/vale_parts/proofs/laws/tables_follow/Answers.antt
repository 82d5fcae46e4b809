use Rattle.vale_parts.proofs.TablesKept.{tables_follow}
use Rattle.vale_parts.proofs.laws.tables_follow.Goals as goal

pub returns : goal.returns
returns c = tables_follow
