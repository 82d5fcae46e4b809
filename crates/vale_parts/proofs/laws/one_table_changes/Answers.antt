use Rattle.vale_parts.proofs.AllParts.{tables_stay, sends_teach, shuts_empty, other_shuts}
use Rattle.vale_parts.proofs.laws.one_table_changes.Goals as goal

pub returns-clause-stay : goal.returns-clause-stay
returns-clause-stay c = tables_stay

pub returns-clause-sends : goal.returns-clause-sends
returns-clause-sends c = sends_teach

pub returns-clause-shuts : goal.returns-clause-shuts
returns-clause-shuts c = shuts_empty

pub returns-clause-others : goal.returns-clause-others
returns-clause-others c = other_shuts
