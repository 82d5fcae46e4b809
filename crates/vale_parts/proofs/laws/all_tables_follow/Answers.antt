use Rattle.vale_parts.proofs.AllTables.{all_follow, given_over, fresh_added}
use Rattle.vale_parts.proofs.laws.all_tables_follow.Goals as goal

pub returns-clause-follow : goal.returns-clause-follow
returns-clause-follow c = all_follow

pub returns-clause-over : goal.returns-clause-over
returns-clause-over c = given_over

pub returns-clause-added : goal.returns-clause-added
returns-clause-added c = fresh_added
