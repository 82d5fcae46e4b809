use Rattle.vale_parts.proofs.AllParts.{parts_follow, empty_first}
use Rattle.vale_parts.proofs.laws.parts_follow.Goals as goal

pub returns-clause-follow : goal.returns-clause-follow
returns-clause-follow c = parts_follow

pub returns-clause-first : goal.returns-clause-first
returns-clause-first c = empty_first
