use Rattle.vale_parts.proofs.OffersKept.{offers_follow, first_next, none_left}
use Rattle.vale_parts.proofs.laws.offers_follow.Goals as goal

pub returns-clause-follow : goal.returns-clause-follow
returns-clause-follow c = offers_follow

pub returns-clause-first : goal.returns-clause-first
returns-clause-first c = first_next

pub returns-clause-none : goal.returns-clause-none
returns-clause-none c = none_left
