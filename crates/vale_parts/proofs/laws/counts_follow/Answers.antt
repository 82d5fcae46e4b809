use Rattle.vale_parts.proofs.CountsKept.{counts_follow, open_counted, shutting_counted, next_not, as_many}
use Rattle.vale_parts.proofs.laws.counts_follow.Goals as goal

pub returns-clause-follow : goal.returns-clause-follow
returns-clause-follow c = counts_follow

pub returns-clause-told : goal.returns-clause-told
returns-clause-told c = open_counted

pub returns-clause-shutting : goal.returns-clause-shutting
returns-clause-shutting c = shutting_counted

pub returns-clause-next : goal.returns-clause-next
returns-clause-next c = next_not

pub returns-clause-count : goal.returns-clause-count
returns-clause-count c = as_many
