use Rattle.vale_parts.proofs.FreeKept.{free_follow, free_counted, openings_cut, finishes_give, size_kept}
use Rattle.vale_parts.proofs.laws.free_buffers_follow.Goals as goal

pub returns-clause-follow : goal.returns-clause-follow
returns-clause-follow c = free_follow

pub returns-clause-count : goal.returns-clause-count
returns-clause-count c = free_counted

pub returns-clause-cut : goal.returns-clause-cut
returns-clause-cut c = openings_cut

pub returns-clause-give : goal.returns-clause-give
returns-clause-give c = finishes_give

pub returns-clause-size : goal.returns-clause-size
returns-clause-size c = size_kept
