use Rattle.nm_pool.proofs.Out.{any_out_can_be_given, none_out_is_whole}
use Rattle.nm_pool.proofs.laws.all_can_be_given.Goals as goal

pub returns-clause-given : goal.returns-clause-given
returns-clause-given c = any_out_can_be_given

pub returns-clause-whole : goal.returns-clause-whole
returns-clause-whole c = none_out_is_whole
