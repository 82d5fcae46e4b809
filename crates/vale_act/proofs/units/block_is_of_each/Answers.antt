use Rattle.vale_act.proofs.units.block_is_of_each.Goals as goal
use Rattle.vale_act.proofs.SharesEach.{block-of-each}

pub returns : goal.returns
returns c = block-of-each
