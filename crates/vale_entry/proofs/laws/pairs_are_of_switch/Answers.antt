use Rattle.vale_entry.proofs.PairsOfSwitch.{pairs-of_switch}
use Rattle.vale_entry.proofs.laws.pairs_are_of_switch.Goals as goal

pub returns : goal.returns
returns c = pairs-of_switch
