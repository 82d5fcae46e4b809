use Rattle.vale_names.proofs.OrderLemmas.{order_finds_the_same}
use Rattle.vale_names.proofs.laws.order_finds_the_same.Goals as goal

pub returns : goal.returns
returns c = order_finds_the_same
