use Rattle.vale_own.proofs.SideArrivals.{arrivals-many}
use Rattle.vale_own.proofs.laws.arrivals_are_as_many.Goals as goal

pub returns : goal.returns
returns c = arrivals-many
