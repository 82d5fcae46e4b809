use Rattle.vale_act.proofs.departing.refused_makes_nothing.Goals as goal
use Rattle.vale_act.proofs.DepartingPasses.{refused-nothing}

pub returns : goal.returns
returns c = refused-nothing
