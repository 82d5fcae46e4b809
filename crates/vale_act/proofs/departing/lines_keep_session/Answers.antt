use Rattle.vale_act.proofs.departing.lines_keep_session.Goals as goal
use Rattle.vale_act.proofs.DepartingTurns.{lines-keep}

pub returns : goal.returns
returns c = lines-keep
