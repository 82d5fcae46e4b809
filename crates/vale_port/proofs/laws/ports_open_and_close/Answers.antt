use Rattle.vale_port.proofs.SeatTies.{clear_gives_all}
use Rattle.vale_port.proofs.laws.ports_open_and_close.Goals as goal

pub returns-clause-clear : goal.returns-clause-clear
returns-clause-clear c = clear_gives_all
