use Rattle.std.proofs.Common.{subst}
use Rattle.vale_player.specs.Inputs.{records_in}
use Rattle.vale_act.specs.Seats.{CanSave}
use Rattle.vale_act.proofs.SeatRuns.{has-run}
use Rattle.vale_act.proofs.seat.Seat.run_lines.Goals as goal

pub returns-in-There-self : goal.returns-in-There-self
returns-in-There-self g c =
    has-run (records_in c.args.inputs.now) c.args.lines.now c.args.self.now c.in-There.player c.run_own-stop.new.self c.in-There-self.player c.in-There.fault c.in-There-self.fault c.run_own-stop.result
    c.in-There.is c.in-There-self.is c.run_own-stop.ensures

pub run_own-stop-requires-clause-saves : goal.run_own-stop-requires-clause-saves
run_own-stop-requires-clause-saves g c κs outlives = subst (CanSave c.args.lines.now) c.in-There.is c.requires.saves
