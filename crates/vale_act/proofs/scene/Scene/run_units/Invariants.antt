use Rattle.vale_fabric.specs.Fabrics.{IsPassIn, knowing}
use Rattle.vale_player.specs.Inputs.{captures_of}
use Rattle.vale_act.specs.Leaving.{CanStillLeave}
use Rattle.vale_act.specs.Seats.{AllKeepNames, AllOn, AreBetween}
use Rattle.vale_act.proofs.scene.Scene.run_units.Given as goal

abbrev pub invariant-loop-unit : goal.invariant-loop-unit
invariant-loop-unit g l = IsPassIn l.self.fabric.now l.main × (AllOn l.self.fabric.now l.seats × AreBetween l.script (captures_of l.self.inputs.now) l.unit-index (knowing l.main) l.seats) × (CanStillLeave (knowing l.fn.main) (knowing l.main) l.fn.seats l.seats × AllKeepNames l.self.names.now l.seats)
