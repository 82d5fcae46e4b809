use Rattle.vale_fabric.specs.Fabrics.{IsPassIn, fixed_in, knowing}
use Rattle.vale_player.specs.Kept.{KeepsWhole}
use Rattle.vale_act.specs.Leaving.{CanStillLeave}
use Rattle.vale_act.proofs.Closings.{Closing}
use Rattle.vale_act.proofs.KeptNotes.{AreKeptIn}
use Rattle.vale_act.proofs.ending.close_all.Given as goal

abbrev pub invariant-loop-place : goal.invariant-loop-place
invariant-loop-place g l = IsPassIn l.fabric l.main × Closing l.fabric (knowing l.fn.main) (knowing l.main) l.fn.seats l.seats l.place × CanStillLeave (knowing l.fn.main) (knowing l.main) l.fn.seats l.seats × KeepsWhole (fixed_in l.fabric).pool (knowing l.fn.main) (knowing l.main) l.fn.kept l.kept × AreKeptIn l.kept l.seats
