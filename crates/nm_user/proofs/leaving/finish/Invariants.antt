use Rattle.std.proofs.Common.{◌≡◌}
use Rattle.vale_fabric.specs.Fabrics.{IsPassIn, fixed_in, knowing}
use Rattle.nm_user.proofs.LeavingPorts.{HasWaited}
use Rattle.nm_user.proofs.leaving.finish.Given as goal

abbrev pub invariant-loop : goal.invariant-loop
invariant-loop g l = record {
  pass : IsPassIn l.fn.fabric l.pass;
  waited : HasWaited (fixed_in l.fn.fabric) (knowing l.initial.pass) (knowing l.pass);
  bufs : l.bufs.items ≡ l.initial.bufs.items;
}
