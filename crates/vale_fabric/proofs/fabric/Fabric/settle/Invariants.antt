use Rattle.std.proofs.Common.{length}
use Rattle.vale_fabric.specs.Filling.{bytes_from}
use Rattle.vale_fabric.specs.Fabrics.{IsPassIn, fixed_in, knowing}
use Rattle.vale_fabric.specs.Passing.{HasPassed}
use Rattle.vale_fabric.proofs.GrantsSettle.{Going}
use Rattle.vale_fabric.proofs.fabric.Fabric.settle.Given as goal

abbrev pub invariant-loop-pass : goal.invariant-loop-pass
invariant-loop-pass g l = let gate = g.G.OwnGate in record {
  pass : IsPassIn l.self l.pass;
  going : Going (fixed_in l.self) (knowing l.fn.pass) (knowing l.pass) l.fn.offers l.offers (bytes_from l.frames) l.all;
  passed : HasPassed l.user (knowing l.fn.pass) (knowing l.pass) (gate.passed l.fn.gate) (gate.passed l.gate);
}

abbrev pub decreases-loop-pass : goal.decreases-loop-pass
decreases-loop-pass g l = length l.offers.wants
