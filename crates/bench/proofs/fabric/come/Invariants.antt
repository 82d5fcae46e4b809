use Rattle.vale_fabric.specs.Fabrics.{IsPassIn}
use Rattle.bench.proofs.fabric.come.Given as goal

abbrev pub invariant-loop-user : goal.invariant-loop-user
invariant-loop-user g l = IsPassIn l.fabric l.pass
