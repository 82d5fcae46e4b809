use Rattle.vale_own.proofs.Askers.{askers-make-steps}
use Rattle.vale_own.proofs.laws.askers_make_steps.Goals as goal

pub returns : goal.returns
returns c = askers-make-steps
