use Rattle.vale_names.proofs.NameLemmas.{named_without}
use Rattle.vale_names.proofs.names.Names.gone.Goals as goal

pub invariant_of-self : goal.invariant_of-self
invariant_of-self c = rw (c.leave_switches.ensures, c.gone.ensures, c.gone-2.ensures) (named_without c.args.id.0 _ _ _ c.self.invariant)
