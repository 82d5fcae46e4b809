use Rattle.vale_names.proofs.NameLemmas.{named_shut}
use Rattle.vale_names.proofs.names.Names.shut.Goals as goal

pub invariant_of-self : goal.invariant_of-self
invariant_of-self c = rw (c.shut_on_switches.ensures, c.shut.ensures, c.shut-2.ensures) (named_shut c.args.id.0 _ _ _ c.self.invariant)
