use Rattle.nm_types.specs.Names.{switch_of}
use Rattle.vale_port.proofs.Lookups.{found-open}
use Rattle.vale_port.proofs.ports.open_ports_on.Goals as goal

pub returns-clause-open : goal.returns-clause-open
returns-clause-open c = found-open (switch_of c.args.name.now) c.args.ports.now c.ids_on.result c.ids_on.ensures
