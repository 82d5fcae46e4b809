use Rattle.std.proofs.Common.{◌∙◌}
use Rattle.nm_types.specs.Names.{switch_of}
use Rattle.vale_port.proofs.Lookups.{any-open}
use Rattle.vale_port.proofs.ports.is_open_on.Goals as goal

pub returns : goal.returns
returns c = c.has_open_near.ensures ∙ any-open (switch_of c.args.name.now) c.args.id.0 c.args.ports.now
