use Rattle.std.proofs.Common.{None}
use Rattle.vale_script.proofs.Keyed.{ports_updated}
use Rattle.vale_script.proofs.keys.unset_port.Goals as goal

pub returns : goal.returns
returns c =
    ports_updated c.args.ports.now c.remove.new.self c.args.user.now c.args.name.now c.port_key.result None c.requires c.port_key.ensures.named
    c.port_key.ensures.value c.remove.ensures.updates.0
