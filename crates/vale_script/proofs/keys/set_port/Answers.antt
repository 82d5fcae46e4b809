use Rattle.std.proofs.Common.{Some}
use Rattle.vale_script.proofs.Keyed.{ports_updated}
use Rattle.vale_script.proofs.keys.set_port.Goals as goal

pub returns : goal.returns
returns c =
    ports_updated c.args.ports.now c.insert.new.self c.args.user.now c.args.name.now c.port_key.result (Some c.args.saved) c.requires c.port_key.ensures.named
    c.port_key.ensures.value c.in_ok-insert.ensures.updates.0
