use Rattle.std.proofs.Common.{◌∙◌}
use Rattle.vale_script.proofs.Keyed.{port_at}
use Rattle.vale_script.proofs.keys.port_of.Goals as goal

pub returns : goal.returns
returns c =
    c.copied.ensures ∙ c.get.ensures.value
    ∙ port_at c.args.ports.now c.args.user.now c.args.name.now c.port_key.result c.requires c.port_key.ensures.named c.port_key.ensures.value
