use Rattle.std.proofs.Common.{sym, ◌∙◌}
use Rattle.vale_port.proofs.OnSwitch.{off-last}
use Rattle.vale_port.proofs.port.is_on.Goals as goal

pub returns-else-stands_at : goal.returns-else-stands_at
returns-else-stands_at c =
    c.if-stands_at.false ∙ off-last c.args.switch.now c.args.name.now c.args.last c.requires.last c.requires.switch c.requires.name
    (sym c.stands_at.ensures ∙ c.if-stands_at.false)
