use Rattle.std.proofs.Common.{◌∙◌}
use Rattle.vale_serve.proofs.Framing.{named-items}
use Rattle.vale_serve.proofs.putting.contains.Goals as goal

pub returns : goal.returns
returns c = c.is_any_in.ensures ∙ named-items c.args.index c.args.items.now
