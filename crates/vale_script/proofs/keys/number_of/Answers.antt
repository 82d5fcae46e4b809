use Rattle.std.proofs.Common.{ap, ◌∙◌}
use Rattle.vale_script.specs.Keys.{packed}
use Rattle.vale_script.proofs.Keyed.{number_at}
use Rattle.vale_script.proofs.keys.number_of.Goals as goal

pub returns : goal.returns
returns c =
    c.copied.ensures ∙ c.get.ensures.value
    ∙ number_at c.args.numbers.now c.args.user.now c.packed.result c.requires (c.packed.ensures ∙ ap packed c.as_bytes.ensures.value)
