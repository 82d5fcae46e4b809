use Rattle.std.proofs.Common.{ap, ◌∙◌, Some}
use Rattle.vale_script.specs.Keys.{packed}
use Rattle.vale_script.proofs.Keyed.{numbers_updated}
use Rattle.vale_script.proofs.keys.set_number.Goals as goal

pub returns : goal.returns
returns c =
    numbers_updated c.args.numbers.now c.insert.new.self c.args.user.now c.packed.result (Some c.args.number) c.requires (c.packed.ensures ∙ ap packed c.as_bytes.ensures.value)
    c.in_ok-insert.ensures.updates.0
