use Rattle.std.proofs.Common.{◌∙◌}
use Rattle.vale_fields.proofs.Parts.{range_pushed}
use Rattle.vale_fields.proofs.lists.push_span.Goals as goal

pub loop-k-preserved : goal.loop-k-preserved
loop-k-preserved c =
    c.in_ok-push.ensures.items ∙ range_pushed c.args.numbers.now.items c.loop-k.numbers.items c.args.span.first c.loop-k.k c.loop-k.invariant
