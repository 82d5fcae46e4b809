use Rattle.std.proofs.Common.{◌≡◌, Bool, [], sym, ap, ◌∙◌, subst}
use Rattle.nm_types.specs.Buffers.{cleared_but}
use Rattle.nm_region.specs.Marked.{AreWritten}
use Rattle.nm_region.proofs.buf.fill.Goals as goal

pub returns-then-not-is_written-clause-bytes : goal.returns-then-not-is_written-clause-bytes
returns-then-not-is_written-clause-bytes c =
    let none : c.args.part.now.items ≡ [] = subst (λ (is : Bool). AreWritten is c.args.part.now.items) c.if-not-is_written.true c.requires in
    c.clear.ensures.1 ∙ sym (ap cleared_but none)
