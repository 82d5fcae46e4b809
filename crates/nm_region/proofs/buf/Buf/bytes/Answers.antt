use Rattle.std.proofs.Common.{◌≡◌, Bool, [], sym, ap, ◌∙◌, subst}
use Rattle.nm_types.specs.Buffers.{cleared_but}
use Rattle.nm_region.specs.Buffers.{Buffer}
use Rattle.nm_region.specs.Marked.{AreWritten}
use Rattle.nm_region.proofs.buf.Buf.bytes.Goals as goal

pub returns-else-self-clause-bytes : goal.returns-else-self-clause-bytes
returns-else-self-clause-bytes c =
    let items = c.self.inside.part.items in
    let none : items ≡ [] = subst (λ (is : Bool). AreWritten is items) c.if-self.false c.self.invariant.whole in
    sym (ap cleared_but none) ∙ ap (λ (b : Buffer). b.bytes) c.self.view_is
