use Rattle.std.proofs.Common.{◌∙◌}
use Rattle.vale_parts.proofs.FreeKept.{free_counted}
use Rattle.vale_book.proofs.book.Book.free.Goals as goal

pub returns : goal.returns
returns c =
    let b = c.self.inside in
    let stands = c.self.invariant.stands in
    rw (← c.self.view_is) (c.free.ensures.count ∙ free_counted b.pool.buffers b.history.entries b.pool stands.legal stands.parts_are.free_are)
