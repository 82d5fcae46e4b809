use Rattle.std.proofs.Common.{◌∙◌}
use Rattle.vale_book.proofs.Seen.{as-many}
use Rattle.vale_book.proofs.book.Book.ports.Goals as goal

pub returns : goal.returns
returns c = rw (← c.self.view_is) (c.len.ensures ∙ (c.self.inside.ports.ok.0 ∙ as-many c.self.inside c.self.invariant))
