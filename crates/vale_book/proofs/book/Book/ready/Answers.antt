use Rattle.std.proofs.Common.{false, is_some, ◌∙◌, ap}
use Rattle.vale_book.proofs.Seen.{ready-found, ready-none}
use Rattle.vale_book.proofs.book.Book.ready.Goals as goal

pub returns-in-Some : goal.returns-in-Some
returns-in-Some c =
    rw (← c.self.view_is)
    (ready-found c.self.inside c.args.port c.in-Some.place c.ready_at.result c.self.invariant
    (rw c.deref.ensures.value at c.in-Some.ensures.some) (rw c.deref-in-Some.ensures.value at c.ready_at.ensures.are) (c.ready_at.ensures.watched ∙ (c.is_some-is_watched.ensures ∙ ap is_some c.of.ensures)))

pub returns-in-None : goal.returns-in-None
returns-in-None c =
    rw (← c.self.view_is)
    (ready-none c.self.inside c.args.port (record { frames = 0; buffers = 0; is_watched = false }) c.self.invariant (rw c.deref.ensures.value at c.in-None.ensures.none))
