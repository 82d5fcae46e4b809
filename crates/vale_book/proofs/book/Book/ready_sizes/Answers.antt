use Rattle.vale_book.proofs.Seen.{sizes-found, sizes-none}
use Rattle.vale_book.proofs.book.Book.ready_sizes.Goals as goal

pub returns-in-Some : goal.returns-in-Some
returns-in-Some c =
    rw (← c.self.view_is)
    (sizes-found c.ready_sizes.result c.self.inside c.args.port c.in-Some.place c.deref-in-Some.result.now c.self.invariant c.deref-in-Some.ensures.value
    (rw c.deref.ensures.value at c.in-Some.ensures.some) c.ready_sizes.ensures)

pub returns-in-None : goal.returns-in-None
returns-in-None c =
    rw (← c.self.view_is) (sizes-none c.self.inside c.args.port c.new.result.items c.self.invariant (rw c.deref.ensures.value at c.in-None.ensures.none))
