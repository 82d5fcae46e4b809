use Rattle.std.proofs.Common.{List}
use Rattle.vale_entry.specs.World.{Port}
use Rattle.vale_entry.specs.Closing.{shutting_port}
use Rattle.vale_book.proofs.Seen.{seen-found, seen-none}
use Rattle.vale_book.proofs.book.Book.shutting_port.Goals as goal

pub returns-in-Some : goal.returns-in-Some
returns-in-Some c = rw (← c.self.view_is) (seen-found c.self.invariant (rw c.deref.ensures.value at c.in-Some.ensures.some) (rw c.deref-in-Some.ensures.value at c.seen_at.ensures))

pub returns-in-None : goal.returns-in-None
returns-in-None c = rw (← c.self.view_is) (seen-none c.self.inside (λ (all : List Port). shutting_port all c.args.port.0) c.self.invariant (rw c.deref.ensures.value at c.in-None.ensures.none))
