use Rattle.vale_book.specs.BookView.{recorded}
use Rattle.vale_book.proofs.Moves.{entries-few}
use Rattle.vale_own.proofs.Rooms.{within-had}
use Rattle.vale_book.proofs.book.Book.history.Goals as goal

pub returns-clause-within : goal.returns-clause-within
returns-clause-within c = rw (← c.self.view_is) (within-had (recorded c.self.inside) c.self.invariant.stands.legal c.self.invariant.rooms)

pub returns-clause-few : goal.returns-clause-few
returns-clause-few c = rw (← c.self.view_is) (entries-few c.self.inside c.self.invariant)
