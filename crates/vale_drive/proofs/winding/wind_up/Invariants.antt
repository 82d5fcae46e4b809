use Rattle.vale_entry.specs.Room.{promised_of}
use Rattle.vale_book.specs.Recorded.{standing}
use Rattle.vale_serve.specs.Joined.{AreUsersOf}
use Rattle.vale_drive.specs.Winding.{IsContinued}
use Rattle.vale_drive.proofs.winding.wind_up.Given as goal

abbrev pub invariant-loop : goal.invariant-loop
invariant-loop l = record {
  on : IsContinued l.fn.book l.book;
  kept : AreUsersOf l.book l.users.items;
}

abbrev pub decreases-loop : goal.decreases-loop
decreases-loop l = promised_of (standing l.book).world
