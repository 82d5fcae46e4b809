use Rattle.std.proofs.Common.{◌≡◌, take}
use Rattle.vale_book.specs.LegalRecords.{IsLegalRecord}
use Rattle.vale_serve.specs.Joined.{AreUsersOf}
use Rattle.vale_drive.specs.Running.{after_asks}
use Rattle.vale_drive.proofs.drive.run_each.Given as goal

abbrev pub invariant-loop-ask : goal.invariant-loop-ask
invariant-loop-ask l = record {
  made : l.book ≡ after_asks l.fn.book (take l.ask-index l.asks);
  users : AreUsersOf l.book l.users.items;
  legal : IsLegalRecord l.book;
}
