-- What a drive keeps: its book's record is legal, and each session of the book has outside it what is its own.
use Rattle.vale_drive.specs.declared.drive.Drive.TheInside.{Inside}
use Rattle.vale_book.specs.LegalRecords.{IsLegalRecord}
use Rattle.vale_serve.specs.Joined.{AreUsersOf}

pub record IsDrive (d : Inside) : Type 0 where
  pub users_are : AreUsersOf d.book d.users.items
  pub legal : IsLegalRecord d.book
