-- A record that a book may have between two calls.
use Rattle.vale_entry.specs.Legal.{IsLegal}
use Rattle.vale_own.specs.Recorded.{Recorded, HadRoom}

-- its history is legal, and each entry had room
pub record IsLegalRecord (b : Recorded) : Type 0 where
  pub legal : IsLegal b.pool b.entries
  pub roomy : HadRoom b
