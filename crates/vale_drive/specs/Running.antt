-- Asks that are made one after another.
use Rattle.std.specs.Prelude.{ℕ, ◌≡◌, List, fold, take, slice_get, Some}
use Rattle.nm_types.specs.declared.fault.StepFault.{StepFault}
use Rattle.vale_entry.specs.declared.entry.Ask.{Ask}
use Rattle.vale_book.specs.Recorded.{Recorded, after_ask, IsRefusal}

-- the record after asks one after another, those passed over that are not enabled
abbrev pub after_asks : Recorded → List Ask → Recorded
after_asks b asks = fold after_ask b asks

-- of these asks so many were made, and the next one was refused
pub record IsStopped (old new : Recorded) (asks : List Ask) (fault : StepFault) : Type 0 where
  pub count : ℕ
  pub ask : Ask
  pub made : new ≡ after_asks old (take count asks)
  pub next : slice_get asks count ≡ Some ask
  pub refused : IsRefusal new ask fault
