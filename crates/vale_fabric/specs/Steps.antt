-- What is known of the book between the entering of the turn and the leaving of it.
use Rattle.std.specs.Prelude.{Bool, true, false, ◌≡◌, Result, Ok, Err}
use Rattle.nm_turn.specs.declared.view.TurnStage.TheVariants.{Out}
use Rattle.nm_turn.specs.Shares.{IsWhole}
use Rattle.nm_turn.specs.Passes.{HasAll, Knows, Told, at_stage, listed, new_since}
use Rattle.nm_turn.specs.Turns.{AddsOne}
use Rattle.vale_entry.specs.Legal.{IsLegal}
use Rattle.vale_book.specs.LegalRecords.{IsLegalRecord}
use Rattle.vale_book.specs.Recorded.{Recorded, HadRoom}
use Rattle.vale_fabric.specs.declared.kept.Fixed.{Fixed}
use Rattle.vale_fabric.specs.Roots.{fixed_of, root_of}
use Rattle.vale_fabric.specs.Fabrics.{Knowing, record_in}

-- the pass has entered, and the book, whose history is legal, goes on from what the pass has seen
pub record IsTaken (fixed : Fixed) (v entered : Knowing) (book : Recorded) : Type 0 where
  pub same : record_in fixed book.entries ≡ book
  pub stage : entered ≡ at_stage (Out book.entries) v
  pub knows : Knows root_of book.entries v.seen v.mine
  pub legal : IsLegal book.pool book.entries
  pub roomy : HadRoom book
  pub whole : IsWhole v.part → HasAll book.entries v.seen v.mine

-- an answer is an entry, also an error of which this is said
abbrev pub is_made : {X E : Type 0} → (E → Bool) → Result X E → Bool
is_made said (Ok x) = true
is_made said (Err fault) = said fault

-- the book has one entry more, of a session of the pass, if a call made one, and else those as before
pub record GoesBack (fixed : Fixed) (entered : Knowing) (book : Recorded) (made : Bool) : Type 0 where
  pub fixed_is : fixed_of book ≡ fixed
  pub legal : IsLegalRecord book
  pub same : made ≡ false → book.entries ≡ listed entered.stage
  pub adds : made ≡ true → AddsOne root_of (listed entered.stage) entered.mine book.entries

-- the pass has left, and the book went back with this legal history
pub record IsPutBack (entered w : Knowing) (book : Recorded) : Type 0 where
  pub told : Told root_of entered w book.entries (new_since (listed entered.stage) book.entries)
  pub legal : IsLegal book.pool book.entries
