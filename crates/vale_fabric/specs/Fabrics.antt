-- What contracts say of a fabric and its passes.
use Rattle.std.specs.Prelude.{ℕ, true, ◌≡◌, ◌-◌, List, [], ◌∷◌, ◌++◌, length, take, Some, option_map}
use Rattle.nm_turn.specs.declared.pass.Pass.{Pass}
use Rattle.nm_turn.specs.declared.view.PassView.{PassView}
use Rattle.nm_turn.specs.Numbered.{Stands, numbered}
use Rattle.nm_turn.specs.Shares.{IsWhole}
use Rattle.nm_turn.specs.Passes.{Told}
use Rattle.nm_turn.specs.Turns.{view_of, opened, IsPassOf, IsOutside}
use Rattle.nm_types.specs.declared.fault.StepFault.{StepFault}
use Rattle.vale_entry.specs.declared.entry.Ask.{Ask}
use Rattle.vale_entry.specs.declared.entry.Reply.{Reply}
use Rattle.vale_entry.specs.declared.entry.Entry.{Entry}
pub use Rattle.vale_entry.specs.Legal.{entry_by}
use Rattle.vale_entry.specs.Legal.{session_and_reply, step, IsLegal}
use Rattle.vale_own.specs.Asker.{asks}
use Rattle.vale_book.specs.Recorded.{Recorded, standing, IsRefusal, HasRoom}
use Rattle.vale_fabric.specs.declared.kept.Fixed.{Fixed}
use Rattle.vale_fabric.specs.declared.fabric.Fabric.{Fabric}
use Rattle.vale_fabric.specs.Roots.{fixed_of, root_of}

-- what a pass knows: what it has seen, which entries are its own, and its share
abbrev pub Knowing : Type 0
Knowing = PassView Entry Fixed

abbrev pub knowing : Pass Recorded Entry Fixed → Knowing
knowing pass = view_of pass

-- what never changes of the fabric's book
abbrev pub fixed_in : Fabric → Fixed
fixed_in fabric = fixed_of (opened fabric.turn)

-- the pass is of this fabric, has not the turn, and has seen a legal history
abbrev pub IsPassIn : Fabric → Pass Recorded Entry Fixed → Type 0
IsPassIn fabric pass = IsPassOf fixed_of fabric.turn pass × IsOutside pass × IsLegal (fixed_in fabric).pool (knowing pass).seen

-- the fabric's book with these entries
abbrev pub record_in : Fixed → List Entry → Recorded
record_in fixed entries = record { pool = fixed.pool; region = fixed.region; limits = fixed.limits; entries = entries }

-- the book as the pass has seen it
abbrev pub seen_in : Fixed → Knowing → Recorded
seen_in fixed v = record_in fixed v.seen

-- and as it was before the last entry that the pass has seen
abbrev pub earlier : List Entry → List Entry
earlier history = take (length history - 1) history

abbrev pub before_in : Fixed → Knowing → Recorded
before_in fixed v = record_in fixed (earlier v.seen)

-- by what the pass has seen the ask is enabled, and of a session for which the pass speaks
pub record MayAsk (fixed : Fixed) (v : Knowing) (ask : Ask) : Type 0 where
  pub session : ℕ
  pub may : asks (standing (seen_in fixed v)) session ask ≡ true
  pub speaks : Stands session v.mine

-- the call made just the entry of this ask, the last of what is seen and of the pass's own
pub record Makes (fixed : Fixed) (v w : Knowing) (ask : Ask) : Type 0 where
  pub session : ℕ
  pub reply : Reply
  pub seen : w.seen ≡ earlier w.seen ++ entry_by session ask reply ∷ []
  pub told : Told root_of v w w.seen ((length w.seen, entry_by session ask reply) ∷ [])
  pub steps : option_map session_and_reply (step (standing (before_in fixed w)) ask) ≡ Some (session, reply)
  pub room : HasRoom (before_in fixed w) ask
  pub legal : IsLegal fixed.pool w.seen
  pub whole : IsWhole v.part → w.mine ≡ numbered 1 w.seen

-- and answered as its reply says
pub record Answers (fixed : Fixed) (v w : Knowing) (ask : Ask) (reply : Reply) : Type 0 where
  pub makes : Makes fixed v w ask
  pub reply_is : makes.reply ≡ reply

-- the call made no entry
pub record MakesNone (fixed : Fixed) (v w : Knowing) : Type 0 where
  pub told : Told root_of v w w.seen []
  pub legal : IsLegal fixed.pool w.seen
  pub whole : IsWhole v.part → w.mine ≡ numbered 1 w.seen

-- nor had the history that is seen now room for the ask
pub record Refuses (fixed : Fixed) (v w : Knowing) (ask : Ask) (fault : StepFault) : Type 0 where
  pub none : MakesNone fixed v w
  pub refusal : IsRefusal (seen_in fixed w) ask fault

-- The same of a fabric and its passes.

abbrev pub MayIn : Fabric → Pass Recorded Entry Fixed → Ask → Type 0
MayIn fabric pass ask = MayAsk (fixed_in fabric) (knowing pass) ask

abbrev pub MakesIn : Fabric → Pass Recorded Entry Fixed → Pass Recorded Entry Fixed → Ask → Type 0
MakesIn fabric old new ask = Makes (fixed_in fabric) (knowing old) (knowing new) ask

abbrev pub AnswersIn : Fabric → Pass Recorded Entry Fixed → Pass Recorded Entry Fixed → Ask → Reply → Type 0
AnswersIn fabric old new ask reply = Answers (fixed_in fabric) (knowing old) (knowing new) ask reply

abbrev pub RefusesIn : Fabric → Pass Recorded Entry Fixed → Pass Recorded Entry Fixed → Ask → StepFault → Type 0
RefusesIn fabric old new ask fault = Refuses (fixed_in fabric) (knowing old) (knowing new) ask fault

-- the book as the pass has seen it, and before the last entry that it has seen
abbrev pub seen_by : Fabric → Pass Recorded Entry Fixed → Recorded
seen_by fabric pass = seen_in (fixed_in fabric) (knowing pass)

abbrev pub before : Fabric → Pass Recorded Entry Fixed → Recorded
before fabric pass = before_in (fixed_in fabric) (knowing pass)
