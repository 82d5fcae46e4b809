-- What the calls on ports answer.
use Rattle.std.specs.Prelude.{ℕ, Bool, true, false, ◌≡◌, ◌+◌, ◌<◌, take, drop, Some}
use Rattle.nm_region.specs.Buffers.{indices_of}
use Rattle.nm_types.specs.declared.fault.StepFault.TheVariants as steps
use Rattle.nm_types.specs.declared.fault.OpenFault.{OpenFault}
use Rattle.nm_types.specs.declared.fault.WatchFault.{WatchFault}
use Rattle.nm_types.specs.declared.fault.WatchFault.TheVariants.{NoTarget, Watched, RecordFull, NoMemory}
use Rattle.vale_entry.specs.declared.entry.Ask.{Ask}
use Rattle.vale_entry.specs.declared.entry.Reply.TheVariants as replies
use Rattle.vale_entry.specs.Legal.{reply_to}
use Rattle.vale_steps.specs.declared.opening.Opened.{Opened}
use Rattle.vale_book.specs.BookView.{AreOf}
use Rattle.vale_book.specs.OpenAnswers.{ByFault}
use Rattle.vale_book.specs.Recorded.{Recorded, standing}
use Rattle.vale_fabric.specs.declared.kept.Fixed.{Fixed}
use Rattle.vale_fabric.specs.Fabrics.{Knowing, seen_in, Answers, MakesNone, Refuses}

-- the smallest free buffers of the book: first the transmit ring's, then the receive ring's, then the
-- extra ones
pub record Hands (b : Recorded) (tx rx extra : ℕ) (opened : Opened) : Type 0 where
  pub tx_are : indices_of opened.tx.items ≡ take tx (standing b).holdings.free
  pub rx_are : opened.rx.items ≡ take rx (drop tx (standing b).holdings.free)
  pub extra_are : indices_of opened.extra.items ≡ take extra (drop (tx + rx) (standing b).holdings.free)
  pub region_is : AreOf b.region opened.tx.items × AreOf b.region opened.extra.items

-- an opening that is refused by the name, the sizes or the free buffers is an entry; one for which
-- there is no room or memory is none
abbrev pub OpensNot : Fixed → Knowing → Knowing → Ask → OpenFault → Type 0
OpensNot fixed v w ask fault = ByFault (λ named. Answers fixed v w ask (replies.Refused named)) (Refuses fixed v w ask) fault

-- that no open port has the name, or that it has a monitor, is an entry
abbrev pub WatchesNot : Fixed → Knowing → Knowing → Ask → WatchFault → Type 0
WatchesNot fixed v w ask NoTarget = Answers fixed v w ask replies.NoTarget
WatchesNot fixed v w ask (Watched by) = Answers fixed v w ask (replies.Watched by)
WatchesNot fixed v w ask (RecordFull what used want) = Refuses fixed v w ask (steps.RecordFull what used want)
WatchesNot fixed v w ask NoMemory = Refuses fixed v w ask steps.NoMemory

abbrev pub is_said : WatchFault → Bool
is_said NoTarget = true
is_said (Watched by) = true
is_said (RecordFull what used want) = false
is_said NoMemory = false

-- so many leases of the port are not done, and the call made no entry
pub record Waits (fixed : Fixed) (v w : Knowing) (ask : Ask) (n : ℕ) : Type 0 where
  pub none : MakesNone fixed v w
  pub some : 0 < n
  pub reply_is : reply_to (standing (seen_in fixed w)) ask ≡ Some (replies.LeasesOut n)
