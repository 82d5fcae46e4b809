-- What a call that may be refused by an entry tells, or by none.
use Rattle.std.proofs.Common.{ℕ, ◌+◌, ◌≡◌, take, drop, Result, Ok, Err, OnOk, IfOk, sym, subst}
use Rattle.nm_region.specs.Buffers.{indices_of}
use Rattle.nm_types.specs.declared.fault.OpenFault.{OpenFault}
use Rattle.nm_types.specs.declared.fault.OpenFault.TheVariants.{BadSize, SwitchesFull, PortsFull, NameTaken, NoBuffers, RecordFull, NoMemory}
use Rattle.nm_types.specs.declared.fault.WatchFault.{WatchFault}
use Rattle.nm_types.specs.declared.fault.WatchFault.TheVariants as watches
use Rattle.vale_entry.specs.declared.entry.Ask.{Ask}
use Rattle.vale_entry.specs.declared.entry.Reply.TheVariants as replies
use Rattle.vale_entry.specs.Transcript.{is_refusal}
use Rattle.vale_steps.specs.declared.opening.Opened.{Opened}
use Rattle.vale_book.specs.BookView.{AreOf}
use Rattle.vale_book.specs.Recorded.{Recorded, standing, IsRecordedAs}
use Rattle.vale_book.specs.OpenAnswers.{IsUnopened}
use Rattle.vale_book.specs.WatchAnswers.{IsUnwatched}
use Rattle.vale_fabric.specs.declared.kept.Fixed.{Fixed}
use Rattle.vale_fabric.specs.Fabrics.{Knowing, before_in}
use Rattle.vale_fabric.specs.Ports.{Hands, OpensNot, WatchesNot, is_said}
use Rattle.vale_fabric.specs.Steps.{IsTaken, IsPutBack}
use Rattle.vale_fabric.proofs.Acting.{ActsIf, acted, acts-as, answers-as}
use Rattle.vale_fabric.proofs.Making.{refused}

pub opens-act : (old new : Recorded) (ask : Ask) (fault : OpenFault) → IsUnopened old new ask fault → ActsIf (is_refusal fault) old new ask
opens-act old new ask BadSize u = acts-as (replies.Refused BadSize) u
opens-act old new ask SwitchesFull u = acts-as (replies.Refused SwitchesFull) u
opens-act old new ask PortsFull u = acts-as (replies.Refused PortsFull) u
opens-act old new ask NameTaken u = acts-as (replies.Refused NameTaken) u
opens-act old new ask (NoBuffers want have) u = acts-as (replies.Refused (NoBuffers want have)) u
opens-act old new ask (RecordFull what used want) u = u.0
opens-act old new ask NoMemory u = u.0

pub opens-not : {fixed : Fixed} {v entered w : Knowing} {old new : Recorded} (ask : Ask) (fault : OpenFault) → IsTaken fixed v entered old → IsPutBack entered w new
    → IsUnopened old new ask fault → OpensNot fixed v w ask fault
opens-not ask BadSize taken back u = answers-as taken back (replies.Refused BadSize) u
opens-not ask SwitchesFull taken back u = answers-as taken back (replies.Refused SwitchesFull) u
opens-not ask PortsFull taken back u = answers-as taken back (replies.Refused PortsFull) u
opens-not ask NameTaken taken back u = answers-as taken back (replies.Refused NameTaken) u
opens-not ask (NoBuffers want have) taken back u = answers-as taken back (replies.Refused (NoBuffers want have)) u
opens-not ask (RecordFull what used want) taken back u = refused taken u.0 u.1 back
opens-not ask NoMemory taken back u = refused taken u.0 u.1 back

-- the same of a watch

pub watches-act : (old new : Recorded) (ask : Ask) (fault : WatchFault) → IsUnwatched old new ask fault → ActsIf (is_said fault) old new ask
watches-act old new ask watches.NoTarget u = acts-as replies.NoTarget u
watches-act old new ask (watches.Watched by) u = acts-as (replies.Watched by) u
watches-act old new ask (watches.RecordFull what used want) u = u.0
watches-act old new ask watches.NoMemory u = u.0

pub watches-not : {fixed : Fixed} {v entered w : Knowing} {old new : Recorded} (ask : Ask) (fault : WatchFault) → IsTaken fixed v entered old → IsPutBack entered w new
    → IsUnwatched old new ask fault → WatchesNot fixed v w ask fault
watches-not ask watches.NoTarget taken back u = answers-as taken back replies.NoTarget u
watches-not ask (watches.Watched by) taken back u = answers-as taken back (replies.Watched by) u
watches-not ask (watches.RecordFull what used want) taken back u = refused taken u.0 u.1 back
watches-not ask watches.NoMemory taken back u = refused taken u.0 u.1 back

-- what an opening hands out
pub hands-on : {fixed : Fixed} {v entered w : Knowing} {old new : Recorded} (ask : Ask) (tx rx extra : ℕ) (r : Result Opened OpenFault) → IsTaken fixed v entered old → IsPutBack entered w new
    → OnOk r (IsRecordedAs old new ask replies.Opened) → IfOk r (λ (o : Opened). indices_of o.tx.items ≡ take tx (standing old).holdings.free) → IfOk r (λ (o : Opened). o.rx.items ≡ take rx (drop tx (standing old).holdings.free))
    → IfOk r (λ (o : Opened). indices_of o.extra.items ≡ take extra (drop (tx + rx) (standing old).holdings.free)) → IfOk r (λ (o : Opened). AreOf old.region o.tx.items × AreOf old.region o.extra.items)
    → IfOk r (Hands (before_in fixed w) tx rx extra)
hands-on ask tx rx extra (Ok o) taken back is tx_are rx_are extra_are region =
    subst (λ (b : Recorded). Hands b tx rx extra o) (sym (acted taken back (acts-as replies.Opened is)).was) (record { tx_are = tx_are; rx_are = rx_are; extra_are = extra_are; region_is = region })
hands-on ask tx rx extra (Err fault) taken back is tx_are rx_are extra_are region = tt
