-- Asks that are served, one after another, or refused: what was made, and that the record stays legal.
use Rattle.std.proofs.Common.{ℕ, ◌≡◌, ◌+◌, ◌<◌, List, length, take, get_or, Option, Some, Result, Ok, Err, sym, ◌∙◌, ap, subst}
use Rattle.std.proofs.lemmas.List.Sums.{fold_more}
use Rattle.std.proofs.lemmas.Option.{slice_get-get_or}
use Rattle.nm_types.specs.declared.fault.StepFault.{StepFault}
use Rattle.vale_entry.specs.declared.entry.Ask.{Ask}
use Rattle.vale_entry.specs.declared.entry.Reply.{Reply}
use Rattle.vale_book.specs.Recorded.{Recorded, after_ask, IsRefusal}
use Rattle.vale_book.specs.LegalRecords.{IsLegalRecord}
use Rattle.vale_book.proofs.LegalRecords.{legal-after, legal-still}
use Rattle.vale_serve.specs.Serving.{IsServed}
use Rattle.vale_drive.specs.Running.{after_asks, IsStopped}

pub legal-served : (old new : Recorded) (ask : Ask) (result : Result (Option Reply) StepFault) → IsLegalRecord old → IsServed old new ask result → IsLegalRecord new
legal-served old new ask (Ok reply) was served = legal-after old new ask was served.1 served.2
legal-served old new ask (Err fault) was served = legal-still was served.1

pub made-next : (b now new : Recorded) (asks : List Ask) (i : ℕ) (ask : Ask) → i < length asks → ask ≡ get_or asks i ask → now ≡ after_asks b (take i asks)
    → new ≡ after_ask now ask → new ≡ after_asks b (take (i + 1) asks)
made-next b now new asks i ask within is was made =
    made ∙ (ap (λ (r : Recorded). after_ask r ask) was
    ∙ (ap (λ (a : Ask). after_ask (after_asks b (take i asks)) a) is ∙ sym (fold_more after_ask b asks i ask within)))

pub stopped-at : (b now new : Recorded) (asks : List Ask) (i : ℕ) (ask : Ask) (fault : StepFault) → i < length asks → ask ≡ get_or asks i ask → now ≡ after_asks b (take i asks)
    → IsRefusal now ask fault → new ≡ now → IsStopped b new asks fault
stopped-at b now new asks i ask fault within is was refusal same =
    record {
      count = i;
      ask = ask;
      made = same ∙ was;
      next = slice_get-get_or asks i ask within ∙ ap (λ (a : Ask). let some : Option Ask = Some a in some) (sym is);
      refused = subst (λ (r : Recorded). IsRefusal r ask fault) (sym same) refusal;
    }
