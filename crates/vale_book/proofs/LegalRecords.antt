-- A record stays legal: with the entry of an ask for which it had room, and as it is.
use Rattle.std.proofs.Common.{◌≡◌, ap, sym, subst, refl, Option, Some, None, option_map}
use Rattle.vale_entry.specs.declared.entry.Ask.{Ask}
use Rattle.vale_entry.specs.Legal.{Outcome, step, session_and_reply, Follows, IsLegal}
use Rattle.vale_entry.proofs.Worlds.{legal-push}
use Rattle.vale_own.specs.Recorded.{Recorded, standing, entry_of, after_outcome, after_ask, HasRoom}
use Rattle.vale_book.specs.LegalRecords.{IsLegalRecord}
use Rattle.vale_own.proofs.Rooms.{step-recorded, had-after}

pub legal-after : (before after : Recorded) (ask : Ask) → IsLegalRecord before → after ≡ after_ask before ask → HasRoom before ask → IsLegalRecord after
legal-after before after ask was grown room =
    record {
      legal = subst (λ (r : Recorded). IsLegal r.pool r.entries) (sym grown) (by_outcome (step (standing before) ask) refl);
      roomy = had-after before after ask was.roomy grown room;
    }
  where
    by_outcome : (found : Option Outcome) → step (standing before) ask ≡ found → IsLegal (after_outcome before ask found).pool (after_outcome before ask found).entries
    by_outcome None is = was.legal
    by_outcome (Some made) is =
        let follows : Follows (standing before) (entry_of ask made) = ap (option_map session_and_reply) (step-recorded (standing before) ask made is) in
        legal-push before.pool before.entries (entry_of ask made) was.legal follows

pub legal-still : {before after : Recorded} → IsLegalRecord before → after ≡ before → IsLegalRecord after
legal-still was same = subst IsLegalRecord (sym same) was
