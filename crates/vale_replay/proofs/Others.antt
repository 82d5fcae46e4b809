-- Entries of others leave the call that a user needs next as it is.
use Rattle.std.proofs.Common.{ℕ, ◌≡◌, List, ◌++◌, slice_get, Option, option_map, sym, ◌∙◌, ap, All}
use Rattle.std.specs.Prelude.{option_and_then}
use Rattle.std.specs.Option.{option_or}
use Rattle.nm_types.specs.declared.id.SessionId.{SessionId}
use Rattle.vale_entry.specs.declared.entry.Ask.{Ask}
use Rattle.vale_entry.specs.declared.entry.Entry.{Entry}
use Rattle.vale_entry.specs.World.{Lot, Offer}
use Rattle.vale_entry.specs.Legal.{standing_of, world_of, IsLegal}
use Rattle.vale_own.specs.Own.{Own, lot_of_lease}
use Rattle.vale_own.specs.Laws.{IsOfOther}
use Rattle.vale_own.proofs.OwnKept.{own-kept, legal-split}
use Rattle.vale_own.proofs.Reading.{first-leases, first-offers}
use Rattle.vale_replay.specs.Machine.{owed_lot, next_offer, done_call, grant_call, settling_call, call_of_tasks}
use Rattle.vale_replay.specs.Laws.{OthersChangeNoCall}

lots-same : (pool : ℕ) (past more : List Entry) (session : ℕ) → IsLegal pool (past ++ more)
    → IsLegal pool past → All (IsOfOther session) more
    → owed_lot (world_of pool (past ++ more)) session ≡ owed_lot (world_of pool past) session
lots-same pool past more session legal before others =
    first-leases pool (past ++ more) session legal ∙ ap (λ (own : Own). option_map lot_of_lease (slice_get own.leases 0)) (own-kept pool past more session legal others) ∙ sym (first-leases pool past session before)

offers-same : (pool : ℕ) (past more : List Entry) (session : ℕ) → IsLegal pool (past ++ more)
    → All (IsOfOther session) more
    → next_offer (world_of pool (past ++ more)) session ≡ next_offer (world_of pool past) session
offers-same pool past more session legal others =
    first-offers (standing_of pool (past ++ more)) session ∙ ap (λ (own : Own). slice_get own.offers 0) (own-kept pool past more session legal others) ∙ sym (first-offers (standing_of pool past) session)

pub settling-same : (pool : ℕ) (past more : List Entry) (session : SessionId)
    → IsLegal pool (past ++ more) → All (IsOfOther session.0) more
    → settling_call (world_of pool (past ++ more)) session ≡ settling_call (world_of pool past) session
settling-same pool past more session legal others =
    let lots = lots-same pool past more session.0 legal (legal-split pool past more legal).0 others in
    let offers = offers-same pool past more session.0 legal others in
    ap (λ (lot : Option Lot). option_or (option_map done_call lot) (option_map grant_call (next_offer (world_of pool (past ++ more)) session.0))) lots
    ∙ ap (λ (offer : Option Offer). option_or (option_map done_call (owed_lot (world_of pool past) session.0)) (option_map grant_call offer)) offers

pub others-change-none : OthersChangeNoCall
others-change-none pool past more user session is legal others =
    ap (λ (s : Option SessionId). option_or (option_and_then (settling_call (world_of pool (past ++ more))) s) (call_of_tasks user user.tasks)) is
    ∙ ap (λ (ask : Option Ask). option_or ask (call_of_tasks user user.tasks)) (settling-same pool past more session legal others)
    ∙ ap (λ (s : Option SessionId). option_or (option_and_then (settling_call (world_of pool past)) s) (call_of_tasks user user.tasks)) (sym is)
