-- A user's call in what stands of its session.
use Rattle.std.proofs.Common.{ℕ, ◌≡◌, true, ◌&&◌, List, [], ◌∷◌, slice_get, Option, Some, None, refl, ◌∙◌, ap}
use Rattle.std.specs.Prelude.{option_map, option_and_then}
use Rattle.std.specs.Option.{option_or}
use Rattle.nm_types.specs.declared.id.SessionId.{SessionId}
use Rattle.vale_entry.specs.declared.entry.Ask.{Ask}
use Rattle.vale_entry.specs.declared.entry.Entry.{Entry}
use Rattle.vale_entry.specs.World.{Lot, Offer}
use Rattle.vale_entry.specs.Legal.{standing_of, world_of, IsLegal}
use Rattle.vale_own.specs.Own.{HeldLot, own_of, is_empty, is_settled_own, lot_of_lease}
use Rattle.vale_own.proofs.Reading.{first-leases, first-offers}
use Rattle.vale_fabric.specs.Settling.{settling_by}
use Rattle.vale_replay.specs.Machine.{Machine, next_offer, done_call, grant_call, settling_call, call_of_tasks, next_call}
use Rattle.vale_player.specs.Laws.{SettlingIsOwn}

first-settling : (leases : List HeldLot) (offers : List Offer)
    → option_or (option_map done_call (option_map lot_of_lease (slice_get leases 0))) (option_map grant_call (slice_get offers 0)) ≡ settling_by leases offers
first-settling [] [] = refl
first-settling [] (offer ∷ offers) = refl
first-settling (lease ∷ leases) offers = refl

pub settling-own : SettlingIsOwn
settling-own pool past session legal =
    let w = world_of pool past in
    let own = own_of session (standing_of pool past) in
    ap (λ (lot : Option Lot). option_or (option_map done_call lot) (option_map grant_call (next_offer w session))) (first-leases pool past session legal)
    ∙ (ap (λ (offer : Option Offer). option_or (option_map done_call (option_map lot_of_lease (slice_get own.leases 0))) (option_map grant_call offer)) (first-offers (standing_of pool past) session)
    ∙ first-settling own.leases own.offers)

-- a settled session needs no call to settle it
none-settling : (leases : List HeldLot) (offers : List Offer) → (is_empty offers && is_empty leases) ≡ true
    → settling_by leases offers ≡ None
none-settling [] [] e = refl
none-settling [] (offer ∷ offers) e = absurd cc
none-settling (lease ∷ leases) [] e = absurd cc
none-settling (lease ∷ leases) (offer ∷ offers) e = absurd cc

pub settled-none : (pool : ℕ) (past : List Entry) (session : ℕ) → IsLegal pool past → is_settled_own (own_of session (standing_of pool past)) ≡ true
    → settling_call (world_of pool past) (record { 0 = session }) ≡ None
settled-none pool past session legal settled =
    let own = own_of session (standing_of pool past) in
    settling-own pool past session legal ∙ none-settling own.leases own.offers settled

-- so the next call of its user is that of its next task
pub task-next : (pool : ℕ) (past : List Entry) (session : ℕ) (user : Machine) → IsLegal pool past → is_settled_own (own_of session (standing_of pool past)) ≡ true
    → user.session ≡ Some (record { 0 = session }) → next_call (world_of pool past) user ≡ call_of_tasks user user.tasks
task-next pool past session user legal settled has =
    ap (λ (x : Option SessionId). option_or (option_and_then (settling_call (world_of pool past)) x) (call_of_tasks user user.tasks)) has
    ∙ ap (λ (ask : Option Ask). option_or ask (call_of_tasks user user.tasks)) (settled-none pool past session legal settled)
