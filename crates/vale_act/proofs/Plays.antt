-- A whole script, from new seats to those that all users have left.
use Rattle.std.proofs.Common.{◌≡◌, ℕ, zero, suc, List, [], ◌∷◌, ◌++◌, length, slice_get, Some, Result, Ok, Err, IfOk, OnOk, Vec, refl, sym, ap, ◌∙◌, subst}
use Rattle.std.specs.Prelude.{flat_map}
use Rattle.vale_fabric.specs.declared.fabric.Fabric.{Fabric}
use Rattle.vale_fabric.specs.Fabrics.{Knowing}
use Rattle.vale_act.specs.Units.{IsOn, knows_at}
use Rattle.vale_act.specs.Seats.{AllAre, AllOn, AreNew, IsEmpty}
use Rattle.vale_act.specs.declared.seat.Seat.{Seat}

pub new-on : (fabric : Fabric) (count : ℕ) (seats : List Seat) → AreNew count seats → AllOn fabric seats
new-on fabric count seats new place seat at = subst (IsOn fabric) (sym (new.away place seat at)) tt

both-none : {X : Type 0} (xs ys : List X) → xs ++ ys ≡ [] → (xs ≡ []) × (ys ≡ [])
both-none [] ys none = (refl, none)
both-none (x ∷ xs) ys none = absurd cc

pub all-empty : (seats : List Seat) → flat_map knows_at seats ≡ [] → AllAre IsEmpty seats
all-empty [] none place seat at = absurd cc
all-empty (first ∷ seats) none zero seat at =
    let is : first ≡ seat = cc in
    subst (λ (s : Seat). knows_at s ≡ []) is (both-none (knows_at first) (flat_map knows_at seats) none).0
all-empty (first ∷ seats) none (suc place) seat at = all-empty seats (both-none (knows_at first) (flat_map knows_at seats) none).1 place seat at
