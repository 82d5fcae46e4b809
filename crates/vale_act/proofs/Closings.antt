-- Users leave one after another, and one unit's user at its seat among all.
use Rattle.std.proofs.Common.{◌≡◌, ℕ, zero, suc, ◌+◌, ◌-◌, ◌<◌, ◌≤◌, ◌⊎◌, inl, inr, ◌==◌, Bool, true, false, cond, List, [], ◌∷◌, ◌++◌, map, length, slice_get, slice_set, Option, Some, None, Result, Ok, Err, OnOk, IfErr, refl, sym, ap, ◌∙◌, subst, arith, le_refl}
use Rattle.std.specs.Prelude.{flat_map}
use Rattle.std.specs.List.{AllByRecursion, range_with_len}
use Rattle.std.proofs.lemmas.Bool.{ne_eqb}
use Rattle.std.proofs.lemmas.Option.{slice_get_within}
use mathlib.Core.List.{IsPrefix}
use lib.ListN.{length-map}
use Rattle.std.proofs.lemmas.List.{length-append}
use Rattle.std.proofs.lemmas.List.FromFn.{length-range_with_len}
use Rattle.nm_turn.specs.Numbered.{numbers}
use Rattle.nm_turn.proofs.Prefixes.{prefix_self, prefix_trans, prefix_length}
use Rattle.nm_types.specs.declared.fault.StepFault.{StepFault}
use Rattle.nm_types.specs.declared.fault.StepFault.TheVariants.{RecordFull, NoMemory}
use Rattle.vale_entry.proofs.Counting.{count_of, count_of-cons}
use Rattle.vale_fabric.specs.declared.fabric.Fabric.{Fabric}
use Rattle.vale_fabric.specs.declared.kept.Fixed.{Fixed}
use Rattle.vale_fabric.specs.Fabrics.{Knowing, fixed_in}
use Rattle.vale_script.specs.Script.{Program}
use Rattle.vale_script.specs.declared.script.Line.{Line}
use Rattle.vale_script.specs.declared.script.Unit.TheVariants as parts
use Rattle.vale_replay.specs.Joined.{IsWithin}
use Rattle.vale_replay.specs.Machine.{Machine, closing_tasks}
use Rattle.vale_replay.specs.Replay.{ScriptUnit, UnitShare, closing_unit, share_of, shares_of, times_among, units_of, user_count}
use Rattle.vale_replay.specs.Tasks.{Captures, Task, records_of}
use Rattle.vale_replay.proofs.Members.{among-cons}
use Rattle.vale_act.specs.Units.{HavePlayed, PlaysUnit, StopsUnit, all_know, knows_at, times_made}
use Rattle.vale_act.specs.Seats.{AllOn, AreSeated, Closes, ClosesAll, FullStop, IsHeld, IsSeated, IsUnitStop, LineAt, PlaysAlone, StopsAlone, UnitAt, line_tasks}
use Rattle.vale_act.specs.declared.seat.Seat.{Seat}
use Rattle.vale_act.specs.declared.seat.Seat.TheVariants.{Away, There, Gone}
use Rattle.vale_act.proofs.AllSeats.{all-set, get-set, get-else, length-as, some-is}
use Rattle.vale_act.proofs.Held.{held-set}
use Rattle.vale_act.proofs.SharesCounts.{made-share}
use Rattle.vale_act.proofs.SharesOne.{share-unit, share-stops}
use Rattle.vale_act.proofs.UnitTurns.{unit-played}

-- no entry of a range is one of those before
within-none : (first last n : ℕ) (ns : List ℕ) → n ≤ first → AllByRecursion (IsWithin first last) ns → count_of n ns ≡ 0
within-none first last n [] low all = refl
within-none first last n (m ∷ ns) low all =
    let up = all.0.0 in
    let miss : (m == n) ≡ false = ne_eqb m n (λ e. omega (arith, e, up, low)) in
    let rest = within-none first last n ns low all.1 in
    count_of-cons n m ns ∙ (ap (λ (b : Bool). cond {A = ℕ} b 1 0 + count_of n ns) miss ∙ omega (arith, rest))

none-among : (first last n : ℕ) (ns : List ℕ) → n ≤ first → AllByRecursion (IsWithin first last) ns → times_among n (ns ∷ []) ≡ 0
none-among first last n ns low all =
    let one : times_among n (ns ∷ []) ≡ count_of n ns + 0 = among-cons n ns [] in
    let two = within-none first last n ns low all in
    omega (arith, one, two)

-- ---- one user among all

pub alone-unit : (pool : ℕ) (share : UnitShare) (v w : Knowing) (seats : List Seat) (place : ℕ) (before after : Seat) → share.user ≡ place + 1 → slice_get seats place ≡ Some before → IsPrefix v.seen w.seen
    → PlaysAlone pool share.user share.tasks v w before after → PlaysUnit pool (share ∷ []) v w seats (slice_set seats place after)
alone-unit pool share v w seats place before after is here begins alone =
    let at : share.user - 1 ≡ place = omega (arith, is) in
    let there : slice_get seats (share.user - 1) ≡ Some before = ap (slice_get seats) at ∙ here in
    subst (λ (k : ℕ). PlaysUnit pool (share ∷ []) v w seats (slice_set seats k after)) at
    (share-unit pool share v w seats before after there (omega (arith, is)) begins alone.plays alone.made)

alone-stop : (fixed : Fixed) (share : UnitShare) (v w : Knowing) (seats : List Seat) (place : ℕ) (before after : Seat) → share.user ≡ place + 1 → slice_get seats place ≡ Some before → IsPrefix v.seen w.seen
    → (fault : StepFault) → StopsAlone fixed share.user share.tasks v w before after fault → IsUnitStop fixed (share ∷ []) v w seats (slice_set seats place after) fault
alone-stop fixed share v w seats place before after is here begins NoMemory alone = tt
alone-stop fixed share v w seats place before after is here begins (RecordFull what used want) alone =
    let at : share.user - 1 ≡ place = omega (arith, is) in
    let there : slice_get seats (share.user - 1) ≡ Some before = ap (slice_get seats) at ∙ here in
    record {
      user = share.user;
      count = alone.count;
      call = alone.call;
      stops = subst (λ (k : ℕ). StopsUnit fixed (share ∷ []) share.user alone.count alone.call (RecordFull what used want) v w seats (slice_set seats k after)) at
          (share-stops fixed share alone.count alone.call (RecordFull what used want) v w seats before after there (omega (arith, is)) begins alone.stops alone.made alone.forward alone.seen alone.refusal);
    }

pub single-at : (fabric : Fabric) (records : List ℕ → List (List ℕ)) (line : Line) (v w : Knowing) (seats : List Seat) (place : ℕ) (before after : Seat) (done : Result (Unit {0}) StepFault) → line.user ≡ place + 1 → slice_get seats place ≡ Some before
    → AreSeated seats → LineAt (fixed_in fabric) line.user (line_tasks records line.act) v w before after done
    → UnitAt (fixed_in fabric) (shares_of records (length seats) (parts.Single line)) v w seats (slice_set seats place after) done
single-at fabric records line v w seats place before after done is here seated at = record {
  len = length-as seats place after;
  seated = all-set (λ k. IsSeated (k + 1)) seats place after seated (subst (λ (n : ℕ). IsSeated n after) is at.seat);
  begins = at.begins;
  held = held-set v w seats place before after here at.held;
  plays = by-ok done at.plays;
  stops = by-err done at.stops;
}
  where
    by-ok : (r : Result (Unit {0}) StepFault) → OnOk r (PlaysAlone (fixed_in fabric).pool line.user (line_tasks records line.act) v w before after)
        → OnOk r (PlaysUnit (fixed_in fabric).pool (shares_of records (length seats) (parts.Single line)) v w seats (slice_set seats place after))
    by-ok (Ok x) p = alone-unit (fixed_in fabric).pool (share_of records line.user (line.act ∷ [])) v w seats place before after is here at.begins p
    by-ok (Err e) p = tt

    by-err : (r : Result (Unit {0}) StepFault) → IfErr r (StopsAlone (fixed_in fabric) line.user (line_tasks records line.act) v w before after)
        → IfErr r (IsUnitStop (fixed_in fabric) (shares_of records (length seats) (parts.Single line)) v w seats (slice_set seats place after))
    by-err (Ok x) p = tt
    by-err (Err e) p = alone-stop (fixed_in fabric) (share_of records line.user (line.act ∷ [])) v w seats place before after is here at.begins e p

-- ---- the closing units

behind : {X : Type 0} (xs ys : List X) (i : ℕ) → slice_get (xs ++ ys) (length xs + i) ≡ slice_get ys i
behind [] ys i = let e : 0 + i ≡ i = omega arith in ap (slice_get ys) e
behind (x ∷ xs) ys i = let e : suc (length xs) + i ≡ suc (length xs + i) = omega arith in ap (slice_get (x ∷ (xs ++ ys))) e ∙ behind xs ys i

in-range : (first n i : ℕ) → i < n → slice_get (map closing_unit (range_with_len first n)) i ≡ Some (closing_unit (first + i))
in-range first zero i less = absurd (omega (arith, less))
in-range first (suc n) zero less = let e : first ≡ first + 0 = omega arith in ap (λ (k : ℕ). Some (closing_unit k)) e
in-range first (suc n) (suc i) less =
    let e : first + 1 + i ≡ first + suc i = omega arith in
    in-range (first + 1) n i (omega (arith, less)) ∙ ap (λ (k : ℕ). Some (closing_unit k)) e

closing-at : (program : Program) (captures : Captures) (place : ℕ) → place < user_count program → slice_get (units_of program captures) (length program.units + place) ≡ Some (closing_unit (place + 1))
closing-at program captures place less =
    let front = map (shares_of (records_of program.files captures) (user_count program)) program.units in
    let back = map closing_unit (range_with_len 1 (user_count program)) in
    let long : length front ≡ length program.units = length-map program.units (shares_of (records_of program.files captures) (user_count program)) in
    let e : 1 + place ≡ place + 1 = omega arith in
    ap (λ (n : ℕ). slice_get (front ++ back) (n + place)) (sym long) ∙ (behind front back place ∙ (in-range 1 (user_count program) place less ∙ ap (λ (k : ℕ). Some (closing_unit k)) e))

all-units : (program : Program) (captures : Captures) → length (units_of program captures) ≡ length program.units + user_count program
all-units program captures =
    let front = map (shares_of (records_of program.files captures) (user_count program)) program.units in
    let back = map closing_unit (range_with_len 1 (user_count program)) in
    let one : length front ≡ length program.units = length-map program.units (shares_of (records_of program.files captures) (user_count program)) in
    let two : length back ≡ length (range_with_len 1 (user_count program)) = length-map (range_with_len 1 (user_count program)) closing_unit in
    let three = length-range_with_len 1 (user_count program) in
    let all = length-append front back in
    omega (arith, one, two, three, all)

-- ---- users leave one after another

pub record Closing (fabric : Fabric) (v w : Knowing) (start now : List Seat) (place : ℕ) : Type 0 where
  pub len : length now ≡ length start
  pub place_in : place ≤ length start
  pub begins : IsPrefix v.seen w.seen
  pub held : IsHeld v (flat_map knows_at start) → IsHeld w (flat_map knows_at now)
  pub gone : (k : ℕ) (seat : Seat) → k < place → slice_get now k ≡ Some seat → knows_at seat ≡ []
  pub left : (k : ℕ) → place ≤ k → slice_get now k ≡ slice_get start k
  pub made : (n : ℕ) → n ≤ length v.seen → times_made n (all_know w now) ≡ times_made n (all_know v start)
  pub plays : (program : Program) (captures : Captures) → program.pool ≡ (fixed_in fabric).pool → user_count program ≡ length start
      → HavePlayed program captures (length program.units) v start → HavePlayed program captures (length program.units + place) w now

pub closing-none : (fabric : Fabric) (v : Knowing) (start : List Seat) → Closing fabric v v start start 0
closing-none fabric v start = record {
  len = refl;
  place_in = omega arith;
  begins = prefix_self v.seen;
  held = λ h. h;
  gone = λ k seat low at. absurd (omega (arith, low));
  left = λ k low. refl;
  made = λ n low. refl;
  plays = λ program captures same count played. let e : length program.units ≡ length program.units + 0 = omega arith in subst (λ (n : ℕ). HavePlayed program captures n v start) e played;
}

pub closing-set : (fabric : Fabric) (v u w : Knowing) (start now : List Seat) (place : ℕ) (before after : Seat) → slice_get now place ≡ Some before → AreSeated start
    → Closing fabric v u start now place → Closes (fixed_in fabric).pool u w before after → Closing fabric v w start (slice_set now place after) (place + 1)
closing-set fabric v u w start now place before after here seated so closes =
    let pool = (fixed_in fabric).pool in
    let seat = seated place before (sym (so.left place (le_refl place)) ∙ here) in
    let alone = closes.plays (place + 1) seat in
    let within = slice_get_within now place before here in
    let long = so.len in
    record {
      len = length-as now place after ∙ so.len;
      place_in = omega (arith, within, long);
      begins = prefix_trans v.seen u.seen w.seen so.begins closes.begins;
      held = λ h. held-set u w now place before after here closes.held (so.held h);
      gone = λ k x low at. gone-at k x low (get-set now place after k x at);
      left = λ k low. get-else now place after k (λ e. omega (arith, e, low)) ∙ so.left k (omega (arith, low));
      made = λ n low.
          let more = prefix_length v.seen u.seen so.begins in
          let none : times_among n (numbers alone.plays.added ∷ []) ≡ 0 = none-among (length u.seen) (length w.seen) n (numbers alone.plays.added) (omega (arith, low, more)) alone.plays.inside in
          let all = made-share n u w now place before after (numbers alone.plays.added ∷ []) here (alone.made n) in
          let was = so.made n low in
          omega (arith, none, all, was);
      plays = λ program captures same count played.
          let unit : PlaysUnit pool (closing_unit (place + 1)) u w now (slice_set now place after) = alone-unit pool (record { user = place + 1; tasks = closing_tasks }) u w now place before after refl here closes.begins alone in
          let next = unit-played program captures (length program.units + place) (closing_unit (place + 1)) u w now (slice_set now place after)
          (closing-at program captures place (omega (arith, within, long, count))) (so.plays program captures same count played)
          (subst (λ (n : ℕ). PlaysUnit n (closing_unit (place + 1)) u w now (slice_set now place after)) (sym same) unit) in
          let e : length program.units + place + 1 ≡ length program.units + (place + 1) = omega arith in
          subst (λ (n : ℕ). HavePlayed program captures n w (slice_set now place after)) e next;
    }
  where
    gone-at : (k : ℕ) (x : Seat) → k < place + 1 → ((k ≡ place) × (x ≡ after)) ⊎ ((¬ (k ≡ place)) × (slice_get now k ≡ Some x)) → knows_at x ≡ []
    gone-at k x low (inl is) = ap knows_at is.1 ∙ closes.gone
    gone-at k x low (inr other) = let apart = other.0 in so.gone k x (omega (arith, low, apart)) other.1

none-left : (seats : List Seat) → ((k : ℕ) (seat : Seat) → slice_get seats k ≡ Some seat → knows_at seat ≡ []) → flat_map knows_at seats ≡ []
none-left [] all = refl
none-left (seat ∷ seats) all = ap (λ (l : List Knowing). l ++ flat_map knows_at seats) (all 0 seat refl) ∙ none-left seats (λ k x at. all (suc k) x at)

pub closing-all : (fabric : Fabric) (v w : Knowing) (start now : List Seat) (place : ℕ) → place ≡ length start → Closing fabric v w start now place → ClosesAll (fixed_in fabric).pool v w start now
closing-all fabric v w start now place is so = record {
  begins = so.begins;
  held = so.held;
  gone = none-left now (λ k seat at. let within = slice_get_within now k seat at in let long = so.len in so.gone k seat (omega (arith, within, long, is)) at);
  made = so.made;
  plays = λ program captures same count played.
      let all = all-units program captures in
      let e : length program.units + place ≡ length (units_of program captures) = omega (arith, all, count, is) in
      subst (λ (n : ℕ). HavePlayed program captures n w now) e (so.plays program captures same count played);
}
