-- Buffers that stand nowhere come into the empty places of a run: a hold out of which they go one after
-- another.
use Rattle.std.proofs.Common.{ℕ, zero, suc, nat_le, ◌≡◌, ◌≢◌, ◌<◌, ◌≤◌, ◌⊎◌, Bool, true, false, nat_eq, if◌then◌else◌, List, [], ◌∷◌, ◌++◌, length, set, reverse, Option, Some, None, inl, inr, refl, sym, ◌∙◌, ap, arith}
use Rattle.std.specs.List.{AllByRecursion, IsDistinct}
use Rattle.std.proofs.lemmas.Bool.{cases_Bool}
use Rattle.std.proofs.lemmas.List.{length-set, get_or-set_same, get_or-set_other, reverse-append}
use Rattle.std.proofs.lemmas.Option.{same_Some}
use Rattle.nm_types.specs.declared.id.PortId.{PortId}
use Rattle.nm_types.specs.declared.id.Side.{Side}
use Rattle.nm_types.specs.declared.id.Side.TheVariants.{Tx, Rx}
use Rattle.nm_types.specs.declared.place.Place.{Place}
use Rattle.nm_types.specs.Places.{Held, held_at, is_same_place}
use Rattle.nm_types.specs.Positions.{step_on, dist}
use Rattle.nm_types.specs.Buffers.{IsBufferIndex}
use Rattle.nm_types.proofs.RingSteps.{dist-step_on}
use Rattle.nm_types.proofs.Lists.{each-joined}
use Rattle.nm_types.proofs.Tests.{turned, false_true, same_true}
use Rattle.nm_region.specs.Buffers.{Buffer, indices_of}
use Rattle.nm_hold.specs.declared.standing.Standing.{Standing}
use Rattle.nm_hold.specs.Offsets.{has_place}
use Rattle.nm_hold.specs.Holds.{HoldState, places_in, buffers_of, index_at, standing_at, stands_at, cell_at, with_cell, IsHold, StandsIn}
use Rattle.nm_hold.proofs.Spots.{nat_eq-is, same_place-is, same_place-refl}
use Rattle.nm_port.specs.Filling.{placed, IsAway}
use Rattle.nm_port.specs.Sides.{place_on}
use Rattle.nm_port.specs.Lending.{IsOut, Run, place_of_run, AreOut}
use Rattle.nm_port.proofs.Filling.{within_pool}
use Rattle.nm_own.proofs.PutOne.{stands_here, stood_there}

same_turned : (p q : Place) → is_same_place p q ≡ is_same_place q p
same_turned p q = elim (cases_Bool (is_same_place p q)) [
  | inl same ↦ (let e = same_place-is p q same in rw (← e) (same_place-refl p ∙ sym (same_place-refl p)))
  | inr other ↦ elim (cases_Bool (is_same_place q p)) [
    | inl same ↦ absurd (let e = same_place-is q p same in false_true (sym other ∙ rw e (same_place-refl p)))
    | inr differs ↦ other ∙ sym differs
  ]
]

-- what is in a place, once one buffer more stands in an empty one
held_more : (t : Held) (held : List Held) (q : Place) → held_at (t ∷ held) q ≡ (if is_same_place q t.place then Some t.buffer else held_at held q)
held_more t held q = elim (cases_Bool (is_same_place q t.place)) [
  | inl same ↦ rw same refl
  | inr other ↦ rw other refl
]

not_first : (t : Held) (held : List Held) (q : Place) → held_at (t ∷ held) q ≡ None → (is_same_place q t.place ≡ false) × (held_at held q ≡ None)
not_first t held q none = elim (cases_Bool (is_same_place q t.place)) [
  | inl same ↦ absurd (let some = rw same at none in cc)
  | inr other ↦ (other, rw other at none)
]

put_held : (cells : List (Option Standing)) (i : ℕ) (s : Standing) (q : Place) → cell_at cells i ≡ None → i < length cells → held_at (places_in cells) s.home.place ≡ None
    → held_at (places_in (set cells i (Some s))) q ≡ (if is_same_place s.home.place q then Some s.buf.index else held_at (places_in cells) q)
put_held [] i s q none within empty = absurd (omega arith)
put_held (c ∷ cells) zero s q none within empty =
    rw none (held_more (record { place = s.home.place; buffer = s.buf.index }) (places_in cells) q
    ∙ ap (λ (b : Bool). if b then Some s.buf.index else held_at (places_in cells) q) (same_turned q s.home.place))
put_held (None ∷ cells) (suc i) s q none within empty = put_held cells i s q none (omega arith) empty
put_held (Some t ∷ cells) (suc i) s q none within empty =
    let first : Held = record { place = t.home.place; buffer = t.buf.index } in
    let apart = not_first first (places_in cells) s.home.place empty in
    let rest = put_held cells i s q none (omega arith) apart.1 in
    held_more first (places_in (set cells i (Some s))) q
    ∙ (ap (λ (o : Option ℕ). if is_same_place q t.home.place then Some t.buf.index else o) rest
    ∙ (swap apart.0 (cases_Bool (is_same_place q t.home.place))
    ∙ ap (λ (o : Option ℕ). if is_same_place s.home.place q then Some s.buf.index else o) (sym (held_more first (places_in cells) q))))
  where
    swap : is_same_place s.home.place t.home.place ≡ false → (is_same_place q t.home.place ≡ true) ⊎ (is_same_place q t.home.place ≡ false)
        → (if is_same_place q t.home.place then Some t.buf.index else (if is_same_place s.home.place q then Some s.buf.index else held_at (places_in cells) q))
        ≡ (if is_same_place s.home.place q then Some s.buf.index else (if is_same_place q t.home.place then Some t.buf.index else held_at (places_in cells) q))
    swap other (inl same) =
        let there : is_same_place s.home.place q ≡ false = ap (is_same_place s.home.place) (same_place-is q t.home.place same) ∙ other in
        rw (same, there) refl
    swap other (inr differs) = rw differs refl

-- cells that are set and emptied again
set_none : (cells : List (Option Standing)) (i : ℕ) (s : Standing) → cell_at cells i ≡ None → set (set cells i (Some s)) i None ≡ cells
set_none [] i s none = refl
set_none (c ∷ cells) zero s none = ap (λ (o : Option Standing). o ∷ cells) (sym none)
set_none (c ∷ cells) (suc i) s none = ap (λ (cs : List (Option Standing)). c ∷ cs) (set_none cells i s none)

-- one buffer comes
module _ (now : HoldState) (q : Place) (named : Bool) (buf : Buffer) (is : IsHold now) (belongs : has_place now.ports q ≡ true) (empty : index_at now q ≡ None)
    (index : IsBufferIndex (buffers_of now) buf.index) (apart : standing_at now buf.index ≡ None) where
  abbrev here : Standing
  here = placed q named buf

  abbrev mid : HoldState
  mid = with_cell now buf.index (Some here)

  within : buf.index < length now.cells
  within = within_pool now buf.index is index

  stands : standing_at mid buf.index ≡ Some here
  stands = get_or-set_same now.cells buf.index (Some here) None within

  pub index_mid : (p : Place) → index_at mid p ≡ (if is_same_place q p then Some buf.index else index_at now p)
  index_mid p = put_held now.cells buf.index here p apart within empty

  not_there : (p : Place) (i : ℕ) → index_at now p ≡ Some i → is_same_place q p ≡ false
  not_there p i some = elim (cases_Bool (is_same_place q p)) [
    | inl same ↦ absurd (let none = sym some ∙ (ap (index_at now) (sym (same_place-is q p same)) ∙ empty) in cc)
    | inr other ↦ other
  ]

  standing_mid : (i : ℕ) (s : Standing) → standing_at mid i ≡ Some s → StandsIn mid i s
  standing_mid i s there = elim (cases_Bool (nat_eq buf.index i)) [
    | inl same ↦ (let e = nat_eq-is buf.index i same in
        let is_here : here ≡ s = stands_here now mid q named buf is index refl i s there same in
        let low : 2 ≤ buf.index = index.0 in
        rw (← is_here, ← e) (record { low = low; index = refl; there = index_mid q ∙ ap (λ (b : Bool). if b then Some buf.index else index_at now q) (same_place-refl q); belongs = belongs }))
    | inr other ↦ (let old = is.standing i s (stood_there now mid q named buf is index refl i s there other) in
        record { low = old.low; index = old.index; there = index_mid s.home.place ∙ (ap (λ (b : Bool). if b then Some buf.index else index_at now s.home.place) (not_there s.home.place i old.there) ∙ old.there); belongs = old.belongs })
  ]

  held_mid : (p : Place) (i : ℕ) → index_at mid p ≡ Some i → stands_at p (standing_at mid i) ≡ true
  held_mid p i e = elim (cases_Bool (is_same_place q p)) [
    | inl same ↦ (let at : Some buf.index ≡ Some i = sym (index_mid p ∙ ap (λ (b : Bool). if b then Some buf.index else index_at now p) same) ∙ e in
        let number : buf.index ≡ i = same_Some buf.index i at in
        ap (λ (n : ℕ). stands_at p (standing_at mid n)) (sym number) ∙ (ap (stands_at p) stands ∙ (same_turned p q ∙ same)))
    | inr other ↦ (let old : index_at now p ≡ Some i = sym (index_mid p ∙ ap (λ (b : Bool). if b then Some buf.index else index_at now p) other) ∙ e in
        let stood = is.held p i old in
        let differs : i ≢ buf.index = (λ same. false_true (sym (ap (stands_at p) apart) ∙ (ap (λ (n : ℕ). stands_at p (standing_at now n)) (sym same) ∙ stood))) in
        ap (stands_at p) (get_or-set_other now.cells buf.index i (Some here) None differs) ∙ stood)
  ]

  pub hold_mid : IsHold mid
  hold_mid = record {
    pool = rw (length-set now.cells buf.index (Some here)) is.pool;
    sizes = is.sizes;
    once = is.once;
    standing = standing_mid;
    held = held_mid;
  }

  pub out_of_mid : IsOut mid now q named buf
  out_of_mid = record {
    stood = stands;
    cell = ap (λ (cells : List (Option Standing)). record now { cells = cells }) (sym (set_none now.cells buf.index here apart));
    index = λ p. elim (cases_Bool (is_same_place q p)) [
      | inl same ↦ rw same (ap (index_at now) (sym (same_place-is q p same)) ∙ empty)
      | inr other ↦ rw other (sym (index_mid p ∙ ap (λ (b : Bool). if b then Some buf.index else index_at now p) other))
    ];
    was_hold = hold_mid;
    is_hold = is;
  }

-- places of a run are told apart by their positions
place_is : (s : Side) (id : PortId) (a b : ℕ) → place_on s id a ≡ place_on s id b → a ≡ b
place_is Tx id a b e = cc
place_is Rx id a b e = cc

pub run_apart : (run : Run) (j k : ℕ) → run.first < run.size → j < run.size → k < run.size → j ≢ k → is_same_place (place_of_run run j) (place_of_run run k) ≡ false
run_apart run j k within one two other = elim (cases_Bool (is_same_place (place_of_run run j) (place_of_run run k))) [
  | inl same ↦ absurd (other (let at = place_is run.side run.id (step_on run.size run.first j) (step_on run.size run.first k) (same_place-is (place_of_run run j) (place_of_run run k) same) in
      sym (dist-step_on run.size run.first j within one) ∙ (ap (dist run.size run.first) at ∙ dist-step_on run.size run.first k within two)))
  | inr differs ↦ differs
]

-- buffers that can come, the last one first
pub record CanCome (now : HoldState) (run : Run) (bufs : List Buffer) : Type 0 where
  pub is_hold : IsHold now
  pub within : run.first < run.size
  pub few : length bufs ≤ run.size
  pub belongs : (k : ℕ) → k < length bufs → has_place now.ports (place_of_run run k) ≡ true
  pub empty : (k : ℕ) → k < length bufs → index_at now (place_of_run run k) ≡ None
  pub away : AllByRecursion (IsAway now) (indices_of bufs)
  pub once : IsDistinct nat_eq (indices_of bufs)

module _ (now : HoldState) (run : Run) (unnamed : ℕ) (buf : Buffer) (before : List Buffer) (can : CanCome now run (buf ∷ before)) where
  abbrev last : Place
  last = place_of_run run (length before)

  abbrev flag : Bool
  flag = nat_le unnamed (length before)

  few_before : length before < run.size
  few_before = let few = can.few in omega arith

  belongs_last : has_place now.ports last ≡ true
  belongs_last = can.belongs (length before) (omega arith)

  empty_last : index_at now last ≡ None
  empty_last = can.empty (length before) (omega arith)

  abbrev with_last : HoldState
  with_last = with_cell now buf.index (Some (placed last flag buf))

  came_last : IsOut with_last now last flag buf
  came_last = out_of_mid now last flag buf can.is_hold belongs_last empty_last can.away.0.0 can.away.0.1

  apart_from : AllByRecursion (λ y. nat_eq buf.index y ≡ false) (indices_of before) × IsDistinct nat_eq (indices_of before)
  unfolding IsDistinct
  apart_from = can.once

  others_can : CanCome with_last run before
  others_can =
      let few = few_before in record {
        is_hold = hold_mid now last flag buf can.is_hold belongs_last empty_last can.away.0.0 can.away.0.1;
        within = can.within;
        few = omega arith;
        belongs = λ k below. can.belongs k (omega arith);
        empty = λ k below. (let other : length before ≢ k = (λ e. absurd (omega arith)) in
            index_mid now last flag buf can.is_hold belongs_last empty_last can.away.0.0 can.away.0.1 (place_of_run run k)
            ∙ (ap (λ (b : Bool). if b then Some buf.index else index_at now (place_of_run run k)) (run_apart run (length before) k can.within few (omega arith) other) ∙ can.empty k (omega arith)));
        away = still (indices_of before) can.away.1 apart_from.0;
        once = apart_from.1;
      }
    where
      still : (idxs : List ℕ) → AllByRecursion (IsAway now) idxs → AllByRecursion (λ y. nat_eq buf.index y ≡ false) idxs → AllByRecursion (IsAway with_last) idxs
      still [] away apart = tt
      still (i ∷ idxs) away apart = (
        (
          rw (length-set now.cells buf.index (Some (placed last flag buf))) away.0.0,
          get_or-set_other now.cells buf.index i (Some (placed last flag buf)) None (λ e. false_true (sym apart.0 ∙ same_true buf.index i (sym e))) ∙ away.0.1,
        ),
        still idxs away.1 apart.1,
      )

pub come_in : (run : Run) (unnamed : ℕ) (bufs : List Buffer) (now : HoldState) → CanCome now run bufs → (h : HoldState) × AreOut h run unnamed bufs now
come_in run unnamed [] now can = (now, refl)
come_in run unnamed (buf ∷ before) now can =
    let others = come_in run unnamed before (with_last now run unnamed buf before can) (others_can now run unnamed buf before can) in
    (others.0, (with_last now run unnamed buf before can, (came_last now run unnamed buf before can, others.1)))

-- lists turned round
pub all_turned : {X : Type 0} (P : X → Type 0) (xs : List X) → AllByRecursion P xs → AllByRecursion P (reverse xs)
all_turned P [] all = tt
all_turned P (x ∷ xs) all = rw (reverse-append (x ∷ []) xs) (each-joined P (reverse xs) (x ∷ []) (all_turned P xs all.1) (all.0, tt))

distinct_last : (xs : List ℕ) (x : ℕ) → IsDistinct nat_eq xs → AllByRecursion (λ y. nat_eq x y ≡ false) xs → IsDistinct nat_eq (xs ++ x ∷ [])
unfolding IsDistinct
distinct_last [] x once apart = (tt, tt)
distinct_last (y ∷ xs) x once apart = (each-joined (λ z. nat_eq y z ≡ false) xs (x ∷ []) once.0 (turned x y apart.0, tt), distinct_last xs x once.1 apart.1)

distinct_turned : (xs : List ℕ) → IsDistinct nat_eq xs → IsDistinct nat_eq (reverse xs)
unfolding IsDistinct
distinct_turned [] once = tt
distinct_turned (x ∷ xs) once = rw (reverse-append (x ∷ []) xs) (distinct_last (reverse xs) x (distinct_turned xs once.1) (all_turned (λ y. nat_eq x y ≡ false) xs once.0))

pub indices_turned : (bufs : List Buffer) → indices_of (reverse bufs) ≡ reverse (indices_of bufs)
indices_turned [] = refl
indices_turned (b ∷ bufs) =
    ap indices_of (reverse-append (b ∷ []) bufs) ∙ (indices_join (reverse bufs) b
    ∙ (ap (λ (is : List ℕ). is ++ b.index ∷ []) (indices_turned bufs) ∙ sym (reverse-append (b.index ∷ []) (indices_of bufs))))
  where
    indices_join : (xs : List Buffer) (x : Buffer) → indices_of (xs ++ x ∷ []) ≡ indices_of xs ++ x.index ∷ []
    indices_join [] x = refl
    indices_join (y ∷ xs) x = ap (λ (is : List ℕ). y.index ∷ is) (indices_join xs x)

pub away_turned : (h : HoldState) (bufs : List Buffer) → AllByRecursion (IsAway h) (indices_of bufs) → AllByRecursion (IsAway h) (indices_of (reverse bufs))
away_turned h bufs away = rw (indices_turned bufs) (all_turned (IsAway h) (indices_of bufs) away)

pub once_turned : (bufs : List Buffer) → IsDistinct nat_eq (indices_of bufs) → IsDistinct nat_eq (indices_of (reverse bufs))
once_turned bufs once = rw (indices_turned bufs) (distinct_turned (indices_of bufs) once)
