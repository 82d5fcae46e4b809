-- The users of a unit spend what all of its entries cost.
use Rattle.std.proofs.Common.{ℕ, zero, suc, ◌+◌, ◌-◌, ◌<◌, ◌≤◌, ◌≡◌, false, ◌==◌, List, [], ◌∷◌, ◌++◌, flat_map, length, slice_get, slice_set, Some, refl, sym, ◌∙◌, ap, subst, arith}
use Rattle.std.specs.Prelude.{sum_by}
use Rattle.std.specs.List.{range_with_len, AllByRecursion as Each}
use Rattle.std.proofs.lemmas.Bool.{eqb-false, ne_eqb}
use Rattle.std.proofs.lemmas.List.Sums.{sum_by-cons, sum_by-append}
use Rattle.vale_entry.specs.declared.entry.Entry.{Entry}
use Rattle.vale_entry.specs.Legal.{IsLegal}
use Rattle.vale_entry.proofs.Counting.{count_of, count_of-append}
use Rattle.std.specs.Prelude.{take}
use Rattle.vale_replay.specs.Machine.{Machine}
use Rattle.vale_replay.specs.Replay.{Cast, UnitShare, ScriptUnit, EachShare, ReplaysShare, ReplaysUnits, AreSplit, starting, times_among, with_afters}
use Rattle.vale_replay.proofs.Members.{AreApart, IsElsewhere, place_of, get-other, among-cons}
use Rattle.vale_replay.proofs.Joins.{split-in}
use Rattle.vale_replay.proofs.Numbers.{range-split}
use Rattle.vale_replay.proofs.OneState.{narrow, from-first}
use Rattle.vale_replay.proofs.Sums.{sum-same}
use Rattle.vale_cost.specs.Completeness.{Cost, left, cost_at, cost_of_share, cost_of_unit, cost_of_units, IsCosted}
use Rattle.vale_cost.proofs.RoomViews.{AreBelow, below-later, views}
use Rattle.vale_cost.proofs.RoomRests.{ArePlain, rests}
use Rattle.vale_cost.proofs.RoomUsers.{chain}

pub record IsUp (k : ℕ) (user : Machine) : Type 0 where
  pub below : AreBelow k (views user.own)
  pub plain : ArePlain user.tasks

-- ---- lists

pub sum-set : (f : Machine → ℕ) (us : List Machine) (i : ℕ) (x before : Machine) → slice_get us i ≡ Some before → sum_by f (slice_set us i x) + f before ≡ sum_by f us + f x
sum-set f [] i x before here = absurd cc
sum-set f (u ∷ us) zero x before here =
    let same : u ≡ before = cc in
    let e = ap f same in
    let one = sum_by-cons f x us in
    let other = sum_by-cons f u us in
    omega (arith, e, one, other)
sum-set f (u ∷ us) (suc i) x before here =
    let rest = sum-set f us i x before here in
    let one = sum_by-cons f u (slice_set us i x) in
    let other = sum_by-cons f u us in
    omega (arith, rest, one, other)

each-set : (P : Machine → Type 0) (us : List Machine) (i : ℕ) (x : Machine) → Each P us → P x → Each P (slice_set us i x)
each-set P [] i x all new = tt
each-set P (u ∷ us) zero x all new = (new, all.1)
each-set P (u ∷ us) (suc i) x all new = (all.0, each-set P us i x all.1 new)

pub each-get : (P : Machine → Type 0) (us : List Machine) (i : ℕ) (u : Machine) → Each P us → slice_get us i ≡ Some u → P u
each-get P [] i u all here = absurd cc
each-get P (x ∷ us) zero u all here = let same : x ≡ u = cc in subst P same all.0
each-get P (x ∷ us) (suc i) u all here = each-get P us i u all.1 here

all-up : (k n : ℕ) (us : List Machine) → k ≤ n → Each (IsUp k) us → Each (IsUp n) us
all-up k n [] up all = tt
all-up k n (u ∷ us) up all = (record { below = below-later k n (views u.own) up all.0.below; plain = all.0.plain }, all-up k n us up all.1)

abbrev pub flat : List (List ℕ) → List ℕ
flat lists = flat_map (λ (ns : List ℕ). ns) lists

pub record UnitSum (h : List Entry) (us next : List Machine) (ns : List ℕ) (most : Cost → ℕ) (last : ℕ) : Type 0 where
  pub costs : (c : Cost) → sum_by (left c) next + sum_by (cost_at c h) ns ≤ sum_by (left c) us + most c
  pub up : Each (IsUp last) next

-- the users are as at the unit's beginning where shares are still to come
abbrev Agree : List Machine → List Machine → ScriptUnit → Type 0
Agree us users shares = Each (λ (share : UnitShare). slice_get us (place_of share) ≡ slice_get users (place_of share)) shares

agree-set : (us users : List Machine) (i : ℕ) (x : Machine) (shares : ScriptUnit) → Each (IsElsewhere i) shares → Agree us users shares → Agree (slice_set us i x) users shares
agree-set us users i x [] away agree = tt
agree-set us users i x (share ∷ shares) away agree =
    let other : (i == place_of share) ≡ false = ne_eqb i (place_of share) (λ e. eqb-false (place_of share) i away.0 (sym e)) in
    (get-other us i (place_of share) x other ∙ agree.0, agree-set us users i x shares away.1 agree.1)

module _ (pool : ℕ) (h : List Entry) (legal : (n : ℕ) → IsLegal pool (take n h)) (first last : ℕ) (forward : first ≤ last) (cast : Cast) (up : Each (IsUp first) cast.users) where
  abbrev Inside : List (List ℕ) → Type 0
  Inside lists = (b : ℕ) → 1 ≤ times_among b lists → (first < b) × (b ≤ last)

  record ShareSum (share : UnitShare) (before : Machine) (ns : List ℕ) (after : Machine) : Type 0 where
    costs : (c : Cost) → left c after + sum_by (cost_at c h) ns ≤ left c before + cost_of_share c share
    up_after : IsUp last after

  one-share : (share : UnitShare) (before : Machine) (ns : List ℕ) (after : Machine) → IsCosted share → IsUp first before
      → ((b : ℕ) → 1 ≤ count_of b ns → (first < b) × (b ≤ last)) → ReplaysShare pool h share before ns after → ShareSum share before ns after
  one-share share before ns after costed below inside replays =
      let begun : Machine = record before { tasks = share.tasks before } in
      let r = rests begun (share.tasks before) (costed.plain before) in
      let rise = from-first first ns last (narrow 0 ns (length h) last replays.rise (omega arith) (λ b some. (inside b some).1)) forward (λ b some. (inside b some).0) in
      let c = chain pool h first last (starting share before) ns after legal rise (r.below first below.below) r.plain replays.turns in
      record {
        costs = λ m.
            (let spent = c.spends.spends m in
            let rested = r.spends m below.below.tidy in
            let costs = costed.costs m before in
            omega (arith, spent, rested, costs));
        up_after = record { below = c.below; plain = c.spends.plain };
      }

  pub shares-sum : (us : List Machine) (shares : ScriptUnit) (lists : List (List ℕ)) (afters : List Machine) → AreApart shares → Each IsCosted shares → Inside lists → Each (IsUp last) us
      → Agree us cast.users shares → EachShare (ReplaysShare pool h) cast shares lists afters
      → UnitSum h us (with_afters shares afters us) (flat lists) (λ c. cost_of_unit c shares) last
  shares-sum us [] [] [] apart costed inside ups agree each = record { costs = λ c. omega arith; up = ups }
  shares-sum us (share ∷ shares) (ns ∷ lists) (after ∷ afters) apart costed inside ups agree each =
      let before = each.0.0 in
      let among : (b : ℕ) → times_among b (ns ∷ lists) ≡ count_of b ns + times_among b lists = λ b. among-cons b ns lists in
      let one = one-share share before ns after costed.0 (each-get (IsUp first) cast.users (place_of share) before up each.0.1)
      (λ b some. inside b (let all = among b in omega (arith, all, some))) each.0.2 in
      let rest = shares-sum (slice_set us (place_of share) after) shares lists afters apart.1 costed.1 (λ b some. inside b (let all = among b in omega (arith, all, some)))
      (each-set (IsUp last) us (place_of share) after ups one.up_after) (agree-set us cast.users (place_of share) after shares apart.0 agree.1) each.1 in
      let here = agree.0 ∙ each.0.1 in
      record {
        costs = λ c.
            (let set = sum-set (left c) us (place_of share) after before here in
            let all = sum_by-append (cost_at c h) ns (flat lists) in
            let unit = sum_by-cons (cost_of_share c) share shares in
            let first = one.costs c in
            let others = rest.costs c in
            omega (arith, set, all, unit, first, others));
        up = rest.up;
      }
  shares-sum us [] [] (a ∷ afters) apart costed inside ups agree each = absurd each
  shares-sum us [] (ns ∷ lists) afters apart costed inside ups agree each = absurd each
  shares-sum us (share ∷ shares) [] afters apart costed inside ups agree each = absurd each
  shares-sum us (share ∷ shares) (ns ∷ lists) [] apart costed inside ups agree each = absurd each

agree-same : (users : List Machine) (shares : ScriptUnit) → Agree users users shares
agree-same users [] = tt
agree-same users (share ∷ shares) = (refl, agree-same users shares)

range-append : (start a b : ℕ) → range_with_len start (a + b) ≡ range_with_len start a ++ range_with_len (start + a) b
range-append start zero b = let none : 0 + b ≡ b = omega arith in let same : start + 0 ≡ start = omega arith in rw (none, same) refl
range-append start (suc a) b =
    let sums : suc a + b ≡ suc (a + b) = omega arith in
    let shifted : start + suc a ≡ start + 1 + a = omega arith in
    rw (sums, shifted) (ap (λ (ns : List ℕ). start ∷ ns) (range-append (start + 1) a b))

-- the numbers of a unit are those of its range
abbrev pub range_to : ℕ → ℕ → List ℕ
range_to first last = range_with_len (first + 1) (last - first)

flat-range : (f : ℕ → ℕ) (first last : ℕ) (lists : List (List ℕ)) → first ≤ last → AreSplit first last lists → sum_by f (flat lists) ≡ sum_by f (range_to first last)
flat-range f first last lists forward split =
    sum-same f (flat lists) (range_to first last)
    (λ z.
    let up : first + (last - first) ≡ last = omega (arith, forward) in
    let whole : AreSplit first last (range_to first last ∷ []) = subst (λ (n : ℕ). AreSplit first n (range_to first last ∷ [])) up (range-split first (last - first)) in
    let alone = count_of-append z (range_to first last) [] in
    let same : count_of z (flat lists) ≡ count_of z (range_to first last ++ []) = split z ∙ sym (whole z) in
    omega (arith, alone, same))

pub unit-sum : (pool : ℕ) (h : List Entry) (legal : (n : ℕ) → IsLegal pool (take n h)) (first last : ℕ) (cast : Cast) (unit : ScriptUnit) (lists : List (List ℕ)) (afters : List Machine) → first ≤ last
    → Each (IsUp first) cast.users → AreApart unit → Each IsCosted unit → AreSplit first last lists → EachShare (ReplaysShare pool h) cast unit lists afters
    → UnitSum h cast.users (with_afters unit afters cast.users) (range_to first last) (λ c. cost_of_unit c unit) last
unit-sum pool h legal first last cast unit lists afters forward up apart costed split each =
    let all = shares-sum pool h legal first last forward cast up cast.users unit lists afters apart costed (λ b some. split-in first last lists b split some) (all-up first last cast.users forward up) (agree-same cast.users unit) each in
    record {
      costs = λ c. (let same = flat-range (cost_at c h) first last lists forward split in let sum = all.costs c in omega (arith, same, sum));
      up = all.up;
    }

-- ---- units one after another

pub ranges-join : (f : ℕ → ℕ) (first number last : ℕ) → first ≤ number → number ≤ last → sum_by f (range_to first last) ≡ sum_by f (range_to first number) + sum_by f (range_to number last)
ranges-join f first number last up on =
    let count : last - first ≡ (number - first) + (last - number) = omega (arith, up, on) in
    let start : first + 1 + (number - first) ≡ number + 1 = omega (arith, up) in
    ap (λ (n : ℕ). sum_by f (range_with_len (first + 1) n)) count
    ∙ (ap (λ (ns : List ℕ). sum_by f ns) (range-append (first + 1) (number - first) (last - number))
    ∙ (ap (λ (n : ℕ). sum_by f (range_to first number ++ range_with_len n (last - number))) start
    ∙ sum_by-append f (range_to first number) (range_to number last)))

empty-range : (first last : ℕ) → last ≡ first → range_to first last ≡ []
empty-range first last e = let none : last - first ≡ 0 = omega (arith, e) in ap (range_with_len (first + 1)) none

pub record UnitsSum (h : List Entry) (users next : List Machine) (first last : ℕ) (units : List ScriptUnit) : Type 0 where
  pub forward : first ≤ last
  pub sum : UnitSum h users next (range_to first last) (λ c. cost_of_units c units) last

pub units-sum : (pool : ℕ) (h : List Entry) (legal : (n : ℕ) → IsLegal pool (take n h)) (first : ℕ) (cast : Cast) (units : List ScriptUnit) (next : Cast) (last : ℕ)
    → Each (IsUp first) cast.users → Each AreApart units → Each (Each IsCosted) units → ReplaysUnits pool h cast first units next last → UnitsSum h cast.users next.users first last units
units-sum pool h legal first cast [] next last up apart costed r =
    let none = empty-range first last r.1 in
    record {
      forward = (let e = r.1 in omega (arith, e));
      sum = record {
        costs = λ c.
            (let empty = ap (λ (ns : List ℕ). sum_by (cost_at c h) ns) none in
            let same = ap (λ (k : Cast). sum_by (left c) k.users) r.0 in
            omega (arith, empty, same));
        up = subst (λ (n : ℕ). Each (IsUp n) next.users) (sym r.1) (subst (λ (c : Cast). Each (IsUp first) c.users) (sym r.0) up);
      };
    }
units-sum pool h legal first cast (unit ∷ units) next last up apart costed r =
    let between = r.0 in
    let number = r.1.0 in
    let one = r.1.1.0 in
    let here = unit-sum pool h legal first number cast unit one.lists one.afters one.forward up apart.0 costed.0 one.split one.replays in
    let there : UnitSum h cast.users between.users (range_to first number) (λ c. cost_of_unit c unit) number =
    subst (λ (c : Cast). UnitSum h cast.users c.users (range_to first number) (λ c. cost_of_unit c unit) number) (sym one.others) here in
    let rest = units-sum pool h legal number between units next last there.up apart.1 costed.1 r.1.1.1 in
    let on = rest.forward in
    let begun = one.forward in
    record {
      forward = omega (arith, on, begun);
      sum = record {
        costs = λ c.
            (let join = ranges-join (cost_at c h) first number last begun on in
            let all = sum_by-cons (cost_of_unit c) unit units in
            let one-unit = there.costs c in
            let others = rest.sum.costs c in
            omega (arith, join, all, one-unit, others));
        up = rest.sum.up;
      };
    }
