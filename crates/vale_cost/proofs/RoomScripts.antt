-- The record of a script of few tasks has room for each of its calls.
use Rattle.std.proofs.Common.{ℕ, zero, suc, ◌+◌, ◌-◌, ◌*◌, ◌≤◌, ◌≡◌, ◌⊎◌, inl, inr, List, [], ◌∷◌, map, take, drop, take-append-drop, length, slice_get, Option, Some, None, refl, sym, ◌∙◌, ap, subst, arith}
use Rattle.std.specs.Prelude.{sum_by, count_by}
use Rattle.std.specs.List.{range_with_len, IsDistinct, AllByRecursion as Each}
use Rattle.std.proofs.lemmas.List.Sums.{sum_by-cons, sum_by-append}
use Rattle.vale_entry.specs.declared.entry.Entry.{Entry}
use Rattle.vale_entry.specs.Arrivals.{arrivals_of}
use Rattle.vale_entry.specs.OwnCalls.{own_after}
use Rattle.nm_types.specs.Limits.{most_switch_ports}
use Rattle.nm_types.specs.declared.limits.Limits.{Limits}
use Rattle.vale_entry.specs.Opening.{is_on_switch}
use Rattle.vale_entry.specs.Legal.{Outcome, IsLegal, standing_of, world_of, step, kept_ask, fresh_standing}
use Rattle.vale_entry.proofs.Worlds.{legal-take}
use Rattle.vale_own.specs.Recorded.{HasRoom, room_by}
use Rattle.vale_script.specs.Script.{Program}
use Rattle.vale_replay.specs.Machine.{Machine, new_machine, is_settling}
use Rattle.vale_replay.specs.Tasks.{Captures}
use Rattle.vale_replay.specs.Replay.{Cast, ScriptUnit, Reaches, cast_of, entry_of, units_of, user_count}
use Rattle.vale_replay.proofs.Legal.{played-legal}
use Rattle.vale_replay.proofs.Joins.{units-apart, take-apart, apart-at}
use Rattle.vale_cost.specs.Completeness.{Cost, Sends, Bytes, Calls, Opens, cost, left, cost_by, cost_of, cost_at, cost_of_unit, cost_of_units, HadFewPorts, IsCosted, TasksFit, FewTasksFit}
use Rattle.vale_cost.proofs.RoomSpends.{made-spends}
use Rattle.vale_cost.proofs.RoomChains.{made-below}
use Rattle.vale_cost.proofs.RoomHistories.{fit-room, times-less, were-opened}
use Rattle.vale_cost.proofs.RoomSwitches.{switches-few}
use Rattle.vale_cost.proofs.RoomUsers.{plain-answered}
use Rattle.vale_cost.proofs.RoomUnits.{IsUp, each-get, range_to, ranges-join, unit-sum, units-sum}

-- ---- sums over a list, and what is in it

sum-get : {X : Type 0} (f : X → ℕ) (xs : List X) (i : ℕ) (x : X) → slice_get xs i ≡ Some x → f x ≤ sum_by f xs
sum-get f [] i x here = absurd cc
sum-get f (y ∷ xs) zero x here = let same : y ≡ x = cc in let e = ap f same in let all = sum_by-cons f y xs in omega (arith, e, all)
sum-get f (y ∷ xs) (suc i) x here = let rest = sum-get f xs i x here in let all = sum_by-cons f y xs in omega (arith, rest, all)

sum-take : {X : Type 0} (f : X → ℕ) (xs : List X) (i : ℕ) (x : X) → slice_get xs i ≡ Some x → sum_by f (take i xs) + f x ≤ sum_by f xs
sum-take f [] i x here = absurd cc
sum-take f (y ∷ xs) zero x here = let same : y ≡ x = cc in let e = ap f same in let all = sum_by-cons f y xs in omega (arith, e, all)
sum-take f (y ∷ xs) (suc i) x here =
    let rest = sum-take f xs i x here in
    let all = sum_by-cons f y xs in
    let front = sum_by-cons f y (take i xs) in
    omega (arith, rest, all, front)

take-each : (P : ScriptUnit → Type 0) (count : ℕ) (units : List ScriptUnit) → Each P units → Each P (take count units)
take-each P zero units all = tt
take-each P (suc count) [] all = tt
take-each P (suc count) (unit ∷ units) all = (all.0, take-each P count units all.1)

each-at : (P : ScriptUnit → Type 0) (units : List ScriptUnit) (count : ℕ) (unit : ScriptUnit) → Each P units → slice_get units count ≡ Some unit → P unit
each-at P [] count unit all here = absurd cc
each-at P (u ∷ units) zero unit all here = let same : u ≡ unit = cc in subst P same all.0
each-at P (u ∷ units) (suc count) unit all here = each-at P units count unit all.1 here

-- ---- a history as its numbers

at-from : (value : Entry → ℕ) (f : ℕ → ℕ) (low : ℕ) (h : List Entry) → ((i : ℕ) (e : Entry) → slice_get h i ≡ Some e → f (low + i + 1) ≡ value e)
    → sum_by f (range_with_len (low + 1) (length h)) ≡ sum_by value h
at-from value f low [] each = refl
at-from value f low (e ∷ h) each =
    let here : f (low + 1) ≡ value e = (let same : low + 1 ≡ low + 0 + 1 = omega arith in ap f same ∙ each 0 e refl) in
    let rest = at-from value f (low + 1) h (λ i x there. let same : low + 1 + i + 1 ≡ low + suc i + 1 = omega arith in ap f same ∙ each (suc i) x there) in
    let one = sum_by-cons f (low + 1) (range_with_len (low + 1 + 1) (length h)) in
    let other = sum_by-cons value e h in
    omega (arith, here, rest, one, other)

costs-at : (c : Cost) (h : List Entry) → sum_by (cost_at c h) (range_to 0 (length h)) ≡ cost_of c h
costs-at c h =
    (let all : length h - 0 ≡ length h = omega arith in ap (λ (n : ℕ). sum_by (cost_at c h) (range_with_len (0 + 1) n)) all)
    ∙ at-from (cost_by c) (cost_at c h) 0 h (λ i e there. let at : 0 + i + 1 - 1 ≡ i = omega arith in rw (at, there) refl)

-- ---- at first no user has anything

up-first : (pool low count : ℕ) → Each (IsUp 0) (map (new_machine pool) (range_with_len low count))
unfolding IsDistinct
up-first pool low zero = tt
up-first pool low (suc count) = (record { below = record { tidy = record { apart = tt; rings = tt }; ids = tt }; plain = tt }, up-first pool (low + 1) count)

none-left : (f : Machine → ℕ) (pool low count : ℕ) → ((n : ℕ) → f (new_machine pool n) ≡ 0) → sum_by f (map (new_machine pool) (range_with_len low count)) ≡ 0
none-left f pool low zero none = refl
none-left f pool low (suc count) none =
    let rest = none-left f pool (low + 1) count none in
    let here = none low in
    let all = sum_by-cons f (new_machine pool low) (map (new_machine pool) (range_with_len (low + 1) count)) in
    omega (arith, rest, here, all)

-- ---- a script under way

record AllSpent (program : Program) (captures : Captures) (h : List Entry) (nows : Cast) : Type 0 where
  costs : (c : Cost) → sum_by (left c) nows.users + cost_of c h ≤ cost_of_units c (units_of program captures)
  up : Each (IsUp (length h)) nows.users

all-spent : (program : Program) (captures : Captures) (h : List Entry) (nows : Cast) → Each (Each IsCosted) (units_of program captures) → Reaches program captures h nows
    → AllSpent program captures h nows
all-spent program captures h nows costed r =
    let units = units_of program captures in
    let legal = λ (n : ℕ). legal-take (fresh_standing program.pool) h n (played-legal program captures h nows (inr r)) in
    let before = units-sum program.pool h legal 0 (cast_of program) (take r.count units) r.cast r.first (up-first program.pool 1 (user_count program)) (take-apart r.count units (units-apart program captures))
    (take-each (Each IsCosted) r.count units costed) r.units in
    let here = unit-sum program.pool h legal r.first (length h) r.cast r.unit r.lists r.afters r.forward before.sum.up (apart-at r.count units r.unit (units-apart program captures) r.there)
    (each-at (Each IsCosted) units r.count r.unit costed r.there) r.split r.replays in
    let on = r.forward in
    let begun = before.forward in
    record {
      costs = λ c.
          (let same = ap (λ (k : Cast). sum_by (left c) k.users) r.nows_are in
          let join = ranges-join (cost_at c h) 0 r.first (length h) begun on in
          let all = costs-at c h in
          let cut = sum-take (cost_of_unit c) units r.count r.unit r.there in
          let none = none-left (left c) program.pool 1 (user_count program) (λ n. refl) in
          let first = before.sum.costs c in
          let now = here.costs c in
          omega (arith, same, join, all, cut, none, first, now));
      up = subst (λ (k : Cast). Each (IsUp (length h)) k.users) (sym r.nows_are) here.up;
    }

-- what a part of a history costs
cost-take : (c : Cost) (n : ℕ) (h : List Entry) → cost_of c (take n h) ≤ cost_of c h
cost-take c n h =
    let both = sum_by-append (cost_by c) (take n h) (drop n h) in
    let whole = ap (λ (es : List Entry). cost_of c es) (take-append-drop n h) in
    omega (arith, both, whole)

-- each switch had few ports: as few as there may be, or as were opened there
had-few : (program : Program) (captures : Captures) (limits : Limits) (h : List Entry) (nows : Cast) (fit : TasksFit program captures limits) → IsLegal program.pool h
    → AllSpent program captures h nows → HadFewPorts fit.most program.pool h
had-few program captures limits h nows fit legal spent number switch = by fit.few
  where
    by : (most_switch_ports ≤ fit.most) ⊎ ((other : List ℕ) → cost_of_units (Opens other) (units_of program captures) ≤ fit.most)
        → count_by (is_on_switch switch) (world_of program.pool (take number h)).ports ≤ fit.most
    by (inl most) = let few = switches-few program.pool (take number h) switch in omega (arith, few, most)
    by (inr opens) =
        let opened = were-opened program.pool (take number h) switch (legal-take (fresh_standing program.pool) h number legal) in
        let part = cost-take (Opens switch) number h in
        let all = spent.costs (Opens switch) in
        let few = opens switch in
        omega (arith, opened, part, all, few)

pub few-fit : FewTasksFit
few-fit program captures region limits h user call fit comes = by (step (standing_of program.pool h) call) refl
  where
    legal : IsLegal program.pool h
    legal = played-legal program captures h comes.nows (inr comes.reached)

    spent : AllSpent program captures h comes.nows
    spent = all-spent program captures h comes.nows fit.costed comes.reached

    up : IsUp (length h) comes.now
    up = each-get (IsUp (length h)) comes.nows.users (user - 1) comes.now spent.up comes.here

    by : (found : Option Outcome) → step (standing_of program.pool h) call ≡ found → HasRoom (record { pool = program.pool; region = region; limits = limits; entries = h }) call
    by None is = subst (room_by (record { pool = program.pool; region = region; limits = limits; entries = h }) call) (sym is) tt
    by (Some made) is =
        let n = length h + 1 in
        let after-below = made-below program.pool h (length h) n comes.now up.below (omega arith) made call
        (plain-answered n (entry_of call made) (own_after n (entry_of call made) (arrivals_of (standing_of program.pool h) (kept_ask call) made.reply) comes.now.own) comes.now (is_settling (kept_ask call)) up.plain)
        comes.called is in
        let turn = made-spends program.pool h legal n comes.now up.below.tidy made call up.plain comes.called is after-below.tidy in
        let within : (c : Cost) → cost_of c h + cost c (kept_ask call) made.reply ≤ cost_of_units c (units_of program captures) = λ c.
        (let now = turn.spends c in
        let some = sum-get (left c) comes.nows.users (user - 1) comes.now comes.here in
        let all = spent.costs c in
        omega (arith, now, some, all)) in
        let sends = times-less (2 * fit.most) (cost_of Sends h + cost Sends (kept_ask call) made.reply) (cost_of_units Sends (units_of program captures)) (within Sends) in
        let calls = within Calls in
        let entries = fit.entries in
        let short = within Bytes in
        let bytes = fit.bytes in
        fit-room fit.most (record { pool = program.pool; region = region; limits = limits; entries = h }) call made legal is
        (record { few = had-few program captures limits h comes.nows fit legal spent; entries = omega (arith, sends, calls, entries); bytes = omega (arith, short, bytes) })
