-- Each entry of a history that plays a script is the one that its ask makes, so the history is
-- legal.
use Rattle.std.proofs.Common.{Bool, true, false, cond, ℕ, zero, suc, ◌+◌, ◌-◌, ◌<◌, ◌≤◌, ◌≡◌, ◌⊎◌, inl, inr, List, [], ◌∷◌, ◌++◌, length, take, slice_get, Option, Some, None, option_map, refl, sym, ◌∙◌, ap, subst, arith}
use Rattle.std.specs.Prelude.{nat_lt, nat_le, ◌&&◌, ◌==◌, flat_map}
use Rattle.std.proofs.lemmas.Bool.{eqb-true, cases_lt, cases_Bool, lt-ltb, le-leb}
use Rattle.std.proofs.lemmas.List.{take_all}
use Rattle.vale_own.proofs.Rooms.{step-recorded}
use Rattle.vale_entry.specs.declared.entry.Ask.{Ask}
use Rattle.vale_entry.specs.declared.entry.Entry.{Entry}
use Rattle.vale_entry.specs.Legal.{Standing, Outcome, step, session_and_reply, standing_of, Follows, IsLegal}
use Rattle.vale_entry.proofs.Counting.{count_of, count_of-cons, count_of-append}
use Rattle.vale_entry.proofs.Worlds.{legal-push}
use Rattle.vale_script.specs.Script.{Program}
use Rattle.vale_replay.specs.Machine.{Machine}
use Rattle.vale_replay.specs.Replay.{Cast, TakesTurn, TakesTurns, ReplaysShare, ReplaysUnit, ReplaysUnits, EachShare, AreSplit, HasPlayed, Reaches, ScriptUnit, cast_of, entry_made, entry_of, standing_before, starting, times_among, units_of}
use Rattle.vale_replay.specs.Laws.{PlayedIsLegal}
use Rattle.vale_replay.specs.Tasks.{Captures}

made-by : (s : Standing) (ask : Ask) (entry : Entry) (made : Option Outcome) → step s ask ≡ made
    → option_map (entry_of ask) made ≡ Some entry → Follows s entry
made-by s ask entry None e is = absurd cc
made-by s ask entry (Some made) e is =
    let same : entry_of ask made ≡ entry = cc in
    let here : Follows s (entry_of ask made) = ap (option_map session_and_reply) (step-recorded s ask made e) in
    subst (λ (x : Entry). Follows s x) same here

pub made-follows : (s : Standing) (ask : Ask) (entry : Entry) → entry_made s ask ≡ Some entry
    → Follows s entry
made-follows s ask entry made = made-by s ask entry (step s ask) refl made

-- an entry that follows what stands before it
pub record FollowsAt (pool : ℕ) (h : List Entry) (n : ℕ) : Type 0 where
  pub entry : Entry
  pub there : slice_get h (n - 1) ≡ Some entry
  pub follows : Follows (standing_before pool h n) entry

turn-follows : (pool : ℕ) (h : List Entry) (before : Machine) (n : ℕ) (after : Machine)
    → TakesTurn pool h before n after → FollowsAt pool h n
turn-follows pool h before n after turn =
    record { entry = turn.entry; there = turn.there; follows = made-follows (standing_before pool h n) turn.ask turn.entry turn.made }

first-or_rest : (pool : ℕ) (h : List Entry) (b n : ℕ) (ns : List ℕ) → 1 ≤ count_of b (n ∷ ns)
    → FollowsAt pool h n → (1 ≤ count_of b ns → FollowsAt pool h b) → FollowsAt pool h b
first-or_rest pool h b n ns some first rest = by_here (cases_Bool (n == b))
  where
    front : count_of b (n ∷ ns) ≡ cond (n == b) 1 0 + count_of b ns
    front = count_of-cons b n ns

    by_here : ((n == b) ≡ true) ⊎ ((n == b) ≡ false) → FollowsAt pool h b
    by_here (inl e) = subst (FollowsAt pool h) (eqb-true n b e) first
    by_here (inr e) =
        let less : count_of b (n ∷ ns) ≡ 0 + count_of b ns = front ∙ ap (λ (x : Bool). cond x 1 0 + count_of b ns) e in
        rest (omega (arith, less, some))

turns-follow : (pool : ℕ) (h : List Entry) (b : ℕ) (before : Machine) (ns : List ℕ) (after : Machine)
    → TakesTurns pool h before ns after → 1 ≤ count_of b ns → FollowsAt pool h b
turns-follow pool h b before [] after turns some = absurd (omega (arith, some))
turns-follow pool h b before (n ∷ ns) after turns some =
    first-or_rest pool h b n ns some (turn-follows pool h before n turns.0 turns.1.0) (turns-follow pool h b turns.0 ns after turns.1.1)

one-or_others : (pool : ℕ) (h : List Entry) (b : ℕ) (ns : List ℕ) (lists : List (List ℕ))
    → 1 ≤ times_among b (ns ∷ lists) → (1 ≤ count_of b ns → FollowsAt pool h b)
    → (1 ≤ times_among b lists → FollowsAt pool h b) → FollowsAt pool h b
one-or_others pool h b ns lists some one others = by_here (cases_lt 0 (count_of b ns))
  where
    all : times_among b (ns ∷ lists) ≡ count_of b ns + times_among b lists
    all = count_of-append b ns (flat_map (λ (numbers : List ℕ). numbers) lists)

    by_here : (0 < count_of b ns) ⊎ (count_of b ns ≤ 0) → FollowsAt pool h b
    by_here (inl here) = one (omega (arith, here))
    by_here (inr none) = others (omega (arith, all, none, some))

pub shares-follow : (pool : ℕ) (h : List Entry) (b : ℕ) (cast : Cast) (unit : ScriptUnit) (lists : List (List ℕ)) (afters : List Machine)
    → EachShare (ReplaysShare pool h) cast unit lists afters → 1 ≤ times_among b lists → FollowsAt pool h b
shares-follow pool h b cast [] [] [] each some = absurd (omega (arith, some))
shares-follow pool h b cast (share ∷ shares) (ns ∷ lists) (after ∷ afters) each some =
    one-or_others pool h b ns lists some (turns-follow pool h b (starting share each.0.0) ns after each.0.2.turns) (shares-follow pool h b cast shares lists afters each.1)
shares-follow pool h b cast _ _ _ each some = absurd each

split-follows : (pool : ℕ) (h : List Entry) (cast : Cast) (first : ℕ) (unit : ScriptUnit) (lists : List (List ℕ)) (afters : List Machine) (last b : ℕ)
    → AreSplit first last lists → EachShare (ReplaysShare pool h) cast unit lists afters → first < b → b ≤ last → FollowsAt pool h b
split-follows pool h cast first unit lists afters last b split each up down =
    let low : nat_lt first b ≡ true = lt-ltb first b up in
    let high : nat_le b last ≡ true = le-leb b last down in
    let once : times_among b lists ≡ 1 = split b ∙ ap (λ (x : Bool). cond (x && nat_le b last) 1 0) low ∙ ap (λ (x : Bool). cond x 1 0) high in
    shares-follow pool h b cast unit lists afters each (omega (arith, once))

unit-follows : (pool : ℕ) (h : List Entry) (cast : Cast) (first : ℕ) (unit : ScriptUnit) (next : Cast) (last b : ℕ)
    → ReplaysUnit pool h cast first unit next last
    → first < b → b ≤ last → FollowsAt pool h b
unit-follows pool h cast first unit next last b one up down = split-follows pool h cast first unit one.lists one.afters last b one.split one.replays up down

units-follow : (pool : ℕ) (h : List Entry) (cast : Cast) (first : ℕ) (units : List ScriptUnit) (next : Cast) (last b : ℕ)
    → ReplaysUnits pool h cast first units next last
    → first < b → b ≤ last → FollowsAt pool h b
units-follow pool h cast first [] next last b all up down = let is : last ≡ first = all.1 in absurd (omega (arith, is, up, down))
units-follow pool h cast first (unit ∷ units) next last b all up down =
    later-or_here pool h b all.1.0 (λ later. units-follow pool h all.0 all.1.0 units next last b all.1.1.1 later down) (λ here. unit-follows pool h cast first unit all.0 all.1.0 b all.1.1.0 up here)
  where
    later-or_here : (pool : ℕ) (h : List Entry) (b number : ℕ) → (number < b → FollowsAt pool h b)
        → (b ≤ number → FollowsAt pool h b) → FollowsAt pool h b
    later-or_here pool h b number later here = by_lt (cases_lt number b)
      where
        by_lt : (number < b) ⊎ (b ≤ number) → FollowsAt pool h b
        by_lt (inl up) = later up
        by_lt (inr down) = here down

pub take-one_more : (h : List Entry) (n : ℕ) (e : Entry) → slice_get h n ≡ Some e
    → take (suc n) h ≡ take n h ++ e ∷ []
take-one_more [] n e there = absurd cc
take-one_more (x ∷ xs) zero e there = let same : x ≡ e = cc in ap (λ (y : Entry). y ∷ []) same
take-one_more (x ∷ xs) (suc n) e there = ap (λ (ys : List Entry). x ∷ ys) (take-one_more xs n e there)

-- a history each of whose entries, up to one, follows what stands before it is legal up to there
pub legal-to : (pool : ℕ) (h : List Entry) (last : ℕ)
    → ((b : ℕ) → 0 < b → b ≤ last → FollowsAt pool h b)
    → (n : ℕ) → n ≤ last → IsLegal pool (take n h)
legal-to pool h last each zero within = tt
legal-to pool h last each (suc n) within =
    let here = each (suc n) (omega arith) within in
    let at : suc n - 1 ≡ n = omega arith in
    let there : slice_get h n ≡ Some here.entry = ap (slice_get h) (sym at) ∙ here.there in
    let follows : Follows (standing_of pool (take n h)) here.entry = subst (λ (k : ℕ). Follows (standing_of pool (take k h)) here.entry) at here.follows in
    let before = legal-to pool h last each n (omega (arith, within)) in
    subst (IsLegal pool) (sym (take-one_more h n here.entry there)) (legal-push pool (take n h) here.entry before follows)

reached-follows : (program : Program) (captures : Captures) (h : List Entry) (nows : Cast)
    → Reaches program captures h nows
    → (b : ℕ) → 0 < b → b ≤ length h → FollowsAt program.pool h b
reached-follows program captures h nows r b up down = by_unit (cases_lt r.first b)
  where
    by_unit : (r.first < b) ⊎ (b ≤ r.first) → FollowsAt program.pool h b
    by_unit (inl later) = split-follows program.pool h r.cast r.first r.unit r.lists r.afters (length h) b r.split r.replays later down
    by_unit (inr here) = units-follow program.pool h (cast_of program) 0 (take r.count (units_of program captures)) r.cast r.first b r.units up here

pub played-legal : PlayedIsLegal
played-legal program captures h nows way =
    subst (IsLegal program.pool) (take_all (length h) h (omega arith)) (legal-to program.pool h (length h) (by_way way) (length h) (omega arith))
  where
    by_way : HasPlayed program captures h nows ⊎ Reaches program captures h nows → (b : ℕ) → 0 < b
        → b ≤ length h → FollowsAt program.pool h b
    by_way (inl one) = λ b up down. units-follow program.pool h (cast_of program) 0 (units_of program captures) nows (length h) b one.units up down
    by_way (inr r) = reached-follows program captures h nows r
