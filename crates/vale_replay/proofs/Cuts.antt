-- Histories cut at a number: each user's numbers up to there, and where these bring it.
use Rattle.std.proofs.Common.{Bool, true, false, cond, ℕ, ◌+◌, ◌<◌, ◌≤◌, ◌≡◌, List, [], ◌∷◌, length, map, take, refl, sym, ◌∙◌, ap, subst, arith}
use Rattle.std.specs.Prelude.{◌==◌, nat_le}
use Rattle.std.specs.List.{AllByRecursion}
use Rattle.std.proofs.lemmas.Bool.{ne_eqb, leb-true, leb-false, le-leb}
use Rattle.std.proofs.lemmas.List.{take-take}
use Rattle.vale_entry.specs.declared.entry.Entry.{Entry}
use Rattle.vale_entry.specs.Laws.{Rise}
use Rattle.vale_entry.proofs.Counting.{count_of, count_of-cons}
use Rattle.vale_entry.proofs.Rising.{rise-bounds}
use Rattle.vale_replay.specs.Machine.{Machine}
use Rattle.vale_replay.specs.Replay.{Cast, UnitShare, ScriptUnit, EachShare, ReplaysUser, ReplaysShare, ReplaysUnit, ReplaysUnits, AreSplit, NeedsNoCall, TakesTurn, TakesTurns, last_behind, last_of, starting, times_among}
use Rattle.vale_replay.proofs.Numbers.{rise-above, rise-last}
use Rattle.vale_replay.proofs.Turns.{reads-to-last, length-take}
use Rattle.vale_replay.proofs.Members.{among-cons}
use Rattle.vale_replay.proofs.Joins.{split-in, split-has, split-below, split-from, last-counted}

-- the first numbers of a rising list, up to one
abbrev pub up_to : ℕ → List ℕ → List ℕ
up_to count [] = []
up_to count (n ∷ ns) = cond (nat_le n count) (n ∷ up_to count ns) []

up_to-low_by : (count b n : ℕ) (ns : List ℕ) (high : ℕ) (here : Bool) → nat_le n count ≡ here
    → Rise n ns high → b ≤ count → count_of b (up_to count ns) ≡ count_of b ns
    → count_of b (cond here (n ∷ up_to count ns) []) ≡ count_of b (n ∷ ns)
up_to-low_by count b n ns high true e rise within rest =
    count_of-cons b n (up_to count ns) ∙ ap (λ (k : ℕ). cond (n == b) 1 0 + k) rest ∙ sym (count_of-cons b n ns)
up_to-low_by count b n ns high false e rise within rest =
    let past : count < n = leb-false n count e in
    sym (rise-above count (n ∷ ns) high b (past, rise) within)

up_to-low : (count b low : ℕ) (ns : List ℕ) (high : ℕ) → Rise low ns high → b ≤ count
    → count_of b (up_to count ns) ≡ count_of b ns
up_to-low count b low [] high rise within = refl
up_to-low count b low (n ∷ ns) high rise within =
    up_to-low_by count b n ns high (nat_le n count) refl rise.1 within (up_to-low count b n ns high rise.1 within)

up_to-high_by : (count b n : ℕ) (ns : List ℕ) (here : Bool) → nat_le n count ≡ here → count < b
    → count_of b (up_to count ns) ≡ 0 → count_of b (cond here (n ∷ up_to count ns) []) ≡ 0
up_to-high_by count b n ns true e past rest =
    let within : n ≤ count = leb-true n count e in
    let miss : (n == b) ≡ false = ne_eqb n b (λ is. omega (arith, within, past, is)) in
    count_of-cons b n (up_to count ns) ∙ ap (λ (x : Bool). cond x 1 0 + count_of b (up_to count ns)) miss ∙ omega (arith, rest)
up_to-high_by count b n ns false e past rest = refl

up_to-high : (count b : ℕ) (ns : List ℕ) → count < b → count_of b (up_to count ns) ≡ 0
up_to-high count b [] past = refl
up_to-high count b (n ∷ ns) past = up_to-high_by count b n ns (nat_le n count) refl past (up_to-high count b ns past)

up_to-rise_by : (count low n : ℕ) (ns : List ℕ) (high : ℕ) (here : Bool) → low < n → low ≤ high
    → Rise n (up_to count ns) high → Rise low (cond here (n ∷ up_to count ns) []) high
up_to-rise_by count low n ns high true up within rest = (up, rest)
up_to-rise_by count low n ns high false up within rest = within

up_to-rise : (count low : ℕ) (ns : List ℕ) (high : ℕ) → Rise low ns high
    → Rise low (up_to count ns) high
up_to-rise count low [] high rise = rise
up_to-rise count low (n ∷ ns) high rise =
    up_to-rise_by count low n ns high (nat_le n count) rise.0 (rise-bounds low (n ∷ ns) high rise) (up_to-rise count n ns high rise.1)

up_to-last_by : (count low n : ℕ) (ns : List ℕ) (here : Bool) → nat_le n count ≡ here
    → low ≤ count → (n ≤ count → last_behind n (up_to count ns) ≤ count)
    → last_behind low (cond here (n ∷ up_to count ns) []) ≤ count
up_to-last_by count low n ns true e up rest = rest (leb-true n count e)
up_to-last_by count low n ns false e up rest = up

up_to-last : (count low : ℕ) (ns : List ℕ) → low ≤ count → last_behind low (up_to count ns) ≤ count
up_to-last count low [] up = up
up_to-last count low (n ∷ ns) up =
    up_to-last_by count low n ns (nat_le n count) refl up (λ within. up_to-last count n ns within)

pub up_to-whole : (count low : ℕ) (ns : List ℕ) (high : ℕ) → Rise low ns high
    → last_behind low ns ≤ count → up_to count ns ≡ ns
up_to-whole count low [] high rise within = refl
up_to-whole count low (n ∷ ns) high rise within =
    let last = rise-last n ns high rise.1 in
    let here : nat_le n count ≡ true = le-leb n count (omega (arith, last, within)) in
    ap (λ (b : Bool). cond b (n ∷ up_to count ns) []) here ∙ ap (λ (ms : List ℕ). n ∷ ms) (up_to-whole count n ns high rise.1 within)

-- where a user has come with its numbers up to one
record CutTurns (pool : ℕ) (h : List Entry) (count : ℕ) (before : Machine) (ns : List ℕ) : Type 0 where
  now : Machine
  turns : TakesTurns pool h before (up_to count ns) now

turns-cut_by : (pool : ℕ) (h : List Entry) (count : ℕ) (before : Machine) (n : ℕ) (ns : List ℕ) (between : Machine) (here : Bool)
    → TakesTurn pool h before n between → CutTurns pool h count between ns
    → (now : Machine) × TakesTurns pool h before (cond here (n ∷ up_to count ns) []) now
turns-cut_by pool h count before n ns between true turn rest = (rest.now, (between, (turn, rest.turns)))
turns-cut_by pool h count before n ns between false turn rest = (before, refl)

turns-cut : (pool : ℕ) (h : List Entry) (count : ℕ) (before : Machine) (ns : List ℕ) (after : Machine)
    → TakesTurns pool h before ns after → CutTurns pool h count before ns
turns-cut pool h count before [] after turns = record { now = before; turns = refl }
turns-cut pool h count before (n ∷ ns) after turns =
    let cut = turns-cut_by pool h count before n ns turns.0 (nat_le n count) turns.1.0 (turns-cut pool h count turns.0 ns after turns.1.1) in
    record { now = cut.0; turns = cut.1 }

pub record CutUser (pool : ℕ) (h : List Entry) (count : ℕ) (before : Machine) (ns : List ℕ) : Type 0 where
  pub now : Machine
  pub replays : ReplaysUser pool (take count h) before (up_to count ns) now

pub user-cut : (pool : ℕ) (h : List Entry) (count : ℕ) (before : Machine) (ns : List ℕ) (after : Machine)
    → ReplaysUser pool h before ns after → CutUser pool h count before ns
user-cut pool h count before ns after r =
    let cut = turns-cut pool h count before ns after r.turns in
    record {
      now = cut.now;
      replays = (reads-to-last pool h count before (up_to count ns) cut.now (up_to-last count 0 ns (omega arith))).0
          (record { rise = up_to-rise count 0 ns (length h) r.rise; turns = cut.turns });
    }

-- the users of a unit, each with its numbers up to one
pub record CutShares (S : UnitShare → Machine → List ℕ → Machine → Type 0) (cast : Cast) (unit : ScriptUnit) (count : ℕ) (lists : List (List ℕ)) : Type 0 where
  pub nows : List Machine
  pub each : EachShare S cast unit (map (up_to count) lists) nows

pub shares-cut : (R S : UnitShare → Machine → List ℕ → Machine → Type 0) (cast : Cast) (unit : ScriptUnit) (count : ℕ) (lists : List (List ℕ)) (afters : List Machine)
    → ((share : UnitShare) (before : Machine) (ns : List ℕ) (after : Machine) → R share before ns after → (now : Machine) × S share before (up_to count ns) now)
    → EachShare R cast unit lists afters → CutShares S cast unit count lists
shares-cut R S cast [] count [] [] f each = record { nows = []; each = tt }
shares-cut R S cast (share ∷ shares) count (ns ∷ lists) (a ∷ afters) f each =
    let one = f share each.0.0 ns a each.0.2 in
    let rest = shares-cut R S cast shares count lists afters f each.1 in
    record { nows = one.0 ∷ rest.nows; each = ((each.0.0, each.0.1, one.1), rest.each) }
shares-cut R S cast _ count _ _ f each = absurd each

-- how often a number stands in the cut lists
among-low : (pool : ℕ) (h : List Entry) (cast : Cast) (unit : ScriptUnit) (count : ℕ) (lists : List (List ℕ)) (afters : List Machine) (b : ℕ)
    → EachShare (ReplaysShare pool h) cast unit lists afters → b ≤ count → times_among b (map (up_to count) lists) ≡ times_among b lists
among-low pool h cast [] count [] [] b each within = refl
among-low pool h cast (share ∷ shares) count (ns ∷ lists) (a ∷ afters) b each within =
    let one = up_to-low count b 0 ns (length h) each.0.2.rise within in
    let rest = among-low pool h cast shares count lists afters b each.1 within in
    let cut = among-cons b (up_to count ns) (map (up_to count) lists) in
    let all = among-cons b ns lists in
    omega (arith, one, rest, cut, all)
among-low pool h cast _ count _ _ b each within = absurd each

among-high : (count b : ℕ) (lists : List (List ℕ)) → count < b
    → times_among b (map (up_to count) lists) ≡ 0
among-high count b [] past = refl
among-high count b (ns ∷ lists) past =
    let one = up_to-high count b ns past in
    let rest = among-high count b lists past in
    let cut = among-cons b (up_to count ns) (map (up_to count) lists) in
    omega (arith, one, rest, cut)

pub split-cut : (pool : ℕ) (h : List Entry) (cast : Cast) (unit : ScriptUnit) (count : ℕ) (lists : List (List ℕ)) (afters : List Machine) (first last : ℕ)
    → EachShare (ReplaysShare pool h) cast unit lists afters → first ≤ count → count ≤ last → AreSplit first last lists → AreSplit first count (map (up_to count) lists)
split-cut pool h cast unit count lists afters first last each up within split =
    split-from first count (map (up_to count) lists)
    (λ b low high. among-low pool h cast unit count lists afters b each high ∙ split-has first last lists b split low (omega (arith, high, within)))
    (λ b below. among-low pool h cast unit count lists afters b each (omega (arith, below, up)) ∙ split-below first last lists b split below)
    (λ b past. among-high count b lists past)

-- Units whose entries end before the cut.

shares-read : (pool : ℕ) (h : List Entry) (cast : Cast) (unit : ScriptUnit) (count : ℕ) (lists : List (List ℕ)) (afters : List Machine)
    → ((b : ℕ) → 1 ≤ times_among b lists → b ≤ count) → EachShare (ReplaysShare pool h) cast unit lists afters
    → EachShare (ReplaysShare pool (take count h)) cast unit lists afters
shares-read pool h cast [] count [] [] within each = tt
shares-read pool h cast (share ∷ shares) count (ns ∷ lists) (a ∷ afters) within each =
    ((each.0.0, each.0.1, (reads-to-last pool h count (starting share each.0.0) ns a (last ns front)).0 each.0.2), shares-read pool h cast shares count lists afters back each.1)
  where
    front : (b : ℕ) → 1 ≤ count_of b ns → b ≤ count
    front b some = let all = among-cons b ns lists in within b (omega (arith, all, some))

    back : (b : ℕ) → 1 ≤ times_among b lists → b ≤ count
    back b some = let all = among-cons b ns lists in within b (omega (arith, all, some))

    last : (ms : List ℕ) → ((b : ℕ) → 1 ≤ count_of b ms → b ≤ count) → last_of ms ≤ count
    last [] f = omega arith
    last (m ∷ ms) f = f (last_behind m ms) (last-counted m ms)
shares-read pool h cast _ count _ _ within each = absurd each

unit-cut : (pool : ℕ) (h : List Entry) (cast : Cast) (first : ℕ) (unit : ScriptUnit) (next : Cast) (last count : ℕ)
    → last ≤ count → ReplaysUnit pool h cast first unit next last → ReplaysUnit pool (take count h) cast first unit next last
unit-cut pool h cast first unit next last count up r = record {
  lists = r.lists;
  afters = r.afters;
  forward = r.forward;
  within = length-take h count last up r.within;
  split = r.split;
  replays = shares-read pool h cast unit count r.lists r.afters (λ b some. let in' = (split-in first last r.lists b r.split some).1 in omega (arith, in', up)) r.replays;
  ended = subst (λ (es : List Entry). AllByRecursion (NeedsNoCall pool es) r.afters) (sym (take-take last count h up)) r.ended;
  others = r.others;
}

pub replayed-forward : (pool : ℕ) (h : List Entry) (cast : Cast) (first : ℕ) (units : List ScriptUnit) (next : Cast) (last : ℕ)
    → ReplaysUnits pool h cast first units next last → first ≤ last
replayed-forward pool h cast first [] next last r = let is : last ≡ first = r.1 in omega (arith, is)
replayed-forward pool h cast first (unit ∷ units) next last r =
    let up = r.1.1.0.forward in
    let rest = replayed-forward pool h r.0 r.1.0 units next last r.1.1.1 in
    omega (arith, up, rest)

-- units are read in the history up to their last entry
pub units-cut : (pool : ℕ) (h : List Entry) (cast : Cast) (first : ℕ) (units : List ScriptUnit) (next : Cast) (last count : ℕ)
    → last ≤ count → ReplaysUnits pool h cast first units next last → ReplaysUnits pool (take count h) cast first units next last
units-cut pool h cast first [] next last count up r = r
units-cut pool h cast first (unit ∷ units) next last count up r =
    let forward = replayed-forward pool h r.0 r.1.0 units next last r.1.1.1 in
    (r.0, (r.1.0, (unit-cut pool h cast first unit r.0 r.1.0 count (omega (arith, forward, up)) r.1.1.0, units-cut pool h r.0 r.1.0 units next last count up r.1.1.1)))
