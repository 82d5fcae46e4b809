-- A user's turns: what they read of a history, in two pieces, and that their states are one.
use Rattle.std.proofs.Common.{ℕ, zero, suc, ◌-◌, ◌<◌, ◌≤◌, ◌≡◌, List, [], ◌∷◌, ◌++◌, length, take, slice_get, Some, refl, sym, ◌∙◌, ap, subst, arith}
use Rattle.std.specs.Prelude.{◌↔◌}
use Rattle.std.proofs.lemmas.List.{take-take}
use Rattle.std.proofs.lemmas.Option.{same_Some}
use Rattle.vale_entry.specs.declared.entry.Ask.{Ask}
use Rattle.vale_entry.specs.declared.entry.Entry.{Entry}
use Rattle.vale_entry.specs.Arrivals.{arrivals_of}
use Rattle.vale_entry.specs.Laws.{Rise}
use Rattle.vale_entry.specs.Legal.{Standing, standing_of}
use Rattle.vale_replay.specs.Machine.{Machine, next_call, answered, resting}
use Rattle.vale_replay.specs.Replay.{TakesTurn, TakesTurns, ReplaysUser, standing_before, entry_made, last_of, last_behind}
use Rattle.vale_replay.specs.Laws.{PiecesAreOne, ReadsToItsLast, StatesAreOne, GoBetween}
use Rattle.vale_replay.proofs.Numbers.{rise-front, rise-back, rise-cut, rise-last, rise-within}

-- what a turn's entry is, and where it leads, from what stands before it alone
pub entry-same : (s : Standing) (m : Machine) (ask other : Ask) (entry entry' : Entry)
    → next_call s.world m ≡ Some ask → next_call s.world m ≡ Some other
    → entry_made s ask ≡ Some entry → entry_made s other ≡ Some entry' → entry ≡ entry'
entry-same s m ask other entry entry' one two made made' =
    let asks : ask ≡ other = same_Some ask other (sym one ∙ two) in
    same_Some entry entry' (sym made ∙ ap (entry_made s) asks ∙ made')

pub turn-one : (pool : ℕ) (h : List Entry) (m : Machine) (n : ℕ) (after other : Machine)
    → TakesTurn pool h m n after → TakesTurn pool h m n other → after ≡ other
turn-one pool h m n after other one two =
    let s = standing_before pool h n in
    let entries = entry-same s m one.ask two.ask one.entry two.entry one.asked two.asked one.made two.made in
    one.goes_on ∙ ap (λ (e : Entry). resting (answered n e (arrivals_of s e.ask e.reply) m)) entries ∙ sym two.goes_on

turns-one : (pool : ℕ) (h : List Entry) (m : Machine) (ns : List ℕ) (after other : Machine)
    → TakesTurns pool h m ns after → TakesTurns pool h m ns other → after ≡ other
turns-one pool h m [] after other one two = one ∙ sym two
turns-one pool h m (n ∷ ns) after other one two =
    let same : two.0 ≡ one.0 = turn-one pool h m n two.0 one.0 two.1.0 one.1.0 in
    turns-one pool h one.0 ns after other one.1.1 (subst (λ (x : Machine). TakesTurns pool h x ns other) same two.1.1)

pub states-one : StatesAreOne
states-one pool h before ns after other one two = turns-one pool h before ns after other one.turns two.turns

-- Two pieces.

record Between (pool : ℕ) (h : List Entry) (before : Machine) (ns ms : List ℕ) (after : Machine) : Type 0 where
  between : Machine
  front : TakesTurns pool h before ns between
  back : TakesTurns pool h between ms after

turns-split : (pool : ℕ) (h : List Entry) (before : Machine) (ns ms : List ℕ) (after : Machine)
    → TakesTurns pool h before (ns ++ ms) after → Between pool h before ns ms after
turns-split pool h before [] ms after turns = record { between = before; front = refl; back = turns }
turns-split pool h before (n ∷ ns) ms after turns =
    let rest = turns-split pool h turns.0 ns ms after turns.1.1 in
    record { between = rest.between; front = (turns.0, (turns.1.0, rest.front)); back = rest.back }

turns-append : (pool : ℕ) (h : List Entry) (before : Machine) (ns ms : List ℕ) (between after : Machine)
    → TakesTurns pool h before ns between → TakesTurns pool h between ms after
    → TakesTurns pool h before (ns ++ ms) after
turns-append pool h before [] ms between after front back = subst (λ (m : Machine). TakesTurns pool h m ms after) front back
turns-append pool h before (n ∷ ns) ms between after front back = (front.0, (front.1.0, turns-append pool h front.0 ns ms between after front.1.1 back))

pub pieces-one : PiecesAreOne
pieces-one pool h before ns ms after rise = (cut, join)
  where
    cut : ReplaysUser pool h before (ns ++ ms) after → GoBetween pool h before ns ms after
    cut replays =
        let parts = turns-split pool h before ns ms after replays.turns in
        record {
          between = parts.between;
          front = record { rise = rise-front 0 ns ms (length h) replays.rise; turns = parts.front };
          back = record { rise = rise-back 0 ns ms (length h) replays.rise; turns = parts.back };
        }

    join : GoBetween pool h before ns ms after → ReplaysUser pool h before (ns ++ ms) after
    join both = record { rise = rise; turns = turns-append pool h before ns ms both.between after both.front.turns both.back.turns }

-- What is read of a history.

pub slice_get-take : (h : List Entry) (n count : ℕ) → n < count
    → slice_get (take count h) n ≡ slice_get h n
slice_get-take h n zero up = absurd (omega (arith, up))
slice_get-take [] n (suc count) up = refl
slice_get-take (e ∷ h) zero (suc count) up = refl
slice_get-take (e ∷ h) (suc n) (suc count) up = slice_get-take h n count (omega (arith, up))

pub length-take : (h : List Entry) (count high : ℕ) → high ≤ count → high ≤ length h
    → high ≤ length (take count h)
length-take h zero high up within = omega (arith, up)
length-take [] (suc count) high up within = within
length-take (e ∷ h) (suc count) zero up within = omega arith
length-take (e ∷ h) (suc count) (suc high) up within =
    let rest = length-take h count high (omega (arith, up)) (omega (arith, within)) in
    omega (arith, rest)

length-less : (h : List Entry) (count : ℕ) → length (take count h) ≤ length h
length-less h zero = omega arith
length-less [] (suc count) = omega arith
length-less (e ∷ h) (suc count) = let rest = length-less h count in omega (arith, rest)

turn-cut : (pool : ℕ) (h : List Entry) (count : ℕ) (before : Machine) (n : ℕ) (after : Machine)
    → 0 < n → n ≤ count
    → TakesTurn pool h before n after ↔ TakesTurn pool (take count h) before n after
turn-cut pool h count before n after some within = (cut, back)
  where
    inside : n - 1 < count
    inside = omega (arith, some, within)

    stands : standing_before pool (take count h) n ≡ standing_before pool h n
    stands = ap (standing_of pool) (take-take (n - 1) count h (omega (arith, within)))

    at : slice_get (take count h) (n - 1) ≡ slice_get h (n - 1)
    at = slice_get-take h (n - 1) count inside

    cut : TakesTurn pool h before n after → TakesTurn pool (take count h) before n after
    cut turn = record {
      ask = turn.ask;
      asked = ap (λ (s : Standing). next_call s.world before) stands ∙ turn.asked;
      entry = turn.entry;
      made = ap (λ (s : Standing). entry_made s turn.ask) stands ∙ turn.made;
      there = at ∙ turn.there;
      caller = turn.caller;
      goes_on = turn.goes_on ∙ ap (λ (s : Standing). resting (answered n turn.entry (arrivals_of s turn.entry.ask turn.entry.reply) before)) (sym stands);
    }

    back : TakesTurn pool (take count h) before n after → TakesTurn pool h before n after
    back turn = record {
      ask = turn.ask;
      asked = ap (λ (s : Standing). next_call s.world before) (sym stands) ∙ turn.asked;
      entry = turn.entry;
      made = ap (λ (s : Standing). entry_made s turn.ask) (sym stands) ∙ turn.made;
      there = sym at ∙ turn.there;
      caller = turn.caller;
      goes_on = turn.goes_on ∙ ap (λ (s : Standing). resting (answered n turn.entry (arrivals_of s turn.entry.ask turn.entry.reply) before)) stands;
    }

turns-cut : (pool : ℕ) (h : List Entry) (count low high : ℕ) (before : Machine) (ns : List ℕ) (after : Machine)
    → Rise low ns high → last_behind low ns ≤ count
    → TakesTurns pool h before ns after → TakesTurns pool (take count h) before ns after
turns-cut pool h count low high before [] after rise within turns = turns
turns-cut pool h count low high before (n ∷ ns) after rise within turns =
    let up = rise.0 in
    let last = rise-last n ns high rise.1 in
    (turns.0, ((turn-cut pool h count before n turns.0 (omega (arith, up)) (omega (arith, last, within))).0 turns.1.0, turns-cut pool h count n high turns.0 ns after rise.1 within turns.1.1))

pub turns-back : (pool : ℕ) (h : List Entry) (count low high : ℕ) (before : Machine) (ns : List ℕ) (after : Machine)
    → Rise low ns high → last_behind low ns ≤ count
    → TakesTurns pool (take count h) before ns after → TakesTurns pool h before ns after
turns-back pool h count low high before [] after rise within turns = turns
turns-back pool h count low high before (n ∷ ns) after rise within turns =
    let up = rise.0 in
    let last = rise-last n ns high rise.1 in
    (turns.0, ((turn-cut pool h count before n turns.0 (omega (arith, up)) (omega (arith, last, within))).1 turns.1.0, turns-back pool h count n high turns.0 ns after rise.1 within turns.1.1))

pub reads-to-last : ReadsToItsLast
reads-to-last pool h count before ns after within = (cut, back)
  where
    cut : ReplaysUser pool h before ns after → ReplaysUser pool (take count h) before ns after
    cut one = record {
      rise = rise-cut 0 ns (length h) (length (take count h)) one.rise (length-take h count (last_of ns) within (rise-within 0 ns (length h) one.rise));
      turns = turns-cut pool h count 0 (length h) before ns after one.rise within one.turns;
    }

    back : ReplaysUser pool (take count h) before ns after → ReplaysUser pool h before ns after
    back one =
        let less = length-less h count in
        let last = rise-within 0 ns (length (take count h)) one.rise in
        record {
          rise = rise-cut 0 ns (length (take count h)) (length h) one.rise (omega (arith, less, last));
          turns = turns-back pool h count 0 (length (take count h)) before ns after one.rise within one.turns;
        }
