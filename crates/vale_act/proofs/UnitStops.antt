-- Where users stop in a unit of a script, and all of them leave.
use Rattle.std.proofs.Common.{ℕ, ◌+◌, ◌<◌, ◌≤◌, ◌≡◌, inr, List, [], ◌∷◌, ◌++◌, length, take, sym, ◌∙◌, ap, subst, arith}
use mathlib.Core.List.{IsPrefix}
use Rattle.nm_turn.specs.Numbered.{numbers}
use Rattle.nm_turn.proofs.Prefixes.{prefix_length, prefix_trans}
use Rattle.vale_entry.specs.declared.entry.Ask.{Ask}
use Rattle.vale_entry.specs.declared.entry.Entry.{Entry}
use Rattle.vale_entry.specs.Legal.{standing_of, world_of}
use Rattle.vale_replay.specs.Machine.{Machine, next_call}
use Rattle.vale_replay.specs.Replay.{UnitShare, EachShare, PlaysUser, AreSplit, cast_of, last_of, starting, times_among, units_of}
use Rattle.vale_replay.specs.Joined.{lists_in}
use Rattle.vale_replay.specs.Stops.{PlaysOrStops}
use Rattle.vale_replay.proofs.Numbers.{rise-within}
use Rattle.vale_replay.proofs.Members.{each-weaker}
use Rattle.vale_replay.proofs.Joins.{among-append, outside-lists, outside-units, split-below, split-from, split-has}
use Rattle.vale_act.specs.Units.{AreUsersFrom, StopIsWhole}
use Rattle.vale_player.proofs.Working.{longer-replays}
use Rattle.vale_player.proofs.Keeping.{take-longer}
use Rattle.vale_act.proofs.UnitTurns.{alone-made, turns-longer, whole-split}

longer-plays : (pool : ℕ) (h k : List Entry) (before : Machine) (ns : List ℕ) (after : Machine) → IsPrefix h k → PlaysUser pool h before ns after → PlaysUser pool k before ns after
longer-plays pool h k before ns after begins plays = record {
  replays = longer-replays pool h k before ns after begins plays.replays;
  no_task = plays.no_task;
  ended = ap (λ (es : List Entry). next_call (standing_of pool es).world after) (take-longer h k (last_of ns) begins (rise-within 0 ns (length h) plays.replays.rise)) ∙ plays.ended;
}

longer-works : (pool : ℕ) (h k : List Entry) (count user : ℕ) (call : Ask) → IsPrefix h k → count ≤ length h → (share : UnitShare) (before : Machine) (ns : List ℕ) (after : Machine)
    → PlaysOrStops pool h count user call share before ns after → PlaysOrStops pool k count user call share before ns after
longer-works pool h k count user call begins within share before ns after works = record {
  replays = longer-replays pool h k (starting share before) ns after begins works.replays;
  smaller = λ less. longer-plays pool h k (starting share before) ns after begins (works.smaller less);
  stops = λ is. let stops = works.stops is in record {
    seen = stops.seen;
    called = ap (λ (es : List Entry). next_call (world_of pool es) after) (take-longer h k count begins within) ∙ stops.called;
  };
}

pub stop-whole : StopIsWhole
stop-whole program captures fixed done unit user count call fault main next last before after seats files pool there played stops begins kept none whole = record {
  files = files;
  done = done;
  lists = played.lists;
  cast = played.cast;
  first = length main.seen;
  turns = turns-longer program.pool main.seen last.seen (cast_of program) (take done (units_of program captures)) played.lists played.cast (prefix_trans main.seen next.seen last.seen stops.begins begins) played.turns;
  unit = unit;
  there = there;
  of_unit = stops.of_unit;
  last = length next.seen;
  unit_lists = stops.lists;
  afters = works.0;
  works = each-weaker (PlaysOrStops program.pool next.seen count user call) (PlaysOrStops program.pool last.seen count user call) played.cast unit stops.lists works.0
      (longer-works program.pool next.seen last.seen count user call begins stops.seen) works.1;
  inside = stops.inside;
  split = split-from 0 (length next.seen) (lists_in played.lists ++ stops.lists) once below above;
  forward = stops.forward;
  seen = stops.seen;
  within = long;
}
  where
    works : (afters : List Machine) × EachShare (PlaysOrStops program.pool next.seen count user call) played.cast unit stops.lists afters
    works =
        subst (λ (p : ℕ). (afters : List Machine) × EachShare (PlaysOrStops p next.seen count user call) played.cast unit stops.lists afters) pool
        (stops.works played.cast (subst (λ (p : ℕ). AreUsersFrom p 1 before played.cast.users) (sym pool) played.users_are))

    long : length next.seen ≤ length last.seen
    long = prefix_length next.seen last.seen begins

    both : (b : ℕ) → times_among b (lists_in played.lists ++ stops.lists) ≡ times_among b (lists_in played.lists) + times_among b stops.lists
    both b = among-append b (lists_in played.lists) stops.lists

    -- the entries up to there were made by then
    then-made : (b : ℕ) → b ≤ length next.seen → times_among b (lists_in played.lists ++ stops.lists) ≡ times_among b (numbers last.mine ∷ [])
    then-made b within =
        both b ∙ ap (λ (k : ℕ). k + times_among b stops.lists) (sym (played.made b))
        ∙ sym (stops.made b) ∙ sym (kept b within) ∙ alone-made b last seats none

    all : AreSplit 0 (length last.seen) (numbers last.mine ∷ [])
    all = whole-split last.mine last.seen whole

    once : (b : ℕ) → 0 < b → b ≤ length next.seen → times_among b (lists_in played.lists ++ stops.lists) ≡ 1
    once b up down = then-made b down ∙ split-has 0 (length last.seen) (numbers last.mine ∷ []) b all up (omega (arith, down, long))

    below : (b : ℕ) → b ≤ 0 → times_among b (lists_in played.lists ++ stops.lists) ≡ 0
    below b down = then-made b (omega (arith, down)) ∙ split-below 0 (length last.seen) (numbers last.mine ∷ []) b all down

    above : (b : ℕ) → length next.seen < b → times_among b (lists_in played.lists ++ stops.lists) ≡ 0
    above b past =
        let before-unit = prefix_length main.seen next.seen stops.begins in
        let one = outside-units program.pool main.seen (cast_of program) 0 (take done (units_of program captures)) played.lists played.cast (length main.seen) b played.turns (inr (omega (arith, past, before-unit))) in
        let two = outside-lists (length main.seen) (length next.seen) b stops.lists (inr past) stops.inside in
        let all = both b in
        omega (arith, one, two, all)
