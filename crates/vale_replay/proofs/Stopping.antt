-- Where a user of a unit stops, the history up to there comes to its call.
use Rattle.std.proofs.Common.{ℕ, ◌+◌, ◌<◌, ◌≤◌, ◌≡◌, ◌⊎◌, inl, inr, List, ◌++◌, length, map, take, Some, refl, sym, ◌∙◌, ap, subst, arith}
use Rattle.std.proofs.lemmas.Bool.{cases_lt}
use Rattle.std.proofs.lemmas.List.{length-take-le}
use Rattle.vale_entry.specs.declared.entry.Ask.{Ask}
use Rattle.vale_entry.specs.declared.entry.Entry.{Entry}
use Rattle.vale_entry.specs.Legal.{world_of, IsLegal}
use Rattle.vale_replay.specs.Machine.{Machine, next_call}
use Rattle.vale_replay.specs.Replay.{UnitShare, ScriptUnit, EachShare, ReplaysUser, ReplaysShare, AreSplit, cast_after, cast_of, starting, times_among, units_of, with_afters}
use Rattle.vale_replay.specs.Joined.{lists_in}
use Rattle.vale_replay.specs.Stops.{PlaysIfSmaller, PlaysOrStops, UsersStop}
use Rattle.vale_replay.proofs.Turns.{states-one, reads-to-last}
use Rattle.vale_replay.proofs.Legal.{FollowsAt, shares-follow, legal-to}
use Rattle.vale_replay.proofs.Members.{HasShare, has-share, have-same, each-weaker}
use Rattle.vale_replay.proofs.Joins.{Joined, split-has, split-from, outside-lists, outside-units, among-append, joined-units, units-turns-follow, units-apart, take-apart, apart-at, first-come, first-owes}
use Rattle.vale_replay.proofs.Cuts.{CutUser, CutShares, up_to, up_to-whole, user-cut, shares-cut, split-cut, units-cut}

-- a user of a cut unit, and the one that stops comes to its call there
abbrev CutShare : ℕ → List Entry → ℕ → Ask → UnitShare → Machine → List ℕ → Machine → Type 0
CutShare pool h user call share before ns now =
    ReplaysShare pool h share before ns now
    × (share.user ≡ user → next_call (world_of pool h) now ≡ Some call)

share-cut : (pool : ℕ) (h : List Entry) (count user : ℕ) (call : Ask) (share : UnitShare) (before : Machine) (ns : List ℕ) (after : Machine)
    → PlaysOrStops pool h count user call share before ns after
    → (now : Machine) × CutShare pool (take count h) user call share before (up_to count ns) now
share-cut pool h count user call share before ns after works = (cut.now, (cut.replays, called))
  where
    cut : CutUser pool h count (starting share before) ns
    cut = user-cut pool h count (starting share before) ns after works.replays

    called : share.user ≡ user → next_call (world_of pool (take count h)) cut.now ≡ Some call
    called is =
        let stops = works.stops is in
        let whole : up_to count ns ≡ ns = up_to-whole count 0 ns (length h) works.replays.rise stops.seen in
        let one : ReplaysUser pool (take count h) (starting share before) ns after = (reads-to-last pool h count (starting share before) ns after stops.seen).0 works.replays in
        let two : ReplaysUser pool (take count h) (starting share before) ns cut.now = subst (λ (ms : List ℕ). ReplaysUser pool (take count h) (starting share before) ms cut.now) whole cut.replays in
        let same : after ≡ cut.now = states-one pool (take count h) (starting share before) ns after cut.now one two in
        ap (next_call (world_of pool (take count h))) (sym same) ∙ stops.called

replays-of : (pool : ℕ) (h : List Entry) (count user : ℕ) (call : Ask) (share : UnitShare) (before : Machine) (ns : List ℕ) (after : Machine)
    → PlaysOrStops pool h count user call share before ns after → ReplaysShare pool h share before ns after
replays-of pool h count user call share before ns after works = works.replays

smaller-of : (pool : ℕ) (h : List Entry) (count user : ℕ) (call : Ask) (share : UnitShare) (before : Machine) (ns : List ℕ) (after : Machine)
    → PlaysOrStops pool h count user call share before ns after → PlaysIfSmaller pool h user share before ns after
smaller-of pool h count user call share before ns after works = works.smaller

cut-replays : (pool : ℕ) (h : List Entry) (user : ℕ) (call : Ask) (share : UnitShare) (before : Machine) (ns : List ℕ) (now : Machine)
    → CutShare pool h user call share before ns now → ReplaysShare pool h share before ns now
cut-replays pool h user call share before ns now cut = cut.0

pub users-stop : UsersStop
users-stop program captures h count user call stopped = record {
  comes = record {
    nows = cast_after stopped.unit cut.nows stopped.cast;
    reached = record {
      files = stopped.files;
      count = stopped.done;
      unit = stopped.unit;
      forward = subst (λ (n : ℕ). stopped.first ≤ n) (sym total) stopped.forward;
      there = stopped.there;
      cast = stopped.cast;
      first = stopped.first;
      units = units-cut program.pool h (cast_of program) 0 (take stopped.done (units_of program captures)) stopped.cast stopped.first count stopped.forward joined.replays;
      lists = map (up_to count) stopped.unit_lists;
      afters = cut.nows;
      split = subst (λ (n : ℕ). AreSplit stopped.first n (map (up_to count) stopped.unit_lists)) (sym total)
          (split-cut program.pool h stopped.cast stopped.unit count stopped.unit_lists stopped.afters stopped.first stopped.last each stopped.forward stopped.seen split);
      replays = each-weaker (CutShare program.pool (take count h) user call) (ReplaysShare program.pool (take count h)) stopped.cast stopped.unit (map (up_to count) stopped.unit_lists) cut.nows
          (cut-replays program.pool (take count h) user call) cut.each;
      nows_are = refl;
    };
    of_unit = stopped.of_unit;
    now = found.now;
    here = found.here;
    called = found.goes.1 found.is;
  };
  lists = stopped.unit_lists;
  afters = stopped.afters;
  smaller = each-weaker (PlaysOrStops program.pool h count user call) (PlaysIfSmaller program.pool h user) stopped.cast stopped.unit stopped.unit_lists stopped.afters (smaller-of program.pool h count user call) stopped.works;
}
  where
    units : List ScriptUnit
    units = take stopped.done (units_of program captures)

    total : length (take count h) ≡ count
    total = let seen = stopped.seen in let within = stopped.within in length-take-le count h (omega (arith, seen, within))

    each : EachShare (ReplaysShare program.pool h) stopped.cast stopped.unit stopped.unit_lists stopped.afters
    each = each-weaker (PlaysOrStops program.pool h count user call) (ReplaysShare program.pool h) stopped.cast stopped.unit stopped.unit_lists stopped.afters (replays-of program.pool h count user call) stopped.works

    all : (b : ℕ) → times_among b (lists_in stopped.lists ++ stopped.unit_lists) ≡ times_among b (lists_in stopped.lists) + times_among b stopped.unit_lists
    all b = among-append b (lists_in stopped.lists) stopped.unit_lists

    ordered : stopped.first ≤ stopped.last
    ordered = let low = stopped.forward in let high = stopped.seen in omega (arith, low, high)

    once : (b : ℕ) → 0 < b → b ≤ stopped.first → times_among b (lists_in stopped.lists) ≡ 1
    once b up down =
        let one = split-has 0 stopped.last (lists_in stopped.lists ++ stopped.unit_lists) b stopped.split up (omega (arith, down, ordered)) in
        let none = outside-lists stopped.first stopped.last b stopped.unit_lists (inl down) stopped.inside in
        let both = all b in
        omega (arith, one, none, both)

    here : (b : ℕ) → stopped.first < b → b ≤ stopped.last → times_among b stopped.unit_lists ≡ 1
    here b up down =
        let one = split-has 0 stopped.last (lists_in stopped.lists ++ stopped.unit_lists) b stopped.split (omega (arith, up)) down in
        let none = outside-units program.pool h (cast_of program) 0 units stopped.lists stopped.cast stopped.first b stopped.turns (inr up) in
        let both = all b in
        omega (arith, one, none, both)

    split : AreSplit stopped.first stopped.last stopped.unit_lists
    split = split-from stopped.first stopped.last stopped.unit_lists here
        (λ b below. outside-lists stopped.first stopped.last b stopped.unit_lists (inl below) stopped.inside) (λ b past. outside-lists stopped.first stopped.last b stopped.unit_lists (inr past) stopped.inside)

    follows : (b : ℕ) → 0 < b → b ≤ stopped.last → FollowsAt program.pool h b
    follows b up down = by_unit (cases_lt stopped.first b)
      where
        by_unit : (stopped.first < b) ⊎ (b ≤ stopped.first) → FollowsAt program.pool h b
        by_unit (inl later) =
            let one = here b later down in
            shares-follow program.pool h b stopped.cast stopped.unit stopped.unit_lists stopped.afters each (omega (arith, one))
        by_unit (inr early) =
            let one = once b up early in
            units-turns-follow program.pool h (cast_of program) 0 units stopped.lists stopped.cast stopped.first b stopped.turns (omega (arith, one))

    legal : (n : ℕ) → n ≤ stopped.first → IsLegal program.pool (take n h)
    legal n below = legal-to program.pool h stopped.last follows n (omega (arith, below, ordered))

    joined : Joined program.pool h (cast_of program) 0 units stopped.cast stopped.first
    joined =
        let within = stopped.within in
        joined-units program.pool h (cast_of program) 0 units stopped.lists stopped.cast stopped.first (take-apart stopped.done (units_of program captures) (units-apart program captures)) legal
        (omega (arith, ordered, within)) once (first-come program) (first-owes program (take 0 h)) stopped.turns

    cut : CutShares (CutShare program.pool (take count h) user call) stopped.cast stopped.unit count stopped.unit_lists
    cut = shares-cut (PlaysOrStops program.pool h count user call) (CutShare program.pool (take count h) user call) stopped.cast stopped.unit count stopped.unit_lists stopped.afters
        (share-cut program.pool h count user call) stopped.works

    found : HasShare (CutShare program.pool (take count h) user call) cut.nows (with_afters stopped.unit cut.nows stopped.cast.users) user
    found = has-share (CutShare program.pool (take count h) user call) stopped.cast stopped.cast.users stopped.unit (map (up_to count) stopped.unit_lists) cut.nows user
        (apart-at stopped.done (units_of program captures) stopped.unit (units-apart program captures) stopped.there) cut.each (have-same stopped.cast.users stopped.unit) stopped.of_unit
