-- What it says that a user stops in a block, as small laws that each lean on one clause of it.
use Rattle.std.specs.Prelude.{ℕ, ◌≡◌, ◌+◌, ◌<◌, ◌≤◌, List, length, refl}
use Rattle.std.proofs.Common.{arith}
use Rattle.vale_entry.specs.declared.entry.Ask.{Ask}
use Rattle.vale_entry.specs.declared.entry.Entry.{Entry}
use Rattle.vale_script.specs.Script.{Program}
use Rattle.vale_replay.specs.Joined.{PlaysShare}
use Rattle.vale_replay.specs.Machine.{Machine}
use Rattle.vale_replay.specs.Replay.{UnitShare}
use Rattle.vale_replay.specs.Stops.{PlaysIfSmaller, StopsUser, PlaysOrStops, HasStopped, StopsAt}
use Rattle.vale_replay.specs.Tasks.{Captures}

-- The user just before the one that stops has played its lines.
before_a_stop : (pool : ℕ) (history : List Entry) (share : UnitShare) (before : Machine) (numbers : List ℕ) (after : Machine)
    → PlaysIfSmaller pool history (share.user + 1) share before numbers after → PlaysShare pool history share before numbers after
before_a_stop pool history share before numbers after plays = plays (just_below share.user)
  where
    just_below : (user : ℕ) → user < user + 1
    just_below user = omega arith

-- A user stops at a call that stands behind all earlier units, and at the history's end at the latest.
stop_within : (program : Program) (captures : Captures) (history : List Entry) (count user : ℕ) (call : Ask) (s : HasStopped program captures history count user call)
    → (s.first ≤ count) × (count ≤ length history)
stop_within program captures history count user call s = (s.forward, omega (arith, s.seen, s.within))

-- No clause may go.

whole_user : (pool : ℕ) (history : List Entry) (count : ℕ) (call : Ask) (numbers : List ℕ) (now : Machine) (s : StopsUser pool history count call numbers now)
    → s ≡ record { seen = s.seen; called = s.called }
whole_user pool history count call numbers now s = refl

whole_share : (pool : ℕ) (history : List Entry) (count user : ℕ) (call : Ask) (share : UnitShare) (before : Machine) (numbers : List ℕ) (after : Machine) (s : PlaysOrStops pool history count user call share before numbers after)
    → s ≡ record { replays = s.replays; smaller = s.smaller; stops = s.stops }
whole_share pool history count user call share before numbers after s = refl

whole_stop : (program : Program) (captures : Captures) (history : List Entry) (count user : ℕ) (call : Ask) (s : HasStopped program captures history count user call)
    → s ≡ record { files = s.files; done = s.done; lists = s.lists; cast = s.cast; first = s.first; turns = s.turns; unit = s.unit; there = s.there; of_unit = s.of_unit; last = s.last; unit_lists = s.unit_lists; afters = s.afters; works = s.works; inside = s.inside; split = s.split; forward = s.forward; seen = s.seen; within = s.within }
whole_stop program captures history count user call s = refl

whole_answer : (program : Program) (captures : Captures) (history : List Entry) (count user : ℕ) (call : Ask) (s : StopsAt program captures history count user call)
    → s ≡ record { comes = s.comes; lists = s.lists; afters = s.afters; smaller = s.smaller }
whole_answer program captures history count user call s = refl
