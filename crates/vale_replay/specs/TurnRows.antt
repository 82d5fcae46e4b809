-- What it says that a history plays a script, as small laws that each lean on one clause of it.
use Rattle.std.specs.Prelude.{ℕ, ◌≡◌, ◌≤◌, List, [], take, length, Some, refl}
use Rattle.std.specs.List.{AllByRecursion}
use Rattle.vale_entry.specs.Legal.{world_of}
use Rattle.vale_entry.specs.declared.entry.Ask.{Ask}
use Rattle.vale_entry.specs.declared.entry.Entry.{Entry}
use Rattle.vale_script.specs.Script.{Program}
use Rattle.vale_replay.specs.Joined.{TurnsOfUnit, HasTurns}
use Rattle.vale_replay.specs.Laws.{HaveLeft}
use Rattle.vale_replay.specs.Machine.{Machine}
use Rattle.vale_replay.specs.Replay.{Cast, ScriptUnit, TakesTurn, ReplaysUser, PlaysUser, ReplaysUnit, HasPlayed, Reaches, ComesTo, NeedsNoCall, caller_of, last_of}
use Rattle.vale_replay.specs.Tasks.{Captures}

-- A user's turn is an entry of its own session, or that of its coming.
own_turn : (pool : ℕ) (history : List Entry) (before : Machine) (number : ℕ) (after : Machine) (t : TakesTurn pool history before number after)
    → caller_of number before t.ask ≡ Some t.entry.session
own_turn pool history before number after t = t.caller

-- Behind its last turn a user that has played its lines has none left, and needs no call.
played_out : (pool : ℕ) (history : List Entry) (before : Machine) (numbers : List ℕ) (after : Machine) → PlaysUser pool history before numbers after
    → (after.tasks ≡ []) × NeedsNoCall pool (take (last_of numbers) history) after
played_out pool history before numbers after plays = (plays.no_task, plays.ended)

-- A unit ends behind its beginning, within the history, and where none of its users needs a call.
unit_ended : (pool : ℕ) (history : List Entry) (cast : Cast) (first : ℕ) (unit : ScriptUnit) (next : Cast) (last : ℕ) (u : ReplaysUnit pool history cast first unit next last)
    → (first ≤ last) × ((last ≤ length history) × AllByRecursion (NeedsNoCall pool (take last history)) u.afters)
unit_ended pool history cast first unit next last u = (u.forward, (u.within, u.ended))

-- At a history's end nobody is there.
nobody_left : (pool : ℕ) (history : List Entry) (users : List Machine) → HaveLeft pool history users
    → ((world_of pool history).sessions ≡ []) × ((world_of pool history).ports ≡ [])
nobody_left pool history users left = (left.no_session, left.no_port)

-- No clause may go.

whole_turn : (pool : ℕ) (history : List Entry) (before : Machine) (number : ℕ) (after : Machine) (t : TakesTurn pool history before number after)
    → t ≡ record { ask = t.ask; asked = t.asked; entry = t.entry; made = t.made; there = t.there; caller = t.caller; goes_on = t.goes_on }
whole_turn pool history before number after t = refl

whole_replay : (pool : ℕ) (history : List Entry) (before : Machine) (numbers : List ℕ) (after : Machine) (r : ReplaysUser pool history before numbers after)
    → r ≡ record { rise = r.rise; turns = r.turns }
whole_replay pool history before numbers after r = refl

whole_user : (pool : ℕ) (history : List Entry) (before : Machine) (numbers : List ℕ) (after : Machine) (p : PlaysUser pool history before numbers after)
    → p ≡ record { replays = p.replays; no_task = p.no_task; ended = p.ended }
whole_user pool history before numbers after p = refl

whole_unit : (pool : ℕ) (history : List Entry) (cast : Cast) (first : ℕ) (unit : ScriptUnit) (next : Cast) (last : ℕ) (u : ReplaysUnit pool history cast first unit next last)
    → u ≡ record { lists = u.lists; afters = u.afters; forward = u.forward; within = u.within; split = u.split; replays = u.replays; ended = u.ended; others = u.others }
whole_unit pool history cast first unit next last u = refl

whole_history : (program : Program) (captures : Captures) (history : List Entry) (cast : Cast) (h : HasPlayed program captures history cast)
    → h ≡ record { files = h.files; units = h.units }
whole_history program captures history cast h = refl

whole_reach : (program : Program) (captures : Captures) (history : List Entry) (nows : Cast) (r : Reaches program captures history nows)
    → r ≡ record { files = r.files; count = r.count; unit = r.unit; there = r.there; cast = r.cast; first = r.first; units = r.units; forward = r.forward; lists = r.lists; afters = r.afters; split = r.split; replays = r.replays; nows_are = r.nows_are }
whole_reach program captures history nows r = refl

whole_call : (program : Program) (captures : Captures) (history : List Entry) (user : ℕ) (call : Ask) (c : ComesTo program captures history user call)
    → c ≡ record { nows = c.nows; reached = c.reached; of_unit = c.of_unit; now = c.now; here = c.here; called = c.called }
whole_call program captures history user call c = refl

whole_leaving : (pool : ℕ) (history : List Entry) (users : List Machine) (left : HaveLeft pool history users)
    → left ≡ record { each = left.each; no_session = left.no_session; no_port = left.no_port }
whole_leaving pool history users left = refl

whole_turns_of_unit : (pool : ℕ) (history : List Entry) (cast : Cast) (first : ℕ) (unit : ScriptUnit) (lists : List (List ℕ)) (next : Cast) (last : ℕ) (t : TurnsOfUnit pool history cast first unit lists next last)
    → t ≡ record { afters = t.afters; forward = t.forward; plays = t.plays; inside = t.inside; others = t.others }
whole_turns_of_unit pool history cast first unit lists next last t = refl

whole_turns : (program : Program) (captures : Captures) (history : List Entry) (lists : List (List (List ℕ))) (cast : Cast) (h : HasTurns program captures history lists cast)
    → h ≡ record { files = h.files; turns = h.turns }
whole_turns program captures history lists cast h = refl
