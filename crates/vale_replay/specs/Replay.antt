-- The histories that play a script: each user's entries are the calls of its machine, one after
-- another; the units of the script (its lines, its blocks, and then the closing of each user) have
-- consecutive ranges of entries, and each entry of a block's range is of one of its users.
use Rattle.std.specs.Prelude.{ℕ, Bool, true, ◌⊎◌, ◌&&◌, ◌==◌, ◌≡◌, ◌-◌, ◌≤◌, nat_le, nat_lt, if◌then◌else◌, List, [], ◌∷◌, ◌++◌, length, map, filter, flat_map, take, slice_get, slice_set, count_by, Option, Some, None, option_map}
use Rattle.std.specs.List.{range_with_len, list_any, AllByRecursion}
use Rattle.nm_types.specs.declared.id.SessionId.{SessionId}
use Rattle.vale_entry.specs.declared.entry.Ask.{Ask}
use Rattle.vale_entry.specs.declared.entry.Ask.TheVariants.{Enter}
use Rattle.vale_entry.specs.declared.entry.Entry.{Entry}
use Rattle.vale_entry.specs.Laws.{Rise}
use Rattle.vale_entry.specs.Arrivals.{arrivals_of}
pub use Rattle.vale_entry.specs.Legal.{entry_of}
use Rattle.vale_entry.specs.Legal.{Standing, step, standing_of}
use Rattle.vale_script.specs.declared.script.Act.{Act}
use Rattle.vale_script.specs.declared.script.Line.{Line}
use Rattle.vale_script.specs.declared.script.Unit.{Unit as ReadUnit}
use Rattle.vale_script.specs.declared.script.Unit.TheVariants as parts
use Rattle.vale_script.specs.Script.{Program}
use Rattle.vale_replay.specs.Tasks.{Captures, Task, records_of, tasks_of_lines}
use Rattle.vale_replay.specs.Machine.{Machine, new_machine, closing_tasks, resting, next_call, answered}

-- One user.

-- what stands before the entry of this number
abbrev pub standing_before : ℕ → List Entry → ℕ → Standing
standing_before pool history number = standing_of pool (take (number - 1) history)

-- whose a user's call is: a user comes as a session of the entry's number
abbrev pub caller_of : ℕ → Machine → Ask → Option SessionId
caller_of number user (Enter name) = Some (record { 0 = number })
caller_of number user _ = user.session

abbrev pub entry_made : Standing → Ask → Option Entry
entry_made s ask = option_map (entry_of ask) (step s ask)

-- the entry of this number is the one that the user's next call makes, and takes the user from one
-- state to another
pub record TakesTurn (pool : ℕ) (history : List Entry) (before : Machine) (number : ℕ) (after : Machine) : Type 0 where
  pub ask : Ask
  pub asked : next_call (standing_before pool history number).world before ≡ Some ask
  pub entry : Entry
  pub made : entry_made (standing_before pool history number) ask ≡ Some entry
  pub there : slice_get history (number - 1) ≡ Some entry
  pub caller : caller_of number before ask ≡ Some entry.session
  pub goes_on : after
      ≡ resting (answered number entry (arrivals_of (standing_before pool history number) entry.ask entry.reply) before)

abbrev pub TakesTurns : ℕ → List Entry → Machine → List ℕ → Machine → Type 0
TakesTurns pool history before [] after = after ≡ before
TakesTurns pool history before (number ∷ numbers) after =
    (between : Machine)
    × (TakesTurn pool history before number between × TakesTurns pool history between numbers after)

-- the entries of these numbers, which rise, are a user's calls one after another, and take it from
-- one state to another
pub record ReplaysUser (pool : ℕ) (history : List Entry) (before : Machine) (numbers : List ℕ) (after : Machine) : Type 0 where
  pub rise : Rise 0 numbers (length history)
  pub turns : TakesTurns pool history before numbers after

abbrev pub NeedsNoCall : ℕ → List Entry → Machine → Type 0
NeedsNoCall pool history user = next_call (standing_of pool history).world user ≡ None

-- the last of these numbers, 0 where there is none
abbrev pub last_behind : ℕ → List ℕ → ℕ
last_behind number [] = number
last_behind number (next ∷ numbers) = last_behind next numbers

abbrev pub last_of : List ℕ → ℕ
last_of numbers = last_behind 0 numbers

-- a user plays its lines by these entries: behind them it has nothing to do, and it needs no call in
-- what stands after the last of them, or before all entries if it has none
pub record PlaysUser (pool : ℕ) (history : List Entry) (before : Machine) (numbers : List ℕ) (after : Machine) : Type 0 where
  pub replays : ReplaysUser pool history before numbers after
  pub no_task : after.tasks ≡ []
  pub ended : NeedsNoCall pool (take (last_of numbers) history) after

-- All users of a script, each where it has come.
pub record Cast : Type 0 where
  pub users : List Machine

-- with this user in another state
abbrev pub with_user : Cast → ℕ → Machine → Cast
with_user cast user now = record cast { users = slice_set cast.users (user - 1) now }

-- The units of a script.

-- what a unit has one of its users do
pub record UnitShare : Type 0 where
  pub user : ℕ
  pub tasks : Machine → List Task

abbrev pub ScriptUnit : Type 0
ScriptUnit = List UnitShare

abbrev pub share_of : (List ℕ → List (List ℕ)) → ℕ → List Act → UnitShare
share_of records user acts =
    record { user = user; tasks = λ (machine : Machine). tasks_of_lines records acts }

abbrev pub is_of_user : ℕ → Line → Bool
is_of_user user line = line.user == user

abbrev pub act_of : Line → Act
act_of line = line.act

abbrev pub acts_of : List Line → ℕ → List Act
acts_of lines user = map act_of (filter (is_of_user user) lines)

abbrev pub has_line : List Line → ℕ → Bool
has_line lines user = list_any (is_of_user user) lines

-- a block has a share for each user that has lines in it
abbrev pub shares_of : (List ℕ → List (List ℕ)) → ℕ → ReadUnit → ScriptUnit
shares_of records users (parts.Single line) = share_of records line.user (line.act ∷ []) ∷ []
shares_of records users (parts.Block lines) =
    map (λ user. share_of records user (acts_of lines user))
    (filter (has_line lines) (range_with_len 1 users))

abbrev pub closing_unit : ℕ → ScriptUnit
closing_unit user = record { user = user; tasks = closing_tasks } ∷ []

abbrev pub user_count : Program → ℕ
user_count program = length program.users

-- the lines and blocks of a script in order, and then the closing of each user; `captures` has, for
-- each file that it plays, the captured bytes of its records
abbrev pub units_of : Program → Captures → List ScriptUnit
units_of program captures =
    map (shares_of (records_of program.files captures) (user_count program)) program.units
    ++ map closing_unit (range_with_len 1 (user_count program))

abbrev pub starting : UnitShare → Machine → Machine
starting share user = resting (record user { tasks = share.tasks user })

-- a relation for each share, from its user's state at the unit's beginning by its numbers to a
-- state
abbrev pub EachShare : (UnitShare → Machine → List ℕ → Machine → Type 0) → Cast → ScriptUnit
    → List (List ℕ) → List Machine → Type 0
EachShare R cast [] [] [] = Unit {0}
EachShare R cast (share ∷ shares) (numbers ∷ lists) (after ∷ afters) =
    ((before : Machine) × (slice_get cast.users (share.user - 1) ≡ Some before) × R share before numbers after)
    × EachShare R cast shares lists afters
EachShare R cast _ _ _ = ⊥

-- a share's user replays its entries from where the share starts
abbrev pub ReplaysShare : ℕ → List Entry → UnitShare → Machine → List ℕ → Machine → Type 0
ReplaysShare pool history share before numbers after =
    ReplaysUser pool history (starting share before) numbers after

-- each number behind the first ones up to the last one stands in just one of the lists, and no
-- other does
abbrev pub times_among : ℕ → List (List ℕ) → ℕ
times_among number lists =
    count_by (λ n. n == number) (flat_map (λ (numbers : List ℕ). numbers) lists)

abbrev pub AreSplit : ℕ → ℕ → List (List ℕ) → Type 0
AreSplit first last lists =
    (number : ℕ)
    → times_among number lists ≡ (if nat_lt first number && nat_le number last then 1 else 0)

abbrev pub with_afters : ScriptUnit → List Machine → List Machine → List Machine
with_afters [] afters users = users
with_afters (share ∷ shares) [] users = users
with_afters (share ∷ shares) (after ∷ afters) users =
    with_afters shares afters (slice_set users (share.user - 1) after)

-- the cast behind a unit
abbrev pub cast_after : ScriptUnit → List Machine → Cast → Cast
cast_after unit afters cast = record cast { users = with_afters unit afters cast.users }

-- a unit's entries are those behind the first ones up to the last one: with them its users have
-- done it, and none of them needs a call more
pub record ReplaysUnit (pool : ℕ) (history : List Entry) (cast : Cast) (first : ℕ) (unit : ScriptUnit) (next : Cast) (last : ℕ) : Type 0 where
  pub lists : List (List ℕ)
  pub afters : List Machine
  pub forward : first ≤ last
  pub within : last ≤ length history
  pub split : AreSplit first last lists
  pub replays : EachShare (ReplaysShare pool history) cast unit lists afters
  pub ended : AllByRecursion (NeedsNoCall pool (take last history)) afters
  pub others : next ≡ cast_after unit afters cast

-- units one after another
abbrev pub ReplaysUnits : ℕ → List Entry → Cast → ℕ → List ScriptUnit → Cast → ℕ → Type 0
ReplaysUnits pool history cast first [] next last = (next ≡ cast) × (last ≡ first)
ReplaysUnits pool history cast first (unit ∷ units) next last =
    (between : Cast) × ((number : ℕ)
    × (ReplaysUnit pool history cast first unit between number
    × ReplaysUnits pool history between number units next last))

abbrev pub users_of : Program → List Machine
users_of program = map (new_machine program.pool) (range_with_len 1 (user_count program))

abbrev pub cast_of : Program → Cast
cast_of program = record { users = users_of program }

-- there are records for each file that the script plays
abbrev pub HasCaptures : Program → Captures → Type 0
HasCaptures program captures = length captures ≡ length program.files

-- the history is that of all units of the script, and has brought its users to these states
pub record HasPlayed (program : Program) (captures : Captures) (history : List Entry) (cast : Cast) : Type 0 where
  pub files : HasCaptures program captures
  pub units : ReplaysUnits program.pool history (cast_of program) 0 (units_of program captures) cast (length history)

pub record Replays (program : Program) (captures : Captures) (history : List Entry) : Type 0 where
  pub cast : Cast
  pub played : HasPlayed program captures history cast

-- the history is that of some units of the script and of a part of the next one, whose users it has
-- brought to these states
pub record Reaches (program : Program) (captures : Captures) (history : List Entry) (nows : Cast) : Type 0 where
  pub files : HasCaptures program captures
  pub count : ℕ
  pub unit : ScriptUnit
  pub there : slice_get (units_of program captures) count ≡ Some unit
  pub cast : Cast
  pub first : ℕ
  pub units : ReplaysUnits program.pool history (cast_of program) 0 (take count (units_of program captures)) cast first
  pub forward : first ≤ length history
  pub lists : List (List ℕ)
  pub afters : List Machine
  pub split : AreSplit first (length history) lists
  pub replays : EachShare (ReplaysShare program.pool history) cast unit lists afters
  pub nows_are : nows ≡ cast_after unit afters cast

-- a history that need not be at its end, and the states to which it has brought the users
abbrev pub IsUnderWay : Program → Captures → List Entry → Cast → Type 0
IsUnderWay program captures history nows =
    HasPlayed program captures history nows ⊎ Reaches program captures history nows

abbrev pub is_share_of : ℕ → UnitShare → Bool
is_share_of user share = share.user == user

-- the history is under way, and this is the call that a user of the unit under way needs next; it
-- may be a Finish that waits for leases
pub record ComesTo (program : Program) (captures : Captures) (history : List Entry) (user : ℕ) (call : Ask) : Type 0 where
  pub nows : Cast
  pub reached : Reaches program captures history nows
  pub of_unit : list_any (is_share_of user) reached.unit ≡ true
  pub now : Machine
  pub here : slice_get nows.users (user - 1) ≡ Some now
  pub called : next_call (standing_of program.pool history).world now ≡ Some call
