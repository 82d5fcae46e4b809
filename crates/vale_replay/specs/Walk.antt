-- The history that a script makes, computed: unit after unit, and each user's calls one after
-- another. The users of a block run one after another, which is one of the ways in which they may.
use Rattle.std.specs.Prelude.{ℕ, zero, suc, Bool, false, ◌≡◌, ◌==◌, ◌+◌, ◌-◌, if◌then◌else◌, List, [], ◌∷◌, slice_get, Option, Some, None, option_map, option_and_then}
use Rattle.nm_types.specs.declared.id.SessionId.{SessionId}
use Rattle.vale_entry.specs.declared.entry.Ask.{Ask}
use Rattle.vale_entry.specs.declared.entry.Entry.{Entry}
use Rattle.vale_entry.specs.Arrivals.{arrivals_of}
use Rattle.vale_entry.specs.Legal.{Standing, after, fresh_standing}
use Rattle.vale_script.specs.Script.{Program}
use Rattle.vale_replay.specs.Machine.{Machine, next_call, answered, resting}
use Rattle.vale_replay.specs.Replay.{Cast, UnitShare, ScriptUnit, HasCaptures, HasPlayed, caller_of, cast_of, entry_made, starting, units_of, with_user}
use Rattle.vale_replay.specs.Tasks.{Captures}

-- what stands, and where a user has come
pub record Walked : Type 0 where
  pub standing : Standing
  pub user : Machine

abbrev pub is_caller : Option SessionId → SessionId → Bool
is_caller None session = false
is_caller (Some caller) session = caller.0 == session.0

abbrev pub next_number : Standing → ℕ
next_number s = s.world.entry_count + 1

-- the user behind the entry of its call
abbrev pub gone_on : Standing → Machine → Entry → Machine
gone_on s user entry =
    resting (answered (next_number s) entry (arrivals_of s entry.ask entry.reply) user)

-- a call, and then the others
abbrev pub walk_entry : (Standing → Machine → Option Walked) → Standing → Machine → Ask
    → Option Entry → Option Walked
walk_entry rest s user ask None = None
walk_entry rest s user ask (Some entry) =
    if is_caller (caller_of (next_number s) user ask) entry.session
    then rest (after s entry) (gone_on s user entry) else None

abbrev pub walk_call : (Standing → Machine → Option Walked) → Standing → Machine → Option Ask
    → Option Walked
walk_call rest s user None = Some (record { standing = s; user = user })
walk_call rest s user (Some ask) = walk_entry rest s user ask (entry_made s ask)

-- a user's calls up to where it needs none, fewer than so many; None where they are more, and where
-- one cannot be made
abbrev pub walk_calls : ℕ → Standing → Machine → Option Walked
walk_calls zero s user = None
walk_calls (suc count) s user = walk_call (walk_calls count) s user (next_call s.world user)

-- what stands, and the users
pub record Stage : Type 0 where
  pub standing : Standing
  pub cast : Cast

abbrev pub stage_with : Cast → ℕ → Walked → Stage
stage_with cast user walked =
    record { standing = walked.standing; cast = with_user cast user walked.user }

abbrev pub walk_from : ℕ → Stage → UnitShare → Machine → Option Stage
walk_from count stage share before =
    option_map (stage_with stage.cast share.user)
    (walk_calls count stage.standing (starting share before))

abbrev pub walk_share : ℕ → Stage → UnitShare → Option Stage
walk_share count stage share =
    option_and_then (walk_from count stage share) (slice_get stage.cast.users (share.user - 1))

abbrev pub walk_unit : ℕ → Stage → ScriptUnit → Option Stage
walk_unit count stage [] = Some stage
walk_unit count stage (share ∷ shares) =
    option_and_then (λ next. walk_unit count next shares) (walk_share count stage share)

abbrev pub walk_units : ℕ → Stage → List ScriptUnit → Option Stage
walk_units count stage [] = Some stage
walk_units count stage (unit ∷ units) =
    option_and_then (λ next. walk_units count next units) (walk_unit count stage unit)

-- a script with its captures, each user with fewer than so many calls in a unit
abbrev pub walk : ℕ → Program → Captures → Option Stage
walk count program captures =
    walk_units count (record { standing = fresh_standing program.pool; cast = cast_of program })
    (units_of program captures)

-- a walk to the end of a script is a history that plays it, with blocks too
abbrev pub WalksPlay : Type 0
WalksPlay =
    (count : ℕ) (program : Program) (captures : Captures) (stage : Stage)
    → HasCaptures program captures
    → walk count program captures ≡ Some stage
    → HasPlayed program captures stage.standing.past stage.cast
