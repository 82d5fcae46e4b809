-- At the end of a script each user has left, so the pool has all its buffers back.
use Rattle.std.proofs.Common.{Bool, true, false, cond, ℕ, zero, suc, ◌+◌, ◌-◌, ◌<◌, ◌≤◌, ◌≡◌, ◌⊎◌, inl, inr, List, [], ◌∷◌, ◌++◌, length, map, take, replicate, slice_get, slice_set, Option, Some, None, is_some, option_map, refl, sym, ◌∙◌, ap, subst, arith}
use Rattle.std.specs.Prelude.{◌==◌, ◌||◌, flat_map, option_and_then}
use Rattle.std.specs.List.{range_with_len, list_any, AllByRecursion}
use Rattle.std.proofs.lemmas.Bool.{eqb-true, eqb-false, eq-eqb, cases_Bool, cases_lt}
use Rattle.std.proofs.lemmas.List.{append-nil, length-replicate, length-map}
use Rattle.std.proofs.lemmas.List.FromFn.{length-range_with_len}
use Rattle.std.proofs.lemmas.Option.{same_Some, slice_get_within}
use Rattle.nm_types.specs.declared.id.SessionId.{SessionId}
use Rattle.nm_types.specs.OwnPorts.{OwnPort, OwnState, Arrival, empty_own}
use Rattle.vale_entry.specs.declared.entry.Ask.TheVariants.{Leave}
use Rattle.vale_entry.specs.declared.entry.Entry.{Entry}
use Rattle.vale_entry.specs.Arrivals.{arrivals_of}
use Rattle.vale_entry.specs.World.{World, Port, is_session}
use Rattle.vale_entry.specs.Holdings.{PortBuffers, is_buffer_index}
use Rattle.vale_entry.specs.Laws.{IsPortOf}
use Rattle.vale_entry.specs.Legal.{Standing, standing_of}
use Rattle.vale_entry.specs.OwnCalls.{own_after}
use Rattle.vale_entry.proofs.Numbered.{world-numbered}
use Rattle.vale_script.specs.Script.{Program}
use Rattle.vale_replay.specs.Tasks.{Captures, Task, ShutPort, FinishPort, Depart, records_of}
use Rattle.vale_replay.specs.Machine.{Machine, new_machine, closing_of, closing_tasks, call_of_task, call_of_tasks, at_rest, resting, settling_call, with_tasks, answered, is_settling}
use Rattle.vale_replay.specs.Replay.{Cast, UnitShare, ScriptUnit, TakesTurn, TakesTurns, ReplaysUnit, ReplaysUnits, NeedsNoCall, HasPlayed, cast_of, closing_unit, shares_of, standing_before, starting, units_of, user_count, with_afters}
use Rattle.vale_replay.specs.Laws.{HasNoSession, UsersLeave}
use Rattle.vale_replay.specs.Owners.{Owner, Pool, owner_of_each, owners_at, owners_of_port, owners_of_user, owners_of, times_in, BuffersComeBack}
use Rattle.vale_replay.proofs.Members.{get-same, get-other}
use Rattle.vale_replay.proofs.Units.{Alone, alone}
use Rattle.vale_replay.proofs.TaskSides.{SideOf}
use Rattle.vale_replay.proofs.Sides.{StandsOnSides, or-second, each-from, users-sides}
use Rattle.vale_replay.proofs.Comers.{session-of-user}
use Rattle.vale_replay.proofs.Owned.{owned-once}

-- A user that closes its ports and leaves.

abbrev LeaveAtLast : List Task → Type 0
LeaveAtLast (ShutPort name ∷ tasks) = LeaveAtLast tasks
LeaveAtLast (FinishPort name ∷ tasks) = LeaveAtLast tasks
LeaveAtLast (Depart ∷ []) = Unit {0}
LeaveAtLast _ = ⊥

-- its next call is one of these, or it has left
abbrev IsLeaving : Machine → Type 0
IsLeaving user =
    (LeaveAtLast user.tasks × (is_some (call_of_tasks user user.tasks) ≡ true)) ⊎ ((user.session ≡ None) × (user.tasks ≡ []))

closing-leaves : (ports : List OwnPort) → LeaveAtLast (flat_map closing_of ports ++ Depart ∷ [])
closing-leaves [] = tt
closing-leaves (p ∷ ports) = closing-leaves ports

rest-by : (user next : Machine) (tasks : List Task) (b : Bool)
    → (b ≡ true → LeaveAtLast tasks × (is_some (call_of_tasks (record user { tasks = tasks }) tasks) ≡ true))
    → IsLeaving next → IsLeaving (cond b (record user { tasks = tasks }) next)
rest-by user next tasks true on rest = inl (on refl)
rest-by user next tasks false on rest = rest

depart-by : (user : Machine) (b : Bool) → is_some (option_map Leave user.session) ≡ b
    → IsLeaving (cond b (record user { tasks = Depart ∷ [] }) (record user { tasks = [] }))
depart-by user true e = inl (tt, e)
depart-by user false e = inr (none user.session e, refl)
  where
    none : (session : Option SessionId) → is_some (option_map Leave session) ≡ false → session ≡ None
    none None e = refl
    none (Some x) e = absurd cc

rest-leaves : (user : Machine) (tasks : List Task) → LeaveAtLast tasks → IsLeaving (at_rest user tasks)
rest-leaves user (ShutPort name ∷ tasks) leave =
    rest-by user (at_rest user tasks) (ShutPort name ∷ tasks) (is_some (call_of_task user (ShutPort name))) (λ e. (leave, e)) (rest-leaves user tasks leave)
rest-leaves user (FinishPort name ∷ tasks) leave =
    rest-by user (at_rest user tasks) (FinishPort name ∷ tasks) (is_some (call_of_task user (FinishPort name))) (λ e. (leave, e)) (rest-leaves user tasks leave)
rest-leaves user (Depart ∷ []) leave = depart-by user (is_some (option_map Leave user.session)) refl
rest-leaves user _ leave = absurd leave

-- an entry of its calls
tasks-leave : (n : ℕ) (entry : Entry) (user : Machine) (tasks : List Task) → LeaveAtLast tasks
    → IsLeaving (resting (with_tasks n entry user tasks))
tasks-leave n entry user (ShutPort name ∷ tasks) leave = rest-leaves (record user { tasks = tasks }) tasks leave
tasks-leave n entry user (FinishPort name ∷ tasks) leave = rest-leaves (record user { tasks = tasks }) tasks leave
tasks-leave n entry user (Depart ∷ []) leave = inr (refl, refl)
tasks-leave n entry user _ leave = absurd leave

answer-by : (n : ℕ) (entry : Entry) (own : OwnState) (user : Machine) (b : Bool) → LeaveAtLast user.tasks
    → IsLeaving (resting (cond b user (with_tasks n entry (record user { own = own }) user.tasks)))
answer-by n entry own user true leave = rest-leaves user user.tasks leave
answer-by n entry own user false leave = tasks-leave n entry (record user { own = own }) user.tasks leave

gone-by : (n : ℕ) (entry : Entry) (own : OwnState) (user : Machine) (b : Bool) (tasks : List Task)
    → user.session ≡ None → tasks ≡ [] → user.tasks ≡ tasks
    → IsLeaving (resting (cond b user (with_tasks n entry (record user { own = own }) tasks)))
gone-by n entry own user true tasks is none same =
    inr (ap (λ (ts : List Task). (at_rest user ts).session) (same ∙ none) ∙ is, ap (λ (ts : List Task). (at_rest user ts).tasks) (same ∙ none))
gone-by n entry own user false tasks is none same =
    subst (λ (ts : List Task). IsLeaving (resting (with_tasks n entry (record user { own = own }) ts))) (sym none)
    (inr (ap (λ (ts : List Task). (at_rest (record user { own = own }) ts).session) (same ∙ none) ∙ is, ap (λ (ts : List Task). (at_rest (record user { own = own }) ts).tasks) (same ∙ none)))

turn-leaves : (pool : ℕ) (h : List Entry) (before : Machine) (n : ℕ) (after : Machine) → TakesTurn pool h before n after
    → IsLeaving before → IsLeaving after
turn-leaves pool h before n after turn leaving = subst IsLeaving (sym turn.goes_on) (by_before leaving)
  where
    came : List Arrival
    came = arrivals_of (standing_before pool h n) turn.entry.ask turn.entry.reply

    by_before : IsLeaving before → IsLeaving (resting (answered n turn.entry came before))
    by_before (inl on) = answer-by n turn.entry (own_after n turn.entry came before.own) before (is_settling turn.entry.ask) on.0
    by_before (inr gone) = gone-by n turn.entry (own_after n turn.entry came before.own) before (is_settling turn.entry.ask) before.tasks gone.0 gone.1 refl

turns-leave : (pool : ℕ) (h : List Entry) (before : Machine) (ns : List ℕ) (after : Machine) → TakesTurns pool h before ns after
    → IsLeaving before → IsLeaving after
turns-leave pool h before [] after turns leaving = subst IsLeaving (sym turns) leaving
turns-leave pool h before (n ∷ ns) after turns leaving = turns-leave pool h turns.0 ns after turns.1.1 (turn-leaves pool h before n turns.0 turns.1.0 leaving)

-- and once it needs no call it has left
leaves-last : (pool : ℕ) (h : List Entry) (user : Machine) → IsLeaving user → NeedsNoCall pool h user → user.session ≡ None
leaves-last pool h user (inr gone) ended = gone.0
leaves-last pool h user (inl on) ended =
    let none = or-second (option_and_then (settling_call (standing_of pool h).world) user.session) (call_of_tasks user user.tasks) ended in
    let clash : true ≡ false = sym on.1 ∙ ap is_some none in
    absurd cc

-- The closings, one after another.

abbrev HaveGone : ℕ → Cast → Type 0
HaveGone low cast = (i : ℕ) (u : Machine) → slice_get cast.users i ≡ Some u → i + 1 < low → u.session ≡ None

abbrev closing_share : ℕ → UnitShare
closing_share user = record { user = user; tasks = closing_tasks }

closing-left : (pool : ℕ) (h : List Entry) (cast : Cast) (first low : ℕ) (next : Cast) (last : ℕ)
    → 1 ≤ low → ReplaysUnit pool h cast first (closing_unit low) next last → HaveGone low cast → HaveGone (low + 1) next
closing-left pool h cast first low next last some r left i u at below = by_place (cases_Bool (low - 1 == i))
  where
    one : Alone pool h cast first (closing_share low) next last
    one = alone pool h cast first (closing_share low) next last r

    after : one.after.session ≡ None
    after = leaves-last pool (take last h) one.after
        (turns-leave pool h (starting (closing_share low) one.before) _ one.after one.turns
        (rest-leaves (record one.before { tasks = closing_tasks one.before }) (closing_tasks one.before) (closing-leaves one.before.own.ports)))
        one.ended

    found : slice_get (slice_set cast.users (low - 1) one.after) i ≡ Some u
    found = ap (λ (c : Cast). slice_get c.users i) (sym one.others) ∙ at

    by_place : ((low - 1 == i) ≡ true) ⊎ ((low - 1 == i) ≡ false) → u.session ≡ None
    by_place (inl e) =
        let is : low - 1 ≡ i = eqb-true (low - 1) i e in
        let same : one.after ≡ u = same_Some one.after u (sym (ap (slice_get (slice_set cast.users (low - 1) one.after)) (sym is) ∙ get-same cast.users (low - 1) one.after one.before one.here) ∙ found) in
        ap (λ (m : Machine). m.session) (sym same) ∙ after
    by_place (inr e) =
        let other = eqb-false (low - 1) i e in
        left i u (sym (get-other cast.users (low - 1) i one.after e) ∙ found) (lower other)
      where
        lower : (low - 1 ≡ i → ⊥) → i + 1 < low
        lower other = by_less (cases_lt (i + 1) low)
          where
            by_less : (i + 1 < low) ⊎ (low ≤ i + 1) → i + 1 < low
            by_less (inl less) = less
            by_less (inr more) = absurd (other (omega (arith, more, below, some)))

closings-left : (pool : ℕ) (h : List Entry) (cast : Cast) (first low count : ℕ) (next : Cast) (last : ℕ)
    → 1 ≤ low → ReplaysUnits pool h cast first (map closing_unit (range_with_len low count)) next last → HaveGone low cast
    → HaveGone (low + count) next
closings-left pool h cast first low zero next last some r left i u at below =
    left i u (ap (λ (c : Cast). slice_get c.users i) (sym r.0) ∙ at) (omega (arith, below))
closings-left pool h cast first low (suc count) next last some r left i u at below =
    closings-left pool h r.0 r.1.0 (low + 1) count next last (omega arith) r.1.1.1 (closing-left pool h cast first low r.0 r.1.0 some r.1.1.0 left) i u at (omega (arith, below))

-- the units before them
lines-left : (pool : ℕ) (h : List Entry) (cast : Cast) (first : ℕ) (units : List ScriptUnit) (count : ℕ) (next : Cast) (last : ℕ)
    → ReplaysUnits pool h cast first (units ++ map closing_unit (range_with_len 1 count)) next last → HaveGone (1 + count) next
lines-left pool h cast first [] count next last r =
    closings-left pool h cast first 1 count next last (omega arith) r (λ i u at below. absurd (omega (arith, below)))
lines-left pool h cast first (unit ∷ units) count next last r = lines-left pool h r.0 r.1.0 units count next last r.1.1.1

-- the cast stay as many
set-length : {X : Type 0} (xs : List X) (i : ℕ) (x : X) → length (slice_set xs i x) ≡ length xs
set-length [] i x = refl
set-length (y ∷ ys) zero x = refl
set-length (y ∷ ys) (suc i) x = ap (λ n. suc n) (set-length ys i x)

after-length : (unit : ScriptUnit) (afters users : List Machine) → length (with_afters unit afters users) ≡ length users
after-length [] afters users = refl
after-length (share ∷ shares) [] users = refl
after-length (share ∷ shares) (a ∷ afters) users =
    after-length shares afters (slice_set users (share.user - 1) a) ∙ set-length users (share.user - 1) a

units-length : (pool : ℕ) (h : List Entry) (cast : Cast) (first : ℕ) (units : List ScriptUnit) (next : Cast) (last : ℕ)
    → ReplaysUnits pool h cast first units next last → length next.users ≡ length cast.users
units-length pool h cast first [] next last r = ap (λ (c : Cast). length c.users) r.0
units-length pool h cast first (unit ∷ units) next last r =
    let one : ReplaysUnit pool h cast first unit r.0 r.1.0 = r.1.1.0 in
    units-length pool h r.0 r.1.0 units next last r.1.1.1 ∙ ap (λ (c : Cast). length c.users) one.others ∙ after-length unit one.afters cast.users

users-left : (program : Program) (captures : Captures) (h : List Entry) (cast : Cast) → HasPlayed program captures h cast
    → (i : ℕ) (u : Machine) → slice_get cast.users i ≡ Some u → u.session ≡ None
users-left program captures h cast played i u at =
    lines-left program.pool h (cast_of program) 0 (map (shares_of (records_of program.files captures) (user_count program)) program.units) (user_count program) cast (length h) played.units i u at below
  where
    count : length cast.users ≡ user_count program
    count =
        units-length program.pool h (cast_of program) 0 (units_of program captures) cast (length h) played.units
        ∙ length-map (range_with_len 1 (user_count program)) (new_machine program.pool) ∙ length-range_with_len 1 (user_count program)

    below : i + 1 < 1 + user_count program
    below = let within = slice_get_within cast.users i u at in omega (arith, within, count)

-- What is left then.

pub no-members : (sessions : List ℕ) → ((x : ℕ) → list_any (λ (k : ℕ). k == x) sessions ≡ true → ⊥) → sessions ≡ []
no-members [] none = refl
no-members (x ∷ sessions) none =
    absurd (none x (ap (λ (b : Bool). b || list_any (λ (k : ℕ). k == x) sessions) (eq-eqb x x refl)))

pub no-ports : (sessions : List ℕ) (ports : List Port) → sessions ≡ [] → AllByRecursion (IsPortOf sessions) ports → ports ≡ []
no-ports sessions [] none owned = refl
no-ports sessions (p ∷ ports) none owned =
    let there : list_any (λ (s : ℕ). s == p.session) [] ≡ true = subst (λ (ss : List ℕ). list_any (λ (s : ℕ). s == p.session) ss ≡ true) none owned.0 in
    absurd cc

owners-none : (b : ℕ) (ports : List Port) (helds : List PortBuffers) → ports ≡ [] → owners_at b ports helds ≡ []
owners-none b ports helds none = ap (λ (ps : List Port). owners_at b ps helds) none

users-none : (b : ℕ) (users : List Machine) → AllByRecursion (λ (u : Machine). owners_of_user b u ≡ []) users
    → flat_map (owners_of_user b) users ≡ []
users-none b [] each = refl
users-none b (u ∷ users) each = ap (λ (os : List Owner). os ++ flat_map (owners_of_user b) users) each.0 ∙ users-none b users each.1

not-there : (session : SessionId) → None ≡ Some session → ⊥
not-there session e = absurd cc

pool-alone : (t : Bool) → replicate (cond t 1 0) Pool ≡ cond t (Pool ∷ []) []
pool-alone true = refl
pool-alone false = refl

pub users-leave : UsersLeave
users-leave program captures h cast played = record {
  each = each-from HasNoSession cast.users left;
  no_session = none;
  no_port = no-ports w.sessions w.ports none (world-numbered program.pool h).ports_owned;
}
  where
    w : World
    w = (standing_of program.pool h).world

    left : (i : ℕ) (u : Machine) → slice_get cast.users i ≡ Some u → u.session ≡ None
    left = users-left program captures h cast played

    gone : (x : ℕ) → is_session w x ≡ true → ⊥
    gone x there =
        let who = session-of-user program captures h cast x (inl played) there in
        not-there (record { 0 = x }) (sym (left who.place who.user who.here) ∙ who.is)

    none : w.sessions ≡ []
    none = no-members w.sessions gone

pub all-back : BuffersComeBack
all-back program captures h cast b played = owners ∙ ap (λ (n : ℕ). replicate n Pool) once ∙ pool-alone (is_buffer_index program.pool b)
  where
    s : Standing
    s = standing_of program.pool h

    stands : StandsOnSides program.pool h cast
    stands = users-sides program captures h cast (inl played)

    left : (i : ℕ) (u : Machine) → slice_get cast.users i ≡ Some u → u.session ≡ None
    left = users-left program captures h cast played

    no_port : s.world.ports ≡ []
    no_port = (users-leave program captures h cast played).no_port

    of_user : (i : ℕ) (u : Machine) → slice_get cast.users i ≡ Some u → owners_of_user b u ≡ []
    of_user i u at =
        let side = stands.sides i u at in
        let empty : u.own ≡ empty_own program.pool = (subst (λ (x : Option SessionId). SideOf program.pool s x side.0 u.own) (left i u at) side.1).0 in
        ap (λ (o : OwnState). flat_map (owners_of_port b) o.ports) empty

    pool_side : List Owner
    pool_side = owner_of_each b Pool s.holdings.free

    owners : owners_of s cast.users b ≡ pool_side
    owners =
        ap (λ (os : List Owner). pool_side ++ (os ++ flat_map (owners_of_user b) cast.users)) (owners-none b s.world.ports s.holdings.ports no_port)
        ∙ ap (λ (os : List Owner). pool_side ++ os) (users-none b cast.users (each-from (λ (u : Machine). owners_of_user b u ≡ []) cast.users of_user)) ∙ append-nil pool_side

    once : times_in b s.holdings.free ≡ cond (is_buffer_index program.pool b) 1 0
    once = sym (length-replicate (times_in b s.holdings.free) Pool) ∙ ap (λ (os : List Owner). length os) (sym owners) ∙ owned-once program captures h cast (inl played) b
