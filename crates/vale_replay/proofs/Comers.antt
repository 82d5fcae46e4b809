-- Each session that is there is a user's: an entry of the user brought it, and none has ended it.
use Rattle.std.proofs.Common.{Bool, true, false, cond, not, ◌&&◌, ◌||◌, ℕ, zero, suc, ◌+◌, ◌-◌, ◌<◌, ◌≤◌, ◌≡◌, ◌⊎◌, inl, inr, List, [], ◌∷◌, length, take, slice_get, slice_set, Option, Some, None, option_map, refl, sym, ◌∙◌, ap, subst, arith}
use Rattle.std.specs.Prelude.{◌==◌, option_and_then}
use Rattle.std.specs.Option.{option_or}
use Rattle.std.specs.List.{list_any, AllByRecursion}
use Rattle.std.proofs.lemmas.Bool.{eqb-true, eq-eqb, cases_Bool, cases_lt}
use Rattle.std.proofs.lemmas.Option.{same_Some}
use Rattle.nm_types.specs.declared.id.SessionId.{SessionId}
use Rattle.nm_types.specs.OwnPorts.{Arrival}
use Rattle.vale_entry.specs.declared.entry.Ask.{Ask}
use Rattle.vale_entry.specs.declared.entry.Ask.TheVariants.{Enter, Leave}
use Rattle.vale_entry.specs.declared.entry.Entry.{Entry}
use Rattle.vale_entry.specs.Arrivals.{arrivals_of}
use Rattle.vale_entry.specs.World.{World, Lot, Offer, is_session}
use Rattle.vale_entry.specs.OwnCalls.{own_after}
use Rattle.vale_entry.specs.Legal.{kept_ask, step, is_met, world_of}
use Rattle.vale_entry.proofs.Counting.{count_of, count_of-cons}
use Rattle.vale_own.specs.Asker.{is_enter}
use Rattle.vale_own.specs.There.{is_coming, is_leave_of, is_leaving, has_come, has_left}
use Rattle.vale_own.proofs.Coming.{there-come}
use Rattle.vale_script.specs.Script.{Program}
use Rattle.vale_replay.specs.Tasks.{Captures, Task, Arrive, Depart}
use Rattle.vale_replay.specs.Machine.{Machine, settling_call, owed_lot, next_offer, done_call, grant_call, enter_call, call_of_tasks, next_call, with_tasks, answered, is_settling}
use Rattle.vale_replay.specs.Replay.{Cast, UnitShare, ScriptUnit, TakesTurn, TakesTurns, EachShare, ReplaysShare, ReplaysUnit, ReplaysUnits, AreSplit, HasPlayed, Reaches, IsUnderWay, cast_of, standing_before, starting, units_of, users_of, with_afters}
use Rattle.vale_replay.proofs.Sessions.{rest-same, starting-same}
use Rattle.vale_replay.proofs.Legal.{played-legal}
use Rattle.vale_replay.proofs.Enters.{ask-by, call-enters}
use Rattle.vale_replay.proofs.Members.{AreApart, Member, numbers_at, member, has-member}
use Rattle.vale_replay.proofs.Joins.{split-has, units-apart, take-apart, apart-at}

-- A user with a session keeps it but by its Leave.

tasks-stay : (n : ℕ) (entry : Entry) (user next : Machine) (tasks : List Task) (x : SessionId) (ask : Ask)
    → user.session ≡ Some x → next.session ≡ Some x → call_of_tasks user tasks ≡ Some ask
    → is_leave_of x.0 (kept_ask ask) ≡ false → (with_tasks n entry next tasks).session ≡ Some x
tasks-stay n entry user next (Arrive ∷ rest) x ask is is' call stays =
    let none : None ≡ Some ask = ap (enter_call user.number) (sym is) ∙ call in
    absurd cc
tasks-stay n entry user next (Depart ∷ rest) x ask is is' call stays =
    let same : Leave x ≡ ask = same_Some (Leave x) ask (ap (option_map Leave) (sym is) ∙ call) in
    let hit : is_leave_of x.0 (kept_ask ask) ≡ true = ap (λ (a : Ask). is_leave_of x.0 (kept_ask a)) (sym same) ∙ eq-eqb x.0 x.0 refl in
    let clash : true ≡ false = sym hit ∙ stays in
    absurd cc
tasks-stay n entry user next _ x ask is is' call stays = is'

settles-or : (lot : Option Lot) (offer : Option Offer) (call : Option Ask) (ask : Ask)
    → option_or (option_or (option_map done_call lot) (option_map grant_call offer)) call ≡ Some ask
    → (is_settling (kept_ask ask) ≡ true) ⊎ (call ≡ Some ask)
settles-or (Some lot) offer call ask e = inl (ap (λ (a : Ask). is_settling (kept_ask a)) (sym (same_Some (done_call lot) ask e)))
settles-or None (Some offer) call ask e = inl (ap (λ (a : Ask). is_settling (kept_ask a)) (sym (same_Some (grant_call offer) ask e)))
settles-or None None call ask e = inr e

answer-stays : (n : ℕ) (entry : Entry) (came : List Arrival) (user : Machine) (x : SessionId) (ask : Ask) (b : Bool)
    → user.session ≡ Some x → is_leave_of x.0 (kept_ask ask) ≡ false
    → (b ≡ true) ⊎ (call_of_tasks user user.tasks ≡ Some ask)
    → (cond b user (with_tasks n entry (record user { own = own_after n entry came user.own }) user.tasks)).session ≡ Some x
answer-stays n entry came user x ask true is stays how = is
answer-stays n entry came user x ask false is stays (inl e) = absurd cc
answer-stays n entry came user x ask false is stays (inr call) =
    tasks-stay n entry user (record user { own = own_after n entry came user.own }) user.tasks x ask is is call stays

turn-ask : (pool : ℕ) (h : List Entry) (before : Machine) (n : ℕ) (after : Machine) (turn : TakesTurn pool h before n after)
    → turn.entry.ask ≡ kept_ask turn.ask
turn-ask pool h before n after turn = ask-by turn.ask turn.entry (step (standing_before pool h n) turn.ask) turn.made

behind-turn : (pool : ℕ) (h : List Entry) (before : Machine) (n : ℕ) (after : Machine) (turn : TakesTurn pool h before n after) (session : Option SessionId)
    → (answered n turn.entry (arrivals_of (standing_before pool h n) turn.entry.ask turn.entry.reply) before).session ≡ session
    → after.session ≡ session
behind-turn pool h before n after turn session is =
    let next = answered n turn.entry (arrivals_of (standing_before pool h n) turn.entry.ask turn.entry.reply) before in
    ap (λ (m : Machine). m.session) turn.goes_on ∙ (rest-same next next.tasks).session ∙ is

turn-stays : (pool : ℕ) (h : List Entry) (before : Machine) (n : ℕ) (after : Machine) (x : SessionId) (turn : TakesTurn pool h before n after)
    → before.session ≡ Some x → is_leaving x.0 turn.entry ≡ false → after.session ≡ Some x
turn-stays pool h before n after x turn is stays =
    behind-turn pool h before n after turn (Some x) (answer-stays n turn.entry came before x turn.ask (is_settling turn.entry.ask) is (ap (is_leave_of x.0) (sym kept) ∙ stays) how)
  where
    w : World
    w = (standing_before pool h n).world

    came : List Arrival
    came = arrivals_of (standing_before pool h n) turn.entry.ask turn.entry.reply

    kept : turn.entry.ask ≡ kept_ask turn.ask
    kept = turn-ask pool h before n after turn

    by_call : (is_settling (kept_ask turn.ask) ≡ true) ⊎ (call_of_tasks before before.tasks ≡ Some turn.ask)
        → (is_settling turn.entry.ask ≡ true) ⊎ (call_of_tasks before before.tasks ≡ Some turn.ask)
    by_call (inl e) = inl (ap is_settling kept ∙ e)
    by_call (inr e) = inr e

    how : (is_settling turn.entry.ask ≡ true) ⊎ (call_of_tasks before before.tasks ≡ Some turn.ask)
    how = by_call (settles-or (owed_lot w x.0) (next_offer w x.0) (call_of_tasks before before.tasks) turn.ask
        (ap (λ (y : Option SessionId). option_or (option_and_then (settling_call w) y) (call_of_tasks before before.tasks)) (sym is) ∙ turn.asked))

-- An Enter brings its user the session of its number.

apart-next : (name : ℕ) → name ≡ suc name → ⊥
apart-next name e = absurd (omega (arith, e))

tasks-come : (n name : ℕ) (entry : Entry) (w : World) (user next : Machine) (tasks : List Task)
    → next_call w (record user { tasks = tasks }) ≡ Some (Enter name)
    → (with_tasks n entry next tasks).session ≡ Some (record { 0 = n })
tasks-come n name entry w user next (Arrive ∷ rest) call = refl
tasks-come n name entry w user next tasks call = absurd (apart-next name (call-enters w (record user { number = suc name; tasks = tasks }) name call))

pub enter-of : (ask : Ask) → is_enter (kept_ask ask) ≡ true → (name : ℕ) × (ask ≡ Enter name)
enter-of (Enter name) e = (name, refl)
enter-of _ e = absurd cc

turn-comes : (pool : ℕ) (h : List Entry) (before : Machine) (n : ℕ) (after : Machine) (turn : TakesTurn pool h before n after)
    → is_coming turn.entry ≡ true → after.session ≡ Some (record { 0 = n })
turn-comes pool h before n after turn comes =
    behind-turn pool h before n after turn (Some (record { 0 = n }))
    (ap (λ (b : Bool). (cond b before (with_tasks n turn.entry (record before { own = own_after n turn.entry came before.own }) before.tasks)).session) unsettled
    ∙ tasks-come n named.0 turn.entry (standing_before pool h n).world before (record before { own = own_after n turn.entry came before.own }) before.tasks (turn.asked ∙ ap (λ (a : Ask). Some a) named.1))
  where
    came : List Arrival
    came = arrivals_of (standing_before pool h n) turn.entry.ask turn.entry.reply

    kept : turn.entry.ask ≡ kept_ask turn.ask
    kept = turn-ask pool h before n after turn

    named : (name : ℕ) × (turn.ask ≡ Enter name)
    named = enter-of turn.ask (ap is_enter (sym kept) ∙ comes)

    unsettled : is_settling turn.entry.ask ≡ false
    unsettled = ap is_settling kept ∙ ap (λ (a : Ask). is_settling (kept_ask a)) named.1

-- The turns of a user.

abbrev NoneLeaves : List Entry → ℕ → Type 0
NoneLeaves h x = (k : ℕ) (e : Entry) → slice_get h k ≡ Some e → is_leaving x e ≡ false

abbrev Comes : List Entry → ℕ → Type 0
Comes h x = (e : Entry) → slice_get h (x - 1) ≡ Some e → is_coming e ≡ true

turns-stay : (pool : ℕ) (h : List Entry) (before : Machine) (ns : List ℕ) (after : Machine) (x : SessionId)
    → NoneLeaves h x.0 → TakesTurns pool h before ns after → before.session ≡ Some x → after.session ≡ Some x
turns-stay pool h before [] after x none turns is = ap (λ (m : Machine). m.session) turns ∙ is
turns-stay pool h before (n ∷ ns) after x none turns is =
    turns-stay pool h turns.0 ns after x none turns.1.1 (turn-stays pool h before n turns.0 x turns.1.0 is (none (n - 1) turns.1.0.entry turns.1.0.there))

turns-come : (pool : ℕ) (h : List Entry) (before : Machine) (ns : List ℕ) (after : Machine) (x : ℕ)
    → NoneLeaves h x → Comes h x → TakesTurns pool h before ns after → 1 ≤ count_of x ns → after.session ≡ Some (record { 0 = x })
turns-come pool h before [] after x none comes turns some = absurd (omega (arith, some))
turns-come pool h before (n ∷ ns) after x none comes turns some =
    by_here (cases_Bool (n == x)) (turns-come pool h turns.0 ns after x none comes turns.1.1)
  where
    by_here : ((n == x) ≡ true) ⊎ ((n == x) ≡ false)
        → (1 ≤ count_of x ns → after.session ≡ Some (record { 0 = x })) → after.session ≡ Some (record { 0 = x })
    by_here (inl e) rest =
        let is : n ≡ x = eqb-true n x e in
        let turn : TakesTurn pool h before x turns.0 = subst (λ (k : ℕ). TakesTurn pool h before k turns.0) is turns.1.0 in
        turns-stay pool h turns.0 ns after (record { 0 = x }) none turns.1.1 (turn-comes pool h before x turns.0 turn (comes turn.entry turn.there))
    by_here (inr e) rest =
        let less : count_of x (n ∷ ns) ≡ 0 + count_of x ns = count_of-cons x n ns ∙ ap (λ (b : Bool). cond b 1 0 + count_of x ns) e in
        rest (omega (arith, less, some))

-- Units.

-- a user with this session
pub record HasSession (users : List Machine) (x : ℕ) : Type 0 where
  pub place : ℕ
  pub user : Machine
  pub here : slice_get users place ≡ Some user
  pub is : user.session ≡ Some (record { 0 = x })

set-there : {X : Type 0} (xs : List X) (i j : ℕ) (y old : X) → slice_get xs j ≡ Some old
    → (z : X) × (slice_get (slice_set xs i y) j ≡ Some z)
set-there [] i j y old here = absurd cc
set-there (x ∷ xs) zero zero y old here = (y, refl)
set-there (x ∷ xs) zero (suc j) y old here = (old, here)
set-there (x ∷ xs) (suc i) zero y old here = (x, refl)
set-there (x ∷ xs) (suc i) (suc j) y old here = set-there xs i j y old here

after-there : (unit : ScriptUnit) (afters users : List Machine) (i : ℕ) (old : Machine) → slice_get users i ≡ Some old
    → (now : Machine) × (slice_get (with_afters unit afters users) i ≡ Some now)
after-there [] afters users i old here = (old, here)
after-there (share ∷ shares) [] users i old here = (old, here)
after-there (share ∷ shares) (a ∷ afters) users i old here =
    let set = set-there users (share.user - 1) i a old here in
    after-there shares afters (slice_set users (share.user - 1) a) i set.0 set.1

unit-session : (pool : ℕ) (h : List Entry) (cast : Cast) (first : ℕ) (unit : ScriptUnit) (lists : List (List ℕ)) (afters : List Machine) (last x : ℕ)
    → AreApart unit → EachShare (ReplaysShare pool h) cast unit lists afters → AreSplit first last lists
    → NoneLeaves h x → Comes h x → (x ≤ first → HasSession cast.users x) → x ≤ last → HasSession (with_afters unit afters cast.users) x
unit-session pool h cast first unit lists afters last x apart each split none comes old within = by_first (cases_lt first x)
  where
    has : (i : ℕ) (before : Machine) → slice_get cast.users i ≡ Some before
        → ((before.session ≡ Some (record { 0 = x })) ⊎ (1 ≤ count_of x (numbers_at i unit lists)))
        → HasSession (with_afters unit afters cast.users) x
    has i before here some = by_member (member (ReplaysShare pool h) cast cast.users unit lists afters i now apart each refl at) some
      where
        there : (now : Machine) × (slice_get (with_afters unit afters cast.users) i ≡ Some now)
        there = after-there unit afters cast.users i before here

        now : Machine
        now = there.0

        at : slice_get (with_afters unit afters cast.users) i ≡ Some now
        at = there.1

        by_how : (m : Machine) → m ≡ before → ((numbers_at i unit lists ≡ []) × (now ≡ m)) ⊎ ((share : UnitShare) × ReplaysShare pool h share m (numbers_at i unit lists) now)
            → ((before.session ≡ Some (record { 0 = x })) ⊎ (1 ≤ count_of x (numbers_at i unit lists))) → now.session ≡ Some (record { 0 = x })
        by_how m same (inl rests) (inl is) = ap (λ (u : Machine). u.session) (rests.1 ∙ same) ∙ is
        by_how m same (inl rests) (inr more) =
            let nothing : count_of x (numbers_at i unit lists) ≡ 0 = ap (count_of x) rests.0 in
            absurd (omega (arith, nothing, more))
        by_how m same (inr goes) (inl is) =
            turns-stay pool h (starting goes.0 m) (numbers_at i unit lists) now (record { 0 = x }) none goes.1.turns ((starting-same goes.0 m).session ∙ ap (λ (u : Machine). u.session) same ∙ is)
        by_how m same (inr goes) (inr more) = turns-come pool h (starting goes.0 m) (numbers_at i unit lists) now x none comes goes.1.turns more

        by_member : Member (ReplaysShare pool h) cast unit lists i now
            → ((before.session ≡ Some (record { 0 = x })) ⊎ (1 ≤ count_of x (numbers_at i unit lists))) → HasSession (with_afters unit afters cast.users) x
        by_member m some = record { place = i; user = now; here = at; is = by_how m.before (same_Some m.before before (sym m.here ∙ here)) m.how some }

    by_first : (first < x) ⊎ (x ≤ first) → HasSession (with_afters unit afters cast.users) x
    by_first (inl later) =
        let once = split-has first last lists x split later within in
        let who = has-member (ReplaysShare pool h) cast unit lists afters x apart each (omega (arith, once)) in
        has who.place who.before who.here (inr who.some)
    by_first (inr early) = let was = old early in has was.place was.user was.here (inl was.is)

units-session : (pool : ℕ) (h : List Entry) (cast : Cast) (first : ℕ) (units : List ScriptUnit) (next : Cast) (last x : ℕ)
    → AllByRecursion AreApart units → ReplaysUnits pool h cast first units next last
    → NoneLeaves h x → Comes h x → (x ≤ first → HasSession cast.users x) → x ≤ last → HasSession next.users x
units-session pool h cast first [] next last x apart r none comes old within =
    subst (λ (c : Cast). HasSession c.users x) (sym r.0) (old (subst (λ (k : ℕ). x ≤ k) r.1 within))
units-session pool h cast first (unit ∷ units) next last x apart r none comes old within =
    let one : ReplaysUnit pool h cast first unit r.0 r.1.0 = r.1.1.0 in
    units-session pool h r.0 r.1.0 units next last x apart.1 r.1.1.1 none comes
    (λ below. subst (λ (c : Cast). HasSession c.users x) (sym one.others) (unit-session pool h cast first unit one.lists one.afters r.1.0 x apart.0 one.replays one.split none comes old below)) within

-- A session that is there is a user's.

without-left : (come left : Bool) → (come && not left) ≡ true → (come ≡ true) × (left ≡ false)
without-left true false e = (refl, refl)
without-left true true e = absurd cc
without-left false left e = absurd cc

none-here : {X : Type 0} (p : X → Bool) (y x : X) (more : Bool) → (p y || more) ≡ false → Some y ≡ Some x → p x ≡ false
none-here {X = X} p y x more none at = subst (λ (z : X). p z ≡ false) (same_Some y x at) (front (p y) none)
  where
    front : (b : Bool) → (b || more) ≡ false → b ≡ false
    front true e = absurd cc
    front false e = refl

none-behind : (b more : Bool) → (b || more) ≡ false → more ≡ false
none-behind true more e = absurd cc
none-behind false more e = e

none-of-any : {X : Type 0} (p : X → Bool) (xs : List X) (k : ℕ) (x : X) → list_any p xs ≡ false
    → slice_get xs k ≡ Some x → p x ≡ false
none-of-any p [] k x none at = absurd cc
none-of-any p (y ∷ ys) zero x none at = none-here p y x (list_any p ys) none at
none-of-any p (y ∷ ys) (suc k) x none at = none-of-any p ys k x (none-behind (p y) (list_any p ys) none) at

met-comes : (found : Option Entry) (e : Entry) → is_met is_coming found ≡ true → found ≡ Some e → is_coming e ≡ true
met-comes found e met is = ap (is_met is_coming) (sym is) ∙ met

come-at : (h : List Entry) (x : ℕ) → has_come h x ≡ true → Comes h x
come-at h zero come e at = absurd cc
come-at h (suc n) come e at = let less : suc n - 1 ≡ n = omega arith in met-comes (slice_get h n) e come (ap (slice_get h) (sym less) ∙ at)

pub met-within : (h : List Entry) (n : ℕ) → is_met is_coming (slice_get h n) ≡ true → suc n ≤ length h
met-within [] n e = absurd cc
met-within (x ∷ h) zero e = omega arith
met-within (x ∷ h) (suc n) e = let rest = met-within h n e in omega (arith, rest)

come-within : (h : List Entry) (x : ℕ) → has_come h x ≡ true → (0 < x) × (x ≤ length h)
come-within h zero e = absurd cc
come-within h (suc n) e = (omega arith, met-within h n e)

pub session-of-user : (program : Program) (captures : Captures) (h : List Entry) (nows : Cast) (x : ℕ)
    → IsUnderWay program captures h nows → is_session (world_of program.pool h) x ≡ true → HasSession nows.users x
session-of-user program captures h nows x way there = by_way way
  where
    known : (has_come h x ≡ true) × (has_left h x ≡ false)
    known = without-left (has_come h x) (has_left h x) (sym (there-come program.pool h x (played-legal program captures h nows way)) ∙ there)

    none : NoneLeaves h x
    none k e at = none-of-any (is_leaving x) h k e known.1 at

    bounds : (0 < x) × (x ≤ length h)
    bounds = come-within h x known.0

    first : x ≤ 0 → HasSession (users_of program) x
    first low = let up = bounds.0 in absurd (omega (arith, low, up))

    by_way : HasPlayed program captures h nows ⊎ Reaches program captures h nows → HasSession nows.users x
    by_way (inl p) =
        units-session program.pool h (cast_of program) 0 (units_of program captures) nows (length h) x (units-apart program captures) p.units none (come-at h x known.0) first bounds.1
    by_way (inr r) =
        subst (λ (c : Cast). HasSession c.users x) (sym r.nows_are)
        (unit-session program.pool h r.cast r.first r.unit r.lists r.afters (length h) x (apart-at r.count (units_of program captures) r.unit (units-apart program captures) r.there) r.replays r.split none (come-at h x known.0)
        (λ below. units-session program.pool h (cast_of program) 0 (take r.count (units_of program captures)) r.cast r.first x (take-apart r.count (units_of program captures) (units-apart program captures)) r.units none (come-at h x known.0) first below) bounds.1)
