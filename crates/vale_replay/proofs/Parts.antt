-- A history that plays a script is put together of what its users promise.
use Rattle.std.proofs.Common.{Bool, true, false, cond, ℕ, ◌+◌, ◌<◌, ◌≤◌, ◌≡◌, ◌⊎◌, inl, inr, List, [], ◌∷◌, ◌++◌, length, take, drop, slice_get, Option, Some, None, is_some, refl, sym, ◌∙◌, ap, subst, arith, take-append-drop}
use Rattle.std.specs.Prelude.{◌==◌, option_and_then}
use Rattle.std.specs.List.{AllByRecursion}
use Rattle.std.proofs.lemmas.Bool.{eq-eqb, ne_eqb, cases_lt}
use Rattle.nm_types.specs.declared.id.SessionId.{SessionId}
use Rattle.vale_entry.specs.declared.entry.Entry.{Entry}
use Rattle.vale_entry.specs.Arrivals.{arrivals_of}
use Rattle.vale_entry.specs.Legal.{standing_of, IsLegal}
use Rattle.vale_entry.proofs.Counting.{count_of, count_of-cons}
use Rattle.vale_own.proofs.OwnKept.{legal-split}
use Rattle.vale_replay.specs.Tasks.{Task, Arrive}
use Rattle.vale_replay.specs.Machine.{Machine, settling_call, call_of_task, call_of_tasks, after_task, at_rest, answered}
use Rattle.vale_replay.specs.Replay.{Cast, UnitShare, ScriptUnit, TakesTurns, EachShare, ReplaysShare, ReplaysUnit, ReplaysUnits, AreSplit, NeedsNoCall, cast_of, last_behind, last_of, standing_before, starting, times_among, units_of}
use Rattle.vale_replay.specs.Joined.{PlaysShare, IsWithin, TurnsOfUnit, TurnsOfUnits, PlayedIsOfTurns, lists_in}
use Rattle.vale_replay.proofs.Numbers.{rise-past, rise-cut}
use Rattle.vale_replay.proofs.Legal.{played-legal}
use Rattle.vale_replay.proofs.Sessions.{IsOwnSession, starting-same, own-after}
use Rattle.vale_replay.proofs.Members.{AreApart, IsElsewhere, place_of, numbers_at, few-one, among-cons, each-weaker}
use Rattle.vale_replay.proofs.Joins.{HaveCome, settles-same, OwesNothing, come-next, split-in, split-has, split-below, split-from, last-counted, needs-owes, owes-needs, among-append, units-apart, first-come}
use Rattle.vale_replay.proofs.Sides.{AreForeign, each-with, foreign-at, or-second}

-- A user that has gone as far as it can has no task, or one that needs a call.

pub call-same : (user : Machine) (tasks : List Task) (task : Task)
    → call_of_task (record user { tasks = tasks }) task ≡ call_of_task user task
call-same user tasks Arrive = refl
call-same user tasks _ = refl

abbrev pub IsRested : Machine → Type 0
IsRested user = (user.tasks ≡ []) ⊎ (is_some (call_of_tasks user user.tasks) ≡ true)

rest-by : (user : Machine) (task : Task) (tasks : List Task) (b : Bool) → is_some (call_of_task user task) ≡ b
    → IsRested (at_rest (after_task task user) tasks)
    → IsRested (cond b (record user { tasks = task ∷ tasks }) (at_rest (after_task task user) tasks))
rest-by user task tasks true e rest = inr (ap is_some (call-same user (task ∷ tasks) task) ∙ e)
rest-by user task tasks false e rest = rest

pub rest-rested : (user : Machine) (tasks : List Task) → IsRested (at_rest user tasks)
rest-rested user [] = inl refl
rest-rested user (task ∷ tasks) = rest-by user task tasks (is_some (call_of_task user task)) refl (rest-rested (after_task task user) tasks)

pub turns-rested : (pool : ℕ) (h : List Entry) (before : Machine) (ns : List ℕ) (after : Machine)
    → IsRested before → TakesTurns pool h before ns after → IsRested after
turns-rested pool h before [] after rested turns = subst IsRested (sym turns) rested
turns-rested pool h before (n ∷ ns) after rested turns =
    let turn = turns.1.0 in
    let next = answered n turn.entry (arrivals_of (standing_before pool h n) turn.entry.ask turn.entry.reply) before in
    turns-rested pool h turns.0 ns after (subst IsRested (sym turn.goes_on) (rest-rested next next.tasks)) turns.1.1

pub rested-done : (pool : ℕ) (h : List Entry) (user : Machine) → IsRested user → NeedsNoCall pool h user → user.tasks ≡ []
rested-done pool h user (inl none) ended = none
rested-done pool h user (inr some) ended =
    let none = or-second (option_and_then (settling_call (standing_of pool h).world) user.session) (call_of_tasks user user.tasks) ended in
    let clash : true ≡ false = sym some ∙ ap is_some none in
    absurd cc

-- What it owes nothing of at the end of its unit it owed nothing of behind its own last entry.

pub owes-first : (pool : ℕ) (session : Option SessionId) → OwesNothing pool [] session
owes-first pool None = refl
owes-first pool (Some x) = refl

owed-last : (pool : ℕ) (h : List Entry) (first last : ℕ) (share : UnitShare) (before : Machine) (ns : List ℕ) (after : Machine) (session : Option SessionId)
    → after.session ≡ session → IsLegal pool (take last h)
    → AreForeign h ns first last before.session → ((b : ℕ) → 1 ≤ count_of b ns → (first < b) × (b ≤ last))
    → ReplaysShare pool h share before ns after → OwesNothing pool (take last h) session → OwesNothing pool (take (last_of ns) h) session
owed-last pool h first last share before [] after session is legal foreign inside r owes = owes-first pool session
owed-last pool h first last share before (n ∷ ns) after None is legal foreign inside r owes = refl
owed-last pool h first last share before (n ∷ ns) after (Some x) is legal foreign inside r owes =
    sym (settles-same pool h (last_behind n ns) last x in'.1 legal
    (λ k e low high there. foreign x k e own (omega (arith, above, low)) high (past k low) there)) ∙ owes
  where
    in' : (first < last_behind n ns) × (last_behind n ns ≤ last)
    in' = inside (last_behind n ns) (last-counted n ns)

    above : first < last_behind n ns
    above = in'.0

    own : IsOwnSession before.session (n ∷ ns) x
    own = subst (λ (s : Option SessionId). IsOwnSession s (n ∷ ns) x) (starting-same share before).session
        (own-after pool h (starting share before) (n ∷ ns) after x r.turns is)

    past : (k : ℕ) → last_behind n ns ≤ k → count_of (k + 1) (n ∷ ns) ≡ 0
    past k low = rise-past 0 (n ∷ ns) (last_behind n ns) (k + 1) (rise-cut 0 (n ∷ ns) (length h) (last_behind n ns) r.rise (omega arith)) (omega (arith, low))

share-plays : (pool : ℕ) (h : List Entry) (first last : ℕ) (share : UnitShare) (before : Machine) (ns : List ℕ) (after : Machine)
    → IsLegal pool (take last h) → AreForeign h ns first last before.session → ((b : ℕ) → 1 ≤ count_of b ns → (first < b) × (b ≤ last))
    → ReplaysShare pool h share before ns after → NeedsNoCall pool (take last h) after → PlaysShare pool h share before ns after
share-plays pool h first last share before ns after legal foreign inside r ended =
    let rested = turns-rested pool h (starting share before) ns after (rest-rested (record before { tasks = share.tasks before }) (share.tasks before)) r.turns in
    let done = rested-done pool (take last h) after rested ended in
    record {
      replays = r;
      no_task = done;
      ended = owes-needs pool (take (last_of ns) h) after done
          (owed-last pool h first last share before ns after after.session refl legal foreign inside r (needs-owes pool (take last h) after ended));
    }

-- Each share with its place among the lists.

abbrev pub IsNumbered : Cast → ScriptUnit → List (List ℕ) → UnitShare → Machine → List ℕ → Type 0
IsNumbered cast unit lists share before ns =
    (numbers_at (place_of share) unit lists ≡ ns) × (slice_get cast.users (place_of share) ≡ Some before)

abbrev pub WithPlace : (UnitShare → Machine → List ℕ → Machine → Type 0) → Cast → ScriptUnit → List (List ℕ) → UnitShare → Machine → List ℕ → Machine → Type 0
WithPlace R cast unit lists share before ns after = R share before ns after × IsNumbered cast unit lists share before ns

abbrev pub Anywhere : Machine → Type 0
Anywhere user = Unit {0}

pub everywhere : (users : List Machine) → AllByRecursion Anywhere users
everywhere [] = tt
everywhere (u ∷ users) = (tt, everywhere users)

later-place : (R : UnitShare → Machine → List ℕ → Machine → Type 0) (cast : Cast) (first : UnitShare) (shares : ScriptUnit) (ns : List ℕ) (lists : List (List ℕ)) (share : UnitShare) (before : Machine) (ms : List ℕ) (after : Machine)
    → IsElsewhere (place_of first) share → WithPlace R cast shares lists share before ms after
    → WithPlace R cast (first ∷ shares) (ns ∷ lists) share before ms after
later-place R cast first shares ns lists share before ms after away w =
    (w.0, (ap (λ (b : Bool). cond b ns (numbers_at (place_of share) shares lists)) miss ∙ w.1.0, w.1.1))
  where
    miss : (place_of first == place_of share) ≡ false
    miss = ne_eqb (place_of first) (place_of share) (λ is. clash (eq-eqb (place_of share) (place_of first) (sym is)))
      where
        clash : (place_of share == place_of first) ≡ true → ⊥
        clash hit = let both : true ≡ false = sym hit ∙ away in absurd cc

pub each-placed : (R : UnitShare → Machine → List ℕ → Machine → Type 0) (cast : Cast) (unit : ScriptUnit) (lists : List (List ℕ)) (afters : List Machine)
    → AreApart unit → EachShare R cast unit lists afters → EachShare (WithPlace R cast unit lists) cast unit lists afters
each-placed R cast [] [] [] apart each = tt
each-placed R cast (share ∷ shares) (ns ∷ lists) (a ∷ afters) apart each = (
  (each.0.0, each.0.1, (each.0.2, (ap (λ (b : Bool). cond b ns (numbers_at (place_of share) shares lists)) (eq-eqb (place_of share) (place_of share) refl), each.0.1))),
  each-weaker (λ (s : UnitShare) (b : Machine) (ms : List ℕ) (m : Machine). WithPlace R cast shares lists s b ms m × (IsElsewhere (place_of share) s × Anywhere m)) (WithPlace R cast (share ∷ shares) (ns ∷ lists)) cast shares lists afters
      (λ s b ms m w. later-place R cast share shares ns lists s b ms m w.1.0 w.0)
      (each-with (WithPlace R cast shares lists) (IsElsewhere (place_of share)) Anywhere cast shares lists afters apart.0 (everywhere afters) (each-placed R cast shares lists afters apart.1 each.1)),
)
each-placed R cast _ _ _ apart each = absurd each

-- One unit.

inside-list : (first last : ℕ) (ns : List ℕ) → ((b : ℕ) → 1 ≤ count_of b ns → IsWithin first last b)
    → AllByRecursion (IsWithin first last) ns
inside-list first last [] inside = tt
inside-list first last (n ∷ ns) inside = (
  inside n (let all : count_of n (n ∷ ns) ≡ 1 + count_of n ns = count_of-cons n n ns ∙ ap (λ (b : Bool). cond b 1 0 + count_of n ns) (eq-eqb n n refl) in omega (arith, all)),
  inside-list first last ns (λ b some. inside b (let all = count_of-cons b n ns in omega (arith, all, some))),
)

pub inside-lists : (first last : ℕ) (lists : List (List ℕ)) → ((b : ℕ) → 1 ≤ times_among b lists → IsWithin first last b)
    → AllByRecursion (AllByRecursion (IsWithin first last)) lists
inside-lists first last [] inside = tt
inside-lists first last (ns ∷ lists) inside = (
  inside-list first last ns (λ b some. inside b (let all = among-cons b ns lists in omega (arith, all, some))),
  inside-lists first last lists (λ b some. inside b (let all = among-cons b ns lists in omega (arith, all, some))),
)

all-shares : (unit : ScriptUnit) → AllByRecursion (λ (share : UnitShare). Unit {0}) unit
all-shares [] = tt
all-shares (share ∷ shares) = (tt, all-shares shares)

unit-turns : (pool : ℕ) (h : List Entry) (cast : Cast) (first : ℕ) (unit : ScriptUnit) (next : Cast) (last : ℕ)
    → AreApart unit → HaveCome first cast → IsLegal pool (take last h)
    → (one : ReplaysUnit pool h cast first unit next last) → TurnsOfUnit pool h cast first unit one.lists next last
unit-turns pool h cast first unit next last apart come legal one = record {
  afters = one.afters;
  forward = one.forward;
  plays = each-weaker Known (PlaysShare pool h) cast unit one.lists one.afters plays
      (each-with (WithPlace (ReplaysShare pool h) cast unit one.lists) (λ (share : UnitShare). Unit {0}) (NeedsNoCall pool (take last h)) cast unit one.lists one.afters (all-shares unit) one.ended
      (each-placed (ReplaysShare pool h) cast unit one.lists one.afters apart one.replays));
  inside = inside-lists first last one.lists (λ b some. split-in first last one.lists b one.split some);
  others = one.others;
}
  where
    Known : UnitShare → Machine → List ℕ → Machine → Type 0
    Known share before ns after =
        WithPlace (ReplaysShare pool h) cast unit one.lists share before ns after × (Unit {0} × NeedsNoCall pool (take last h) after)

    plays : (share : UnitShare) (before : Machine) (ns : List ℕ) (after : Machine) → Known share before ns after → PlaysShare pool h share before ns after
    plays share before ns after known =
        share-plays pool h first last share before ns after legal
        (subst (λ (ms : List ℕ). AreForeign h ms first last before.session) known.0.1.0 (foreign-at pool h cast first unit one.lists one.afters last (place_of share) before apart one.replays one.split come known.0.1.1))
        (λ b some. split-in first last one.lists b one.split (among b some)) known.0.0 known.1.1
      where
        among : (b : ℕ) → 1 ≤ count_of b ns → 1 ≤ times_among b one.lists
        among b some =
            let few = few-one b (place_of share) unit one.lists in
            let same : count_of b (numbers_at (place_of share) unit one.lists) ≡ count_of b ns = ap (count_of b) known.0.1.0 in
            omega (arith, few, same, some)

-- Units one after another.

record AreTurns (pool : ℕ) (h : List Entry) (cast : Cast) (first : ℕ) (units : List ScriptUnit) (next : Cast) (last : ℕ) : Type 0 where
  lists : List (List (List ℕ))
  turns : TurnsOfUnits pool h cast first units lists next last
  split : AreSplit first last (lists_in lists)
  forward : first ≤ last

pub split-none : (first last : ℕ) → last ≡ first → AreSplit first last []
split-none first last same =
    split-from first last [] (λ b low high. absurd (omega (arith, low, high, same))) (λ b low. refl) (λ b high. refl)

pub split-above : (first last : ℕ) (lists : List (List ℕ)) (b : ℕ) → AreSplit first last lists → last < b → times_among b lists ≡ 0
split-above first last lists b split past = by_some (cases_lt 0 (times_among b lists))
  where
    by_some : (0 < times_among b lists) ⊎ (times_among b lists ≤ 0) → times_among b lists ≡ 0
    by_some (inl some) = let in' = (split-in first last lists b split (omega (arith, some))).1 in absurd (omega (arith, in', past))
    by_some (inr none) = omega (arith, none)

pub split-both : (first number last : ℕ) (lists more : List (List ℕ)) → first ≤ number → number ≤ last
    → AreSplit first number lists → AreSplit number last more → AreSplit first last (lists ++ more)
split-both first number last lists more low high front back = split-from first last (lists ++ more) once below above
  where
    once : (b : ℕ) → first < b → b ≤ last → times_among b (lists ++ more) ≡ 1
    once b up down = by_number (cases_lt number b)
      where
        by_number : (number < b) ⊎ (b ≤ number) → times_among b (lists ++ more) ≡ 1
        by_number (inl past) =
            let one = split-above first number lists b front past in
            let two = split-has number last more b back past down in
            let all = among-append b lists more in
            omega (arith, one, two, all)
        by_number (inr within) =
            let one = split-has first number lists b front up within in
            let two = split-below number last more b back within in
            let all = among-append b lists more in
            omega (arith, one, two, all)

    below : (b : ℕ) → b ≤ first → times_among b (lists ++ more) ≡ 0
    below b less =
        let one = split-below first number lists b front less in
        let two = split-below number last more b back (omega (arith, less, low)) in
        let all = among-append b lists more in
        omega (arith, one, two, all)

    above : (b : ℕ) → last < b → times_among b (lists ++ more) ≡ 0
    above b past =
        let one = split-above first number lists b front (omega (arith, past, high)) in
        let two = split-above number last more b back past in
        let all = among-append b lists more in
        omega (arith, one, two, all)

units-turns : (pool : ℕ) (h : List Entry) (cast : Cast) (first : ℕ) (units : List ScriptUnit) (next : Cast) (last : ℕ)
    → AllByRecursion AreApart units → ((n : ℕ) → n ≤ length h → IsLegal pool (take n h))
    → HaveCome first cast → ReplaysUnits pool h cast first units next last → AreTurns pool h cast first units next last
units-turns pool h cast first [] next last apart legal come r =
    let same : last ≡ first = r.1 in
    record { lists = []; turns = r; split = split-none first last same; forward = omega (arith, same) }
units-turns pool h cast first (unit ∷ units) next last apart legal come r =
    let one : ReplaysUnit pool h cast first unit r.0 r.1.0 = r.1.1.0 in
    let come_on : HaveCome r.1.0 r.0 = subst (HaveCome r.1.0) (sym one.others) (come-next pool h cast first unit one.lists one.afters r.1.0 apart.0 one.replays one.split one.forward come) in
    let rest = units-turns pool h r.0 r.1.0 units next last apart.1 legal come_on r.1.1.1 in
    let low = one.forward in
    let high = rest.forward in
    record {
      lists = one.lists ∷ rest.lists;
      turns = (r.0, (r.1.0, (unit-turns pool h cast first unit r.0 r.1.0 apart.0 come (legal r.1.0 one.within) one, rest.turns)));
      split = split-both first r.1.0 last one.lists (lists_in rest.lists) one.forward rest.forward one.split rest.split;
      forward = omega (arith, low, high);
    }

pub played-of-turns : PlayedIsOfTurns
played-of-turns program captures h cast played =
    let all = units-turns program.pool h (cast_of program) 0 (units_of program captures) cast (length h) (units-apart program captures) legal (first-come program) played.units in
    (all.lists, (record { files = played.files; turns = all.turns }, all.split))
  where
    legal : (n : ℕ) → n ≤ length h → IsLegal program.pool (take n h)
    legal n within = (legal-split program.pool (take n h) (drop n h) (subst (IsLegal program.pool) (sym (take-append-drop n h)) (played-legal program captures h cast (inl played)))).0
