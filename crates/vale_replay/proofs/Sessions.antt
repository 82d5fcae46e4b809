-- Whose the entries of a user's turns are, and what its session and its number are behind them.
use Rattle.std.proofs.Common.{Bool, true, false, cond, ℕ, ◌+◌, ◌-◌, ◌≤◌, ◌≡◌, ◌⊎◌, inl, inr, List, [], ◌∷◌, slice_get, Option, Some, None, is_some, refl, sym, ◌∙◌, ap, subst, arith}
use Rattle.std.specs.Prelude.{◌==◌}
use Rattle.std.proofs.lemmas.Bool.{eqb-true, eq-eqb, cases_Bool}
use Rattle.std.proofs.lemmas.Option.{same_Some}
use Rattle.nm_types.specs.declared.id.SessionId.{SessionId}
use Rattle.nm_types.specs.OwnPorts.{Arrival}
use Rattle.vale_entry.specs.declared.entry.Ask.{Ask}
use Rattle.vale_entry.specs.declared.entry.Ask.TheVariants.{Enter}
use Rattle.vale_entry.specs.declared.entry.Entry.{Entry}
use Rattle.vale_entry.specs.Arrivals.{arrivals_of}
use Rattle.vale_entry.specs.OwnCalls.{own_after}
use Rattle.vale_entry.proofs.Counting.{count_of, count_of-cons}
use Rattle.vale_replay.specs.Tasks.{Task, Arrive, Depart}
use Rattle.vale_replay.specs.Machine.{Machine, call_of_task, after_task, at_rest, resting, answered, with_tasks, is_settling}
use Rattle.vale_replay.specs.Replay.{UnitShare, TakesTurn, TakesTurns, caller_of, standing_before, starting}

-- What makes no call changes neither.

pub record IsSame (user other : Machine) : Type 0 where
  pub session : other.session ≡ user.session
  pub number : other.number ≡ user.number

pub after-same : (task : Task) (user : Machine) → IsSame user (after_task task user)
after-same Arrive user = record { session = refl; number = refl }
after-same _ user = record { session = refl; number = refl }

same-then : (one two three : Machine) → IsSame one two → IsSame two three → IsSame one three
same-then one two three front back = record { session = back.session ∙ front.session; number = back.number ∙ front.number }

rest-by : (user : Machine) (task : Task) (tasks : List Task) (b : Bool)
    → IsSame (after_task task user) (at_rest (after_task task user) tasks)
    → IsSame user (cond b (record user { tasks = task ∷ tasks }) (at_rest (after_task task user) tasks))
rest-by user task tasks true rest = record { session = refl; number = refl }
rest-by user task tasks false rest = same-then user (after_task task user) (at_rest (after_task task user) tasks) (after-same task user) rest

pub rest-same : (user : Machine) (tasks : List Task) → IsSame user (at_rest user tasks)
rest-same user [] = record { session = refl; number = refl }
rest-same user (task ∷ tasks) = rest-by user task tasks (is_some (call_of_task user task)) (rest-same (after_task task user) tasks)

pub starting-same : (share : UnitShare) (user : Machine) → IsSame user (starting share user)
starting-same share user =
    let r = rest-same (record user { tasks = share.tasks user }) (share.tasks user) in
    record { session = r.session; number = r.number }

-- An entry brings its user a session of the entry's number, ends the session, or leaves it.

abbrev pub GoesOnAs : ℕ → Option SessionId → Option SessionId → Type 0
GoesOnAs n before after = (after ≡ before) ⊎ ((after ≡ None) ⊎ (after ≡ Some (record { 0 = n })))

pub record GoesOn (n : ℕ) (before after : Machine) : Type 0 where
  pub session : GoesOnAs n before.session after.session
  pub number : after.number ≡ before.number

tasks-on : (n : ℕ) (entry : Entry) (user : Machine) (tasks : List Task)
    → GoesOn n user (with_tasks n entry user tasks)
tasks-on n entry user (Arrive ∷ tasks) = record { session = inr (inr refl); number = refl }
tasks-on n entry user (Depart ∷ tasks) = record { session = inr (inl refl); number = refl }
tasks-on n entry user _ = record { session = inl refl; number = refl }

answer-by : (n : ℕ) (entry : Entry) (came : List Arrival) (user : Machine) (b : Bool)
    → GoesOn n user (cond b user (with_tasks n entry (record user { own = own_after n entry came user.own }) user.tasks))
answer-by n entry came user true = record { session = inl refl; number = refl }
answer-by n entry came user false =
    let r = tasks-on n entry (record user { own = own_after n entry came user.own }) user.tasks in
    record { session = r.session; number = r.number }

answer-on : (n : ℕ) (entry : Entry) (came : List Arrival) (user : Machine)
    → GoesOn n user (resting (answered n entry came user))
answer-on n entry came user =
    let r = answer-by n entry came user (is_settling entry.ask) in
    let same = rest-same (answered n entry came user) (answered n entry came user).tasks in
    record {
      session = subst (GoesOnAs n user.session) (sym same.session) r.session;
      number = same.number ∙ r.number;
    }

-- whose an entry is that a user's call makes
caller-is : (n : ℕ) (user : Machine) (ask : Ask) (s : SessionId) → caller_of n user ask ≡ Some s
    → (user.session ≡ Some s) ⊎ (s.0 ≡ n)
caller-is n user (Enter name) s e =
    let same : record { 0 = n } ≡ s = same_Some (record { 0 = n }) s e in
    inr (ap (λ (x : SessionId). x.0) (sym same))
caller-is n user _ s e = inl e

pub turn-on : (pool : ℕ) (h : List Entry) (before : Machine) (n : ℕ) (after : Machine)
    → TakesTurn pool h before n after → GoesOn n before after
turn-on pool h before n after turn =
    subst (GoesOn n before) (sym turn.goes_on) (answer-on n turn.entry (arrivals_of (standing_before pool h n) turn.entry.ask turn.entry.reply) before)

pub turn-caller : (pool : ℕ) (h : List Entry) (before : Machine) (n : ℕ) (after : Machine) (turn : TakesTurn pool h before n after)
    → (before.session ≡ Some turn.entry.session) ⊎ (turn.entry.session.0 ≡ n)
turn-caller pool h before n after turn = caller-is n before turn.ask turn.entry.session turn.caller

-- A user that comes to these entries with a session, or with none, has these sessions: that one, and
-- those that begin with one of the entries.
abbrev pub IsOwnSession : Option SessionId → List ℕ → SessionId → Type 0
IsOwnSession before numbers session = (before ≡ Some session) ⊎ (1 ≤ count_of session.0 numbers)

own-first : (before : Option SessionId) (n : ℕ) (ns : List ℕ) (s : SessionId) → s.0 ≡ n
    → IsOwnSession before (n ∷ ns) s
own-first before n ns s is =
    let front : count_of s.0 (n ∷ ns) ≡ cond (n == s.0) 1 0 + count_of s.0 ns = count_of-cons s.0 n ns in
    let hit : (n == s.0) ≡ true = eq-eqb n s.0 (sym is) in
    let here : count_of s.0 (n ∷ ns) ≡ 1 + count_of s.0 ns = front ∙ ap (λ (b : Bool). cond b 1 0 + count_of s.0 ns) hit in
    inr (omega (arith, here))

pub own-back : (n : ℕ) (before between : Option SessionId) (ns : List ℕ) (s : SessionId)
    → GoesOnAs n before between → IsOwnSession between ns s → IsOwnSession before (n ∷ ns) s
own-back n before between ns s on (inr some) = let front = count_of-cons s.0 n ns in inr (omega (arith, front, some))
own-back n before between ns s (inl same) (inl is) = inl (sym same ∙ is)
own-back n before between ns s (inr (inl none)) (inl is) = let clash : None ≡ Some s = sym none ∙ is in absurd cc
own-back n before between ns s (inr (inr new)) (inl is) =
    let same : record { 0 = n } ≡ s = same_Some (record { 0 = n }) s (sym new ∙ is) in
    own-first before n ns s (ap (λ (x : SessionId). x.0) (sym same))

pub own-after : (pool : ℕ) (h : List Entry) (before : Machine) (ns : List ℕ) (after : Machine) (s : SessionId)
    → TakesTurns pool h before ns after → after.session ≡ Some s → IsOwnSession before.session ns s
own-after pool h before [] after s turns is = inl (ap (λ (m : Machine). m.session) (sym turns) ∙ is)
own-after pool h before (n ∷ ns) after s turns is =
    own-back n before.session turns.0.session ns s (turn-on pool h before n turns.0 turns.1.0).session (own-after pool h turns.0 ns after s turns.1.1 is)

own-entry_by : (pool : ℕ) (h : List Entry) (b n : ℕ) (before between : Machine) (ns : List ℕ) (entry : Entry)
    → slice_get h (b - 1) ≡ Some entry → 1 ≤ count_of b (n ∷ ns) → TakesTurn pool h before n between
    → (1 ≤ count_of b ns → IsOwnSession between.session ns entry.session)
    → IsOwnSession before.session (n ∷ ns) entry.session
own-entry_by pool h b n before between ns entry there some turn rest = by_here (cases_Bool (n == b))
  where
    front : count_of b (n ∷ ns) ≡ cond (n == b) 1 0 + count_of b ns
    front = count_of-cons b n ns

    by_caller : turn.entry ≡ entry → (before.session ≡ Some turn.entry.session) ⊎ (turn.entry.session.0 ≡ n)
        → IsOwnSession before.session (n ∷ ns) entry.session
    by_caller same (inl is) = inl (is ∙ ap (λ (e : Entry). Some e.session) same)
    by_caller same (inr is) = own-first before.session n ns entry.session (ap (λ (e : Entry). e.session.0) (sym same) ∙ is)

    by_here : ((n == b) ≡ true) ⊎ ((n == b) ≡ false)
        → IsOwnSession before.session (n ∷ ns) entry.session
    by_here (inl e) =
        let is : n ≡ b = eqb-true n b e in
        by_caller (same_Some turn.entry entry (sym turn.there ∙ ap (λ k. slice_get h (k - 1)) is ∙ there)) (turn-caller pool h before n between turn)
    by_here (inr e) =
        let less : count_of b (n ∷ ns) ≡ 0 + count_of b ns = front ∙ ap (λ (x : Bool). cond x 1 0 + count_of b ns) e in
        own-back n before.session between.session ns entry.session (turn-on pool h before n between turn).session (rest (omega (arith, less, some)))

-- the entry of each of the numbers is of one of these sessions
pub own-entry : (pool : ℕ) (h : List Entry) (b : ℕ) (before : Machine) (ns : List ℕ) (after : Machine) (entry : Entry)
    → TakesTurns pool h before ns after → 1 ≤ count_of b ns → slice_get h (b - 1) ≡ Some entry
    → IsOwnSession before.session ns entry.session
own-entry pool h b before [] after entry turns some there = absurd (omega (arith, some))
own-entry pool h b before (n ∷ ns) after entry turns some there =
    own-entry_by pool h b n before turns.0 ns entry there some turns.1.0 (λ more. own-entry pool h b turns.0 ns after entry turns.1.1 more there)

pub number-after : (pool : ℕ) (h : List Entry) (before : Machine) (ns : List ℕ) (after : Machine)
    → TakesTurns pool h before ns after → after.number ≡ before.number
number-after pool h before [] after turns = ap (λ (m : Machine). m.number) turns
number-after pool h before (n ∷ ns) after turns = number-after pool h turns.0 ns after turns.1.1 ∙ (turn-on pool h before n turns.0 turns.1.0).number
