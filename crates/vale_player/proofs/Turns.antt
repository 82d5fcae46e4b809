-- A call of a session is a turn of its user.
use Rattle.std.proofs.Common.{ℕ, ◌-◌, ◌≡◌, Bool, true, false, cond, List, [], ◌∷◌, length, take, slice_get, Option, Some, None, option_map, refl, sym, ◌∙◌, ap, subst, le_refl}
use Rattle.std.proofs.lemmas.List.{take_all}
use Rattle.nm_types.specs.declared.id.SessionId.{SessionId}
use Rattle.nm_types.specs.OwnPorts.{OwnState}
use Rattle.nm_turn.specs.Numbered.{numbers}
use Rattle.nm_turn.specs.Passes.{Told}
use Rattle.vale_entry.specs.declared.entry.Ask.{Ask}
use Rattle.vale_entry.specs.declared.entry.Ask.TheVariants.{Enter, Leave}
use Rattle.vale_entry.specs.declared.entry.Entry.{Entry}
use Rattle.vale_entry.specs.declared.entry.Reply.{Reply}
use Rattle.vale_entry.specs.Arrivals.{arrivals_of}
use Rattle.vale_entry.specs.Legal.{Standing, IsLegal, standing_of, step, session_and_reply, kept_ask}
use Rattle.vale_entry.specs.OwnCalls.{own_by}
use Rattle.vale_own.specs.Asker.{is_enter}
use Rattle.vale_own.specs.Own.{Own, own_of, is_settled_own}
use Rattle.vale_own.specs.OwnEntries.{own_after_entry}
use Rattle.vale_own.specs.Side.{IsSound}
use Rattle.vale_fabric.specs.declared.kept.Fixed.{Fixed}
use Rattle.vale_fabric.specs.Roots.{root_of}
use Rattle.vale_fabric.specs.Fabrics.{Knowing, Answers, entry_by, earlier}
use Rattle.nm_user.specs.Sessions.{SessionState, IsThere}
use Rattle.nm_user.specs.Calls.{Made}
use Rattle.nm_user.proofs.After.{own-next, last}
use Rattle.nm_user.proofs.Later.{between, same-own}
use Rattle.vale_replay.specs.Tasks.{Task, Arrive, Depart}
use Rattle.vale_replay.specs.Machine.{Machine, call_of_task, call_of_tasks, with_tasks, answered, resting, is_settling}
use Rattle.vale_replay.specs.Replay.{TakesTurn, TakesTurns, entry_of, entry_made, caller_of, last_behind, last_of}
use Rattle.vale_replay.proofs.Behind.{own-on}
use Rattle.vale_player.specs.Users.{IsUserOf, HasCome}
use Rattle.vale_player.specs.Laws.{CallIsTurn}
use Rattle.vale_player.proofs.Askers.{has-made, whose-task}
use Rattle.vale_player.proofs.Resting.{rests}
use Rattle.vale_player.proofs.Settled.{task-next}
use Rattle.vale_player.proofs.TaskCalls.{IsPlain, TaskCall, task-call}
use Rattle.vale_player.proofs.Working.{works-then, last-added}

-- ---- the entry of a call

pub made-entry : (s : Standing) (ask : Ask) (session : ℕ) (reply : Reply) → option_map session_and_reply (step s ask) ≡ Some (session, reply) → entry_made s ask ≡ Some (entry_by session ask reply)
made-entry s ask session reply e =
    let out = has-made (step s ask) session reply e in
    ap (option_map (entry_of ask)) out.is
    ∙ (ap (λ (n : ℕ). Some (entry_by n ask out.made.reply)) out.session_is ∙ ap (λ (r : Reply). Some (entry_by session ask r)) out.reply_is)

-- what the entry makes of the user whose call it is
pub answers-own : (number : ℕ) (session : ℕ) (ask : Ask) (reply : Reply) (came : Standing) (now : Machine) (own : OwnState) → is_settling (kept_ask ask) ≡ false
    → own ≡ own_by number (kept_ask ask) reply (arrivals_of came (kept_ask ask) reply) now.own
    → answered number (entry_by session ask reply) (arrivals_of came (kept_ask ask) reply) now ≡ with_tasks number (entry_by session ask reply) (record now { own = own }) now.tasks
answers-own number session ask reply came now own plain made =
    let e = entry_by session ask reply in
    ap (λ (b : Bool). cond b now (with_tasks number e (record now { own = own_by number (kept_ask ask) reply (arrivals_of came (kept_ask ask) reply) now.own }) now.tasks)) plain
    ∙ ap (λ (o : OwnState). with_tasks number e (record now { own = o }) now.tasks) (sym made)

mapped-some : {X Y : Type 0} (f : X → Y) (found : Option X) (x : X) (y : Y) → found ≡ Some x → option_map f found ≡ Some y → f x ≡ y
mapped-some f None x y is e = absurd cc
mapped-some f (Some z) x y is e = let same : z ≡ x = cc in let made : f z ≡ y = cc in ap f (sym same) ∙ made

-- a user that does not leave keeps its session
session-on : (number : ℕ) (entry : Entry) (now user : Machine) (session : SessionId) (tasks : List Task) (ask : Ask) → call_of_tasks now tasks ≡ Some ask → now.session ≡ Some session
    → ((x : SessionId) → Leave x ≡ ask → ⊥) → user.session ≡ Some session → (with_tasks number entry user tasks).session ≡ Some session
session-on number entry now user session [] ask call is stays has = has
session-on number entry now user session (Arrive ∷ rest) ask call is stays has =
    let none : call_of_task now Arrive ≡ None = rw is refl in
    let clash : None ≡ Some ask = sym none ∙ call in
    absurd cc
session-on number entry now user session (Depart ∷ rest) ask call is stays has = absurd (stays session (mapped-some Leave now.session session ask is call))
session-on number entry now user session (task ∷ rest) ask call is stays has = has

-- ---- the turn

-- the entry of this number, made by a session in a legal history before it, of its user's next call
pub record TaskEntry (pool : ℕ) (h : List Entry) (session : ℕ) (number : ℕ) (ask : Ask) (reply : Reply) : Type 0 where
  pub legal : IsLegal pool (take (number - 1) h)
  pub settled : is_settled_own (own_of session (standing_of pool (take (number - 1) h))) ≡ true
  pub steps : option_map session_and_reply (step (standing_of pool (take (number - 1) h)) ask) ≡ Some (session, reply)
  pub there : slice_get h (number - 1) ≡ Some (entry_by session ask reply)

pub caller-is : (number : ℕ) (user : Machine) (session : SessionId) (ask : Ask) → is_enter ask ≡ false → user.session ≡ Some session → caller_of number user ask ≡ Some session
caller-is number user session (Enter name) plain is = absurd cc
caller-is number user session _ plain is = is

pub task-turn : (pool : ℕ) (h : List Entry) (session number : ℕ) (ask : Ask) (reply : Reply) (now : Machine) (own : OwnState) → TaskEntry pool h session number ask reply
    → now.session ≡ Some (record { 0 = session }) → IsPlain ask → call_of_tasks now now.tasks ≡ Some ask
    → own ≡ own_by number (kept_ask ask) reply (arrivals_of (standing_of pool (take (number - 1) h)) (kept_ask ask) reply) now.own
    → TakesTurn pool h (resting now) number (resting (with_tasks number (entry_by session ask reply) (record now { own = own }) now.tasks))
task-turn pool h session number ask reply now own e is plain call made =
    let past = take (number - 1) h in
    let next = resting (with_tasks number (entry_by session ask reply) (record now { own = own }) now.tasks) in
    subst (λ (m : Machine). TakesTurn pool h m number next) (sym (rests now ask call)) (record {
      ask = ask;
      asked = task-next pool past session now e.legal e.settled is ∙ call;
      entry = entry_by session ask reply;
      made = made-entry (standing_of pool past) ask session reply e.steps;
      there = e.there;
      caller = caller-is number now (record { 0 = session }) ask plain.enters is;
      goes_on = ap resting (sym (answers-own number session ask reply (standing_of pool past) now own plain.settles made));
    })

-- ---- a call of the session

-- a session that has left is not there
leaves-not : (s t : SessionState) (ask : Ask) (reply : Reply) → IsThere None s → IsThere None t → (made : Made s t ask reply) → made.answers.makes.session ≡ s.id
    → (x : SessionId) → Leave x ≡ ask → ⊥
leaves-not s t ask reply here there made mine x same =
    let m = made.answers.makes in
    let pool = s.fixed.pool in
    let past = standing_of pool (earlier t.knows.seen) in
    let had = own_of s.id (standing_of pool s.knows.seen) in
    let next : own_of s.id (standing_of pool t.knows.seen) ≡ own_after_entry past (kept_ask ask) m.reply had = own-next here m mine in
    let gone : (own_after_entry past (kept_ask ask) m.reply had).there ≡ false = ap (λ (a : Ask). (own_after_entry past (kept_ask a) m.reply had).there) (sym same) in
    let still : (own_of s.id (standing_of pool t.knows.seen)).there ≡ true = subst (λ (n : ℕ). (own_of n (standing_of pool t.knows.seen)).there ≡ true) made.id
    (subst (λ (n : ℕ). (own_of t.id (standing_of n t.knows.seen)).there ≡ true) (ap (λ (f : Fixed). f.pool) made.fixed) there.side.of.there) in
    let clash : true ≡ false = sym still ∙ (ap (λ (o : Own). o.there) next ∙ gone) in
    absurd cc

-- a session with what it was that it is still
pub same-but : (s t : SessionState) → t.fixed ≡ s.fixed → t.id ≡ s.id → record { fabric = t.fabric; fixed = s.fixed; knows = t.knows; id = s.id; user = t.user; own = t.own } ≡ t
same-but s t fixed id =
    ap (λ (f : Fixed). record { fabric = t.fabric; fixed = f; knows = t.knows; id = s.id; user = t.user; own = t.own }) (sym fixed)
    ∙ ap (λ (n : ℕ). record { fabric = t.fabric; fixed = t.fixed; knows = t.knows; id = n; user = t.user; own = t.own }) (sym id)

-- the entry of a session's call, in all that it has seen then
pub call-entry : (s t : SessionState) (ask : Ask) (reply : Reply) → IsThere None s → (a : Answers s.fixed s.knows t.knows ask reply) → a.makes.session ≡ s.id
    → TaskEntry s.fixed.pool t.knows.seen s.id (length t.knows.seen) ask reply
call-entry s t ask reply here a mine =
    let m = a.makes in
    let b = between s.id m here.come here.speaks in
    record {
      legal = (last m).legal;
      settled = ap is_settled_own (same-own b) ∙ here.settled;
      steps = m.steps ∙ (ap (λ (n : ℕ). Some (n, m.reply)) mine ∙ ap (λ (r : Reply). Some (s.id, r)) a.reply_is);
      there = (m.told.stand 0 (length t.knows.seen) (entry_by m.session ask m.reply) refl).1
          ∙ (ap (λ (n : ℕ). Some (entry_by n ask m.reply)) mine ∙ ap (λ (r : Reply). Some (entry_by s.id ask r)) a.reply_is);
    }

-- what the session's call is of
pub call-of : (s : SessionState) (now : Machine) (ask : Ask) → IsThere None s → IsUserOf s now → call_of_tasks now now.tasks ≡ Some ask → TaskCall s.own (record { 0 = s.id }) ask
call-of s now ask here user call =
    subst (λ (o : OwnState). TaskCall o (record { 0 = s.id }) ask) user.own
    (task-call now (record { 0 = s.id }) now.tasks ask (subst IsSound (sym user.own) here.side.sound) user.session call)

-- the user of a session that is told by the entries of a call, and goes on from what the session has
pub record GoesOn (began : Knowing) (s t : SessionState) (first now next : Machine) (number : ℕ) (e : Entry) (added : List (ℕ × Entry)) : Type 0 where
  pub come : HasCome began first s now
  pub told : Told root_of s.knows t.knows t.knows.seen ((number, e) ∷ added)
  pub turns : TakesTurns s.fixed.pool t.knows.seen (resting now) (number ∷ numbers added) (resting next)
  pub session : next.session ≡ Some (record { 0 = s.id })
  pub own : next.own ≡ t.own
  pub settled : is_settled_own (own_of s.id (standing_of s.fixed.pool (take (last_behind number (numbers added)) t.knows.seen))) ≡ true
  pub fixed : t.fixed ≡ s.fixed
  pub id : t.id ≡ s.id

pub come-on : {began : Knowing} {s t : SessionState} {first now next : Machine} {number : ℕ} {e : Entry} {added : List (ℕ × Entry)} → GoesOn began s t first now next number e added → HasCome began first t next
come-on {began} {s} {t} {first} {now} {next} {number} {e} {added} g =
    let at : SessionState = record { fabric = t.fabric; fixed = s.fixed; knows = t.knows; id = s.id; user = t.user; own = t.own } in
    let on = works-then t.knows ((number, e) ∷ added) (resting next) g.come.works g.told g.turns in
    let ends = ap (λ (all : List (ℕ × Entry)). last_of (numbers all)) on.added_is ∙ last-added g.come.works.added number e added in
    let there : HasCome began first at next = record {
      user = record { session = g.session; own = g.own };
      works = on.works;
      settled = subst (λ (n : ℕ). is_settled_own (own_of s.id (standing_of s.fixed.pool (take n t.knows.seen))) ≡ true) (sym ends) g.settled;
    } in
    subst (λ (z : SessionState). HasCome began first z next) (same-but s t g.fixed g.id) there

pub call-turn : CallIsTurn
call-turn s t began first now ask reply here there come call made =
    let a = made.answers in
    let m = a.makes in
    let pool = s.fixed.pool in
    let h = t.knows.seen in
    let n = length h in
    let of = call-of s now ask here come.user call in
    let mine : m.session ≡ s.id = whose-task here m of in
    let e = entry_by m.session ask m.reply in
    let entry : entry_by s.id ask reply ≡ entry_by t.id ask reply = ap (λ (i : ℕ). entry_by i ask reply) (sym made.id) in
    let user : Machine = record now { own = t.own } in
    let next = with_tasks n (entry_by s.id ask reply) user now.tasks in
    let own : t.own ≡ own_by n (kept_ask ask) reply (arrivals_of (standing_of pool (take (n - 1) h)) (kept_ask ask) reply) now.own =
    made.own ∙ ap (own_by n (kept_ask ask) reply (arrivals_of (standing_of pool (take (n - 1) h)) (kept_ask ask) reply)) (sym come.user.own) in
    let turn : TakesTurn pool h (resting now) n (resting next) = task-turn pool h s.id n ask reply now t.own (call-entry s t ask reply here a mine) come.user.session of.plain call own in
    let settled : is_settled_own (own_of s.id (standing_of pool h)) ≡ true = subst (λ (i : ℕ). is_settled_own (own_of i (standing_of pool h)) ≡ true) made.id
    (subst (λ (f : Fixed). is_settled_own (own_of t.id (standing_of f.pool h)) ≡ true) made.fixed there.settled) in
    let whole : take n h ≡ h = take_all n h (le_refl n) in
    let on : GoesOn began s t first now next n e [] = record {
      come = come;
      told = m.told;
      turns = (resting next, (turn, refl));
      session = session-on n (entry_by s.id ask reply) now user (record { 0 = s.id }) now.tasks ask call come.user.session (leaves-not s t ask reply here there made mine) come.user.session;
      own = own-on n (entry_by s.id ask reply) user now.tasks;
      settled = subst (λ (es : List Entry). is_settled_own (own_of s.id (standing_of pool es)) ≡ true) (sym whole) settled;
      fixed = made.fixed;
      id = made.id;
    } in
    subst (λ (x : Entry). HasCome began first t (with_tasks n x user now.tasks)) entry (come-on on)
