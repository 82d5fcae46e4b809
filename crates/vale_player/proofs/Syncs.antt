-- A sync of a session, with what settles it, is a list of turns of its user.
use Rattle.std.proofs.Common.{ℕ, suc, ◌+◌, ◌-◌, ◌<◌, ◌≤◌, ◌≡◌, Bool, true, false, cond, List, [], ◌∷◌, ◌++◌, length, take, drop, slice_get, Option, Some, None, option_map, refl, sym, ◌∙◌, ap, subst, arith, le_refl, take-append-drop}
use Rattle.std.specs.Prelude.{min, option_and_then}
use Rattle.std.specs.Option.{option_or}
use Rattle.std.specs.List.{AllByRecursion}
use Rattle.std.proofs.Math.Nat.{min-eq_left}
use Rattle.std.proofs.lemmas.List.{take-take, take_all}
use Rattle.std.proofs.lemmas.List.Elements.{All-from_recursion}
use Rattle.nm_types.specs.declared.id.SessionId.{SessionId}
use Rattle.nm_turn.specs.Numbered.{Stands, numbers}
use Rattle.nm_turn.specs.Passes.{Told}
use Rattle.vale_entry.specs.declared.entry.Ask.{Ask}
use Rattle.vale_entry.specs.declared.entry.Ask.TheVariants.{Grant, Done}
use Rattle.vale_entry.specs.declared.entry.Entry.{Entry}
use Rattle.vale_entry.specs.World.{Offer}
use Rattle.vale_entry.specs.Arrivals.{arrivals_of}
use Rattle.vale_entry.specs.Laws.{Rise}
use Rattle.vale_entry.specs.Legal.{IsLegal, standing_of, world_of, step, session_and_reply, kept_ask}
use Rattle.vale_entry.specs.OwnCalls.{own_by, own_after}
use Rattle.vale_own.specs.Asker.{is_enter}
use Rattle.vale_own.specs.Laws.{IsOfOther}
use Rattle.vale_own.specs.Own.{HeldLot, own_of, is_settled_own}
use Rattle.vale_own.proofs.OwnKept.{own-kept, legal-split}
use Rattle.vale_fabric.specs.declared.kept.Fixed.{Fixed}
use Rattle.vale_fabric.specs.Roots.{root_of}
use Rattle.vale_fabric.specs.Fabrics.{Knowing, entry_by}
use Rattle.vale_fabric.specs.Settling.{IsSettling, IsSettlingIn, settling_by}
use Rattle.nm_user.specs.Sessions.{SessionState, IsThere}
use Rattle.vale_replay.specs.Tasks.{Task, Arrive, Depart}
use Rattle.vale_replay.specs.Machine.{Machine, call_of_tasks, settling_call, with_tasks, resting, is_settling}
use Rattle.vale_replay.specs.Replay.{TakesTurn, TakesTurns, last_behind}
use Rattle.vale_replay.proofs.Joins.{others-from}
use Rattle.vale_replay.proofs.Numbers.{rise-last, rise-within}
use Rattle.vale_replay.proofs.Sessions.{rest-same}
use Rattle.vale_player.specs.Users.{HasCome, does_sync}
use Rattle.vale_player.specs.Laws.{SyncIsTurns}
use Rattle.vale_player.proofs.Resting.{rests-still}
use Rattle.vale_player.proofs.Settled.{settling-own}
use Rattle.vale_player.proofs.Turns.{TaskEntry, GoesOn, caller-is, call-of, come-on, made-entry, task-turn}
use Rattle.vale_replay.proofs.Behind.{own-on}
use Rattle.vale_player.proofs.Working.{added-rise, begins-cut, stands-last, stands-low}

-- ---- entries of others

pub others-at : (s : SessionState) (w : Knowing) (added : List (ℕ × Entry)) → IsThere None s → Told root_of s.knows w w.seen added
    → (k : ℕ) (e : Entry) → length s.knows.seen ≤ k → slice_get w.seen k ≡ Some e → (Stands (k + 1) added → ⊥) → IsOfOther s.id e
others-at s w added here told k e past at none same =
    let come = here.come in
    let root : root_of e (k + 1) ≡ s.id = ap (λ (n : ℕ). min n (k + 1)) same ∙ min-eq_left (omega (arith, come, past)) in
    told.others k e past at none (subst (λ (n : ℕ). Stands n s.knows.mine) (sym root) here.speaks)

pub own-range : (pool : ℕ) (h : List Entry) (session from last : ℕ) → from ≤ last → IsLegal pool (take last h)
    → ((k : ℕ) (e : Entry) → from ≤ k → k < last → slice_get h k ≡ Some e → IsOfOther session e)
    → own_of session (standing_of pool (take last h)) ≡ own_of session (standing_of pool (take from h))
own-range pool h session from last up legal others =
    let more = drop from (take last h) in
    let cut : take from (take last h) ≡ take from h = take-take from last h up in
    let whole : take from h ++ more ≡ take last h = ap (λ (es : List Entry). es ++ more) (sym cut) ∙ take-append-drop from (take last h) in
    ap (λ (es : List Entry). own_of session (standing_of pool es)) (sym whole)
    ∙ own-kept pool (take from h) more session (subst (IsLegal pool) (sym whole) legal) (All-from_recursion (IsOfOther session) more (others-from session from last h others))

-- ---- what settles

record IsSettler (ask : Ask) : Type 0 where
  settles : is_settling (kept_ask ask) ≡ true
  enters : is_enter ask ≡ false

settler : (leases : List HeldLot) (offers : List Offer) (ask : Ask) → settling_by leases offers ≡ Some ask → IsSettler ask
settler [] [] ask e = absurd cc
settler [] (offer ∷ offers) ask e =
    let is : Grant offer.origin (record { 0 = offer.to }) ≡ ask = cc e in
    subst IsSettler is (record { settles = refl; enters = refl })
settler (lease ∷ leases) offers ask e =
    let is : Done (record { 0 = lease.0.number }) ≡ ask = cc e in
    subst IsSettler is (record { settles = refl; enters = refl })

settle-turn : (fixed : Fixed) (session : ℕ) (h : List Entry) (number : ℕ) (e : Entry) (user : Machine) → IsLegal fixed.pool (take (number - 1) h) → IsSettling fixed session (take (number - 1) h) e
    → slice_get h (number - 1) ≡ Some e → user.session ≡ Some (record { 0 = session }) → resting user ≡ user → TakesTurn fixed.pool h user number user
settle-turn fixed session h number e user legal is there has still =
    let pool = fixed.pool in
    let past = take (number - 1) h in
    let own = own_of session (standing_of pool past) in
    let made = entry_by session is.ask is.reply in
    let of = settler own.leases own.offers is.ask is.next in
    let w = world_of pool past in
    let settles : settling_call w (record { 0 = session }) ≡ Some is.ask = settling-own pool past session legal ∙ is.next in
    let came = arrivals_of (standing_of pool past) (kept_ask is.ask) is.reply in
    let behind = with_tasks number made (record user { own = own_after number made came user.own }) user.tasks in
    record {
      ask = is.ask;
      asked = ap (λ (x : Option SessionId). option_or (option_and_then (settling_call w) x) (call_of_tasks user user.tasks)) has
          ∙ ap (λ (a : Option Ask). option_or a (call_of_tasks user user.tasks)) settles;
      entry = made;
      made = made-entry (standing_of pool past) is.ask session is.reply is.steps;
      there = there ∙ ap (λ (x : Entry). Some x) is.entry_is;
      caller = caller-is number user (record { 0 = session }) is.ask of.enters has;
      goes_on = sym (ap (λ (b : Bool). resting (cond b user behind)) of.settles ∙ still);
    }

settle-turns : (fixed : Fixed) (session : ℕ) (h : List Entry) (user : Machine) (added : List (ℕ × Entry)) → ((n : ℕ) → IsLegal fixed.pool (take n h)) → AllByRecursion (IsSettlingIn fixed session h) added
    → ((k number : ℕ) (e : Entry) → slice_get added k ≡ Some (number, e) → slice_get h (number - 1) ≡ Some e)
    → user.session ≡ Some (record { 0 = session }) → resting user ≡ user → TakesTurns fixed.pool h user (numbers added) user
settle-turns fixed session h user [] legal each there has still = refl
settle-turns fixed session h user (made ∷ added) legal each there has still = (
  user,
  (
    settle-turn fixed session h made.0 made.1 user (legal (made.0 - 1)) each.0 (there 0 made.0 made.1 refl) has still,
    settle-turns fixed session h user added legal each.1 (λ k number e at. there (suc k) number e at) has still,
  ),
)

-- ---- the sync

session-sync : (number : ℕ) (entry : Entry) (user : Machine) (tasks : List Task) → does_sync tasks ≡ true → (with_tasks number entry user tasks).session ≡ user.session
session-sync number entry user [] e = refl
session-sync number entry user (Arrive ∷ rest) e = absurd cc
session-sync number entry user (Depart ∷ rest) e = absurd cc
session-sync number entry user (task ∷ rest) e = refl

-- entries of a session in what it has seen: the first of them is its call's, and each other one settles it
module _ (s : SessionState) (w : Knowing) (number : ℕ) (made : Entry) (added : List (ℕ × Entry)) (here : IsThere None s) (legal : IsLegal s.fixed.pool w.seen) (told : Told root_of s.knows w w.seen ((number, made) ∷ added)) where
  abbrev pool : ℕ
  pool = s.fixed.pool

  abbrev h : List Entry
  h = w.seen

  abbrev all : List (ℕ × Entry)
  all = (number, made) ∷ added

  rise : Rise (length s.knows.seen) (numbers all) (length h)
  rise = added-rise s.knows w all told

  new : length s.knows.seen < number
  new = rise.0

  pub legal-at : (n : ℕ) → IsLegal pool (take n h)
  legal-at n = (legal-split pool (take n h) (drop n h) (subst (IsLegal pool) (sym (take-append-drop n h)) legal)).0

  -- before the first of them the session has what it had
  pub own-before : own_of s.id (standing_of pool (take (number - 1) h)) ≡ own_of s.id (standing_of pool s.knows.seen)
  own-before =
      let within : length s.knows.seen ≤ number - 1 = omega (arith, new) in
      own-range pool h s.id (length s.knows.seen) (number - 1) within (legal-at (number - 1)) (λ k e past below at. others-at s w all here told k e past at (λ st.
      let later = stands-low (number - 1) all (length h) (k + 1) (omega (arith, new), rise.1) st in
      omega (arith, later, below)))
      ∙ ap (λ (es : List Entry). own_of s.id (standing_of pool es)) (begins-cut s.knows.seen h told.begins)

  -- and behind the last of them what it has
  pub own-behind : own_of s.id (standing_of pool (take (last_behind number (numbers added)) h)) ≡ own_of s.id (standing_of pool h)
  own-behind =
      let last = last_behind number (numbers added) in
      let within : last ≤ length h = rise-within number (numbers added) (length h) rise.1 in
      let up : number ≤ last = rise-last number (numbers added) (length h) rise.1 in
      let whole : take (length h) h ≡ h = take_all (length h) h (le_refl (length h)) in
      sym (sym (ap (λ (es : List Entry). own_of s.id (standing_of pool es)) whole)
      ∙ own-range pool h s.id last (length h) within (legal-at (length h)) (λ k e past below at. others-at s w all here told k e (omega (arith, new, up, past)) at (λ st.
      let early = stands-last (length s.knows.seen) all (length h) (k + 1) rise st in
      omega (arith, early, past))))

pub sync-turns : SyncIsTurns
sync-turns s t began first now ask reply shares here there come syncs call k =
    let pool = s.fixed.pool in
    let h = t.knows.seen in
    let n = k.number in
    let made = entry_by s.id ask reply in
    let legal : IsLegal pool h = subst (λ (f : Fixed). IsLegal f.pool h) k.fixed there.legal in
    let of = call-of s now ask here come.user call in
    let e : TaskEntry pool h s.id n ask reply = record {
      legal = legal-at s t.knows n made k.added here legal k.told (n - 1);
      settled = ap is_settled_own (own-before s t.knows n made k.added here legal k.told) ∙ here.settled;
      steps = subst (λ (f : Fixed). option_map session_and_reply (step (standing_of f.pool (take (n - 1) h)) ask) ≡ Some (s.id, reply)) k.fixed k.steps;
      there = (k.told.stand 0 n made refl).1;
    } in
    let user : Machine = record now { own = t.own } in
    let next = with_tasks n made user now.tasks in
    let own : t.own ≡ own_by n (kept_ask ask) reply (arrivals_of (standing_of pool (take (n - 1) h)) (kept_ask ask) reply) now.own =
    k.own
    ∙ (ap (λ (f : Fixed). own_by n (kept_ask ask) reply (arrivals_of (standing_of f.pool (take (n - 1) h)) (kept_ask ask) reply) s.own) k.fixed
    ∙ ap (own_by n (kept_ask ask) reply (arrivals_of (standing_of pool (take (n - 1) h)) (kept_ask ask) reply)) (sym come.user.own)) in
    let turn : TakesTurn pool h (resting now) n (resting next) = task-turn pool h s.id n ask reply now t.own e come.user.session of.plain call own in
    let has : next.session ≡ Some (record { 0 = s.id }) = session-sync n made user now.tasks syncs ∙ come.user.session in
    let settles : TakesTurns pool h (resting next) (numbers k.added) (resting next) =
    settle-turns s.fixed s.id h (resting next) k.added (legal-at s t.knows n made k.added here legal k.told) k.settling
    (λ j number x at. (k.told.stand (suc j) number x at).1) ((rest-same next next.tasks).session ∙ has) (rests-still next) in
    let settled : is_settled_own (own_of s.id (standing_of pool h)) ≡ true = subst (λ (i : ℕ). is_settled_own (own_of i (standing_of pool h)) ≡ true) k.id
    (subst (λ (f : Fixed). is_settled_own (own_of t.id (standing_of f.pool h)) ≡ true) k.fixed there.settled) in
    let on : GoesOn began s t first now next n made k.added = record {
      come = come;
      told = k.told;
      turns = (resting next, (turn, settles));
      session = has;
      own = own-on n made user now.tasks;
      settled = ap is_settled_own (own-behind s t.knows n made k.added here legal k.told) ∙ settled;
      fixed = k.fixed;
      id = k.id;
    } in
    subst (λ (i : ℕ). HasCome began first t (with_tasks n (entry_by i ask reply) user now.tasks)) (sym k.id) (come-on on)
