-- Which session comes by the pass of a user at work.
use Rattle.std.proofs.Common.{ℕ, ◌-◌, ◌≡◌, ◌⊎◌, inl, inr, Bool, true, false, cond, List, [], ◌∷◌, ◌++◌, length, slice_get, Some, None, refl, sym, ◌∙◌, ap, subst}
use Rattle.std.proofs.lemmas.Option.{same_Some}
use Rattle.std.specs.List.{AllByRecursion}
use mathlib.Core.List.{IsPrefix}
use Rattle.nm_types.specs.declared.id.SessionId.{SessionId}
use Rattle.nm_types.specs.OwnPorts.{OwnPort, OwnState, Arrival}
use Rattle.nm_turn.specs.Numbered.{Stands, numbers}
use Rattle.nm_turn.specs.Passes.{Told}
use Rattle.nm_turn.proofs.Numbered.{Stands-append, Stands-right}
use Rattle.vale_entry.specs.declared.entry.Ask.{Ask}
use Rattle.vale_entry.specs.declared.entry.Ask.TheVariants.{Enter, Leave, Shut}
use Rattle.vale_entry.specs.declared.entry.Entry.{Entry}
use Rattle.vale_entry.specs.declared.entry.Reply.TheVariants as replies
use Rattle.vale_entry.specs.Arrivals.{arrivals_of}
use Rattle.vale_entry.specs.OwnCalls.{finish_call, own_after}
use Rattle.vale_entry.specs.Legal.{kept_ask, step}
use Rattle.vale_entry.proofs.Each.{each-append}
use Rattle.vale_own.specs.There.{is_coming}
use Rattle.vale_fabric.specs.declared.kept.Fixed.{Fixed}
use Rattle.vale_fabric.specs.Fabrics.{Knowing, entry_by, fixed_in}
use Rattle.vale_fabric.specs.Roots.{root_of}
use Rattle.nm_user.specs.declared.leaving.Detached.{Detached}
use Rattle.nm_user.specs.Leaving.{AreDetached, IsDetached}
use Rattle.nm_user.specs.Sessions.{SessionState}
use Rattle.vale_replay.specs.Tasks.{Task, Arrive}
use Rattle.vale_replay.specs.Machine.{Machine, at_rest, is_settling, new_machine, resting, with_tasks}
use Rattle.vale_replay.specs.Replay.{TakesTurn, TakesTurns, standing_before}
use Rattle.vale_replay.proofs.Enters.{ask-by}
use Rattle.vale_player.specs.Users.{HasCome, Works}
use Rattle.vale_player.specs.Laws.{NeedsSession}
use Rattle.vale_player.specs.Players.{PlayerState, machine_of}
use Rattle.vale_act.specs.Leaving.{ComerIsThere, ComesNoMore, DoerComesAlone, EnteredComesAlone, EntersOnlyAt, HasMadeLeave, IsNoEnter, KeepsSession, LeaverEachLeaves, OnlyComes, RunnerComesAlone, StoppedComesAlone}
use Rattle.vale_player.proofs.Stays.{user-begins}
use Rattle.vale_act.proofs.DepartingHistory.{Came, came}
use Rattle.vale_act.proofs.DepartingPasses.{enters-later, takes-in}
use Rattle.vale_act.proofs.DepartingTurns.{rests-no-more, stands-each, turns-enter-not}

-- ---- the session for which the pass speaks

pub comer-there : ComerIsThere
comer-there session s here only =
    let c : Came s.knows.seen s.id = came s.fixed.pool s.knows.seen s.id here.legal here.side.of.there in
    let e = only s.id here.speaks in
    e.enters (c.comes e.entry e.there)

-- it is the only one that came by the pass
pub comes-as : (session : ℕ) (s : SessionState) → s.id ≡ session → OnlyComes session s.knows → OnlyComes s.id s.knows
comes-as session s is only = subst (λ (n : ℕ). OnlyComes n s.knows) (sym is) only

-- ---- work of a user that comes no more

not-coming : {h : List Entry} {number : ℕ} {At : ℕ → Type 0} (v : Knowing) → v.seen ≡ h → IsNoEnter h number → EntersOnlyAt At v number
not-coming {h} {number} {At} v same e = record {
  entry = e.entry;
  there = ap (λ (l : List Entry). slice_get l (number - 1)) same ∙ e.there;
  enters = λ comes. let clash : true ≡ false = sym comes ∙ e.enters_not in absurd cc;
}

pub works-once : (session pool : ℕ) (began knows : Knowing) (first after : Machine) → Works pool began knows first after → ComesNoMore first
    → OnlyComes session began → OnlyComes session knows
works-once session pool began knows first after works never only number st =
    by (Stands-append number began.mine works.added (subst (λ (l : List (ℕ × Entry)). Stands number l) works.mine st))
  where
    each : AllByRecursion (IsNoEnter knows.seen) (numbers works.added)
    each = turns-enter-not pool knows.seen first (numbers works.added) after works.turns never

    by : Stands number began.mine ⊎ Stands number works.added → EntersOnlyAt (λ n. n ≡ session) knows number
    by (inl own) = enters-later works.begins (λ is. is) (only number own)
    by (inr new) = not-coming knows refl (stands-each (IsNoEnter knows.seen) works.added number each new)

-- a player that is there, before these tasks
player-begins : (p : PlayerState) (tasks : List Task) → HasCome p.session.knows (resting (machine_of p tasks)) p.session (machine_of p tasks)
player-begins p tasks = user-begins p.session (machine_of p tasks) (record { session = refl; own = refl })

player-no-more : (p : PlayerState) (tasks : List Task) → AllByRecursion KeepsSession tasks → ComesNoMore (resting (machine_of p (tasks ++ [])))
player-no-more p tasks all =
    rests-no-more (machine_of p (tasks ++ [])) (inr (record { 0 = p.session.id }, (refl, each-append KeepsSession tasks [] all tt)))

pub doer-alone : DoerComesAlone
doer-alone p q tasks there all does only =
    let come = does [] p.session.knows (resting (machine_of p (tasks ++ []))) (player-begins p (tasks ++ [])) in
    let kept : OnlyComes p.session.id q.session.knows =
    works-once p.session.id q.session.fixed.pool p.session.knows q.session.knows (resting (machine_of p (tasks ++ []))) (resting (machine_of q [])) come.works (player-no-more p tasks all) only in
    comes-as p.session.id q.session (comer-there p.session.id q.session there kept) kept

pub stopped-alone : StoppedComesAlone
stopped-alone p q tasks fault there all stops only =
    let stopped = stops [] p.session.knows (resting (machine_of p (tasks ++ []))) (player-begins p (tasks ++ [])) in
    let kept : OnlyComes p.session.id q.session.knows =
    works-once p.session.id q.session.fixed.pool p.session.knows q.session.knows (resting (machine_of p (tasks ++ []))) stopped.after stopped.works (player-no-more p tasks all) only in
    comes-as p.session.id q.session (comer-there p.session.id q.session there kept) kept

pub runner-alone : RunnerComesAlone
runner-alone p q tasks None there all does stops only = doer-alone p q tasks there all (does refl) only
runner-alone p q tasks (Some fault) there all does stops only = stopped-alone p q tasks fault there all (stops fault refl) only

-- ---- a user that has come

-- the user that comes, and has nothing to do then
abbrev coming : ℕ → ℕ → Machine
coming pool number = record (new_machine pool number) { tasks = Arrive ∷ [] }

-- behind its Enter it has the session of that number, and nothing to do
record IsIn (session : ℕ) (user : Machine) : Type 0 where
  session_is : user.session ≡ Some (record { 0 = session })
  none : user.tasks ≡ []

rests-in : (session : ℕ) (user : Machine) (tasks : List Task) → user.session ≡ Some (record { 0 = session }) → tasks ≡ [] → IsIn session (at_rest user tasks)
rests-in session user tasks is none = subst (λ (ts : List Task). IsIn session (at_rest user ts)) (sym none) (record { session_is = is; none = refl })

entered-by : (n : ℕ) (e : Entry) (own : OwnState) (user : Machine) (b : Bool) → b ≡ false → user.tasks ≡ Arrive ∷ []
    → IsIn n (resting (cond b user (with_tasks n e (record user { own = own }) user.tasks)))
entered-by n e own user true plain has = absurd cc
entered-by n e own user false plain has =
    subst (λ (ts : List Task). IsIn n (resting (with_tasks n e (record user { own = own }) ts))) (sym has) (record { session_is = refl; none = refl })

behind-enter : (pool number : ℕ) (h : List Entry) (n : ℕ) (between : Machine) → TakesTurn pool h (coming pool number) n between → IsIn n between
behind-enter pool number h n between turn =
    subst (IsIn n) (sym turn.goes_on) (entered-by n turn.entry (own_after n turn.entry came-in (coming pool number).own) (coming pool number) (is_settling turn.entry.ask) plain refl)
  where
    came-in : List Arrival
    came-in = arrivals_of (standing_before pool h n) turn.entry.ask turn.entry.reply

    asked : Enter number ≡ turn.ask
    asked = same_Some (Enter number) turn.ask turn.asked

    plain : is_settling turn.entry.ask ≡ false
    plain = ap is_settling (ask-by turn.ask turn.entry (step (standing_before pool h n) turn.ask) turn.made) ∙ ap (λ (a : Ask). is_settling (kept_ask a)) (sym asked)

-- and so it stays
stays-by : (session n : ℕ) (e : Entry) (own : OwnState) (user : Machine) (b : Bool) → IsIn session user
    → IsIn session (resting (cond b user (with_tasks n e (record user { own = own }) user.tasks)))
stays-by session n e own user true is = rests-in session user user.tasks is.session_is is.none
stays-by session n e own user false is =
    subst (λ (ts : List Task). IsIn session (resting (with_tasks n e (record user { own = own }) ts))) (sym is.none)
    (rests-in session (record user { own = own }) user.tasks is.session_is is.none)

stays-in : (session pool : ℕ) (h : List Entry) (before : Machine) (ns : List ℕ) (after : Machine) → TakesTurns pool h before ns after → IsIn session before → IsIn session after
stays-in session pool h before [] after turns is = subst (IsIn session) (sym turns) is
stays-in session pool h before (n ∷ ns) after turns is =
    let turn = turns.1.0 in
    let came-in : List Arrival = arrivals_of (standing_before pool h n) turn.entry.ask turn.entry.reply in
    stays-in session pool h turns.0 ns after turns.1.1
    (subst (IsIn session) (sym turn.goes_on) (stays-by session n turn.entry (own_after n turn.entry came-in before.own) before (is_settling turn.entry.ask) is))

in-no-more : (session : ℕ) (user : Machine) → IsIn session user → ComesNoMore user
in-no-more session user is = inl (subst (AllByRecursion NeedsSession) (sym is.none) tt)

-- so its first entry brings the only session
entered-only : (pool number session : ℕ) (v : Knowing) (xs : List (ℕ × Entry)) (after : Machine) → v.mine ≡ xs → TakesTurns pool v.seen (coming pool number) (numbers xs) after
    → after.session ≡ Some (record { 0 = session }) → OnlyComes session v
entered-only pool number session v [] after mine turns has k st = absurd (subst (λ (l : List (ℕ × Entry)). Stands k l) mine st)
entered-only pool number session v (x ∷ xs) after mine turns has k st = by (subst (λ (l : List (ℕ × Entry)). Stands k l) mine st)
  where
    first : TakesTurn pool v.seen (coming pool number) x.0 turns.0
    first = turns.1.0

    within : IsIn x.0 turns.0
    within = behind-enter pool number v.seen x.0 turns.0 first

    each : AllByRecursion (IsNoEnter v.seen) (numbers xs)
    each = turns-enter-not pool v.seen turns.0 (numbers xs) after turns.1.1 (in-no-more x.0 turns.0 within)

    here : x.0 ≡ session
    here =
        let last = stays-in x.0 pool v.seen turns.0 (numbers xs) after turns.1.1 within in
        ap (λ (s : SessionId). s.0) (same_Some (record { 0 = x.0 }) (record { 0 = session }) (sym last.session_is ∙ has))

    by : (k ≡ x.0) ⊎ Stands k xs → EntersOnlyAt (λ n. n ≡ session) v k
    by (inl is) = record { entry = first.entry; there = ap (λ (n : ℕ). slice_get v.seen (n - 1)) is ∙ first.there; enters = λ comes. is ∙ here }
    by (inr new) = not-coming v refl (stands-each (IsNoEnter v.seen) xs k each new)

pub entered-alone : EnteredComesAlone
entered-alone fabric began number p none entered =
    let pool = (fixed_in fabric).pool in
    let come = entered.comes [] in
    let works = come.works in
    let mine : p.session.knows.mine ≡ works.added = works.mine ∙ ap (λ (l : List (ℕ × Entry)). l ++ works.added) none in
    let turns : TakesTurns pool p.session.knows.seen (coming pool number) (numbers works.added) (resting (machine_of p [])) =
    subst (λ (n : ℕ). TakesTurns n p.session.knows.seen (coming pool number) (numbers works.added) (resting (machine_of p []))) (ap (λ (f : Fixed). f.pool) entered.fixed_is) works.turns in
    entered-only pool number p.session.id p.session.knows works.added (resting (machine_of p [])) mine turns refl

-- ---- a session that leaves

-- it closes its ports by entries that bring no session
told-once : (session : ℕ) (v w : Knowing) (added : List (ℕ × Entry)) → Told root_of v w w.seen added → ((number : ℕ) → Stands number added → IsNoEnter w.seen number)
    → OnlyComes session v → OnlyComes session w
told-once session v w added told none only number st =
    by (Stands-append number v.mine added (subst (λ (l : List (ℕ × Entry)). Stands number l) told.mine st))
  where
    begins : IsPrefix v.seen w.seen
    begins = told.begins

    by : Stands number v.mine ⊎ Stands number added → EntersOnlyAt (λ n. n ≡ session) w number
    by (inl own) = enters-later begins (λ is. is) (only number own)
    by (inr new) = not-coming w refl (none number new)

no-enter-at : (h : List Entry) (number at : ℕ) (e : Entry) → number ≡ at → slice_get h (at - 1) ≡ Some e → is_coming e ≡ false → IsNoEnter h number
no-enter-at h number at e is there plain = record { entry = e; there = ap (λ (n : ℕ). slice_get h (n - 1)) is ∙ there; enters_not = plain }

detached-once : (session id : ℕ) (s t : SessionState) (told : Detached) → IsDetached s t id told → OnlyComes session s.knows → OnlyComes session t.knows
detached-once session id s t told d only = told-once session s.knows t.knows ((d.shut, shuts) ∷ (d.finish, finishes) ∷ []) d.told none only
  where
    shuts : Entry
    shuts = entry_by s.id (Shut d.at.port.id) replies.Made

    finishes : Entry
    finishes = entry_by s.id (finish_call s.own d.at.port) (replies.Unread told.unread)

    none : (number : ℕ) → Stands number ((d.shut, shuts) ∷ (d.finish, finishes) ∷ []) → IsNoEnter t.knows.seen number
    none number (inl is) = no-enter-at t.knows.seen number d.shut shuts is (d.told.stand 0 d.shut shuts refl).1 refl
    none number (inr (inl is)) = no-enter-at t.knows.seen number d.finish finishes is (d.told.stand 1 d.finish finishes refl).1 refl
    none number (inr (inr out)) = absurd out

all-detached : (session : ℕ) (s : SessionState) (ports : List OwnPort) (t : SessionState) → AreDetached s ports t → OnlyComes session s.knows → OnlyComes session t.knows
all-detached session s [] t same only = subst (λ (x : SessionState). OnlyComes session x.knows) (sym same) only
all-detached session s (p ∷ ports) t all only = all-detached session all.0 ports t all.1.1.1 (detached-once session p.id.0 s all.0 all.1.0 all.1.1.0 only)

pub leaver-leaves : LeaverEachLeaves
leaver-leaves s left main joined made both went only each = takes-in s.id main left joined (ap (λ (v : Knowing). v.mine) made) both.0.begins both.1.begins once leave each
  where
    n : ℕ
    n = length left.seen

    entry : Entry
    entry = entry_by went.left.makes.session (Leave (record { 0 = s.id })) went.left.makes.reply

    there : slice_get left.seen (n - 1) ≡ Some entry
    there = (went.left.makes.told.stand 0 n entry refl).1

    once : OnlyComes s.id left
    once =
        told-once s.id went.last.knows left ((n, entry) ∷ []) went.left.makes.told none (all-detached s.id s s.own.ports went.last went.detached only)
      where
        none : (number : ℕ) → Stands number ((n, entry) ∷ []) → IsNoEnter left.seen number
        none number (inl is) = no-enter-at left.seen number n entry is there refl
        none number (inr out) = absurd out

    leave : HasMadeLeave left s.id
    leave = record {
      number = n;
      own = subst (λ (l : List (ℕ × Entry)). Stands n l) (sym went.left.makes.told.mine) (Stands-right n went.last.knows.mine ((n, entry) ∷ []) (inl refl));
      entry = entry;
      there = there;
      leaves = refl;
    }
