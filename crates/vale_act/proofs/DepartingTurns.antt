-- A user that does not come brings no session by its turns.
use Rattle.std.proofs.Common.{ℕ, zero, suc, ◌-◌, ◌≡◌, ◌⊎◌, inl, inr, Bool, true, false, cond, List, [], ◌∷◌, filter, replicate, Some, refl, sym, ◌∙◌, ap, subst, arith}
use Rattle.std.specs.Prelude.{◌==◌, option_and_then}
use Rattle.std.specs.Option.{option_or}
use Rattle.std.specs.List.{AllByRecursion}
use Rattle.std.proofs.lemmas.Bool.{cases_Bool}
use Rattle.nm_types.specs.declared.id.SessionId.{SessionId}
use Rattle.nm_types.specs.OwnPorts.{OwnState, Arrival}
use Rattle.nm_turn.specs.Numbered.{Stands, numbers}
use Rattle.vale_entry.specs.declared.entry.Ask.{Ask}
use Rattle.vale_entry.specs.declared.entry.Ask.TheVariants.{Enter, Put}
use Rattle.vale_entry.specs.declared.entry.Entry.{Entry}
use Rattle.vale_entry.specs.Arrivals.{arrivals_of}
use Rattle.vale_entry.specs.World.{World}
use Rattle.vale_entry.specs.OwnCalls.{own_after}
use Rattle.vale_entry.specs.Legal.{kept_ask, step}
use Rattle.vale_entry.proofs.Each.{each-append}
use Rattle.vale_own.specs.Asker.{is_enter}
use Rattle.vale_own.specs.There.{is_coming}
use Rattle.vale_script.specs.declared.script.Act.{Act}
use Rattle.vale_script.specs.declared.script.Act.TheVariants as acts
use Rattle.vale_replay.specs.Tasks.{Task, Arrive, PutFrame, SendFrames, TakeFrames, ChangeOwn, Depart, EndLine, fits_to_play, frame_of_put, played_before_sync, tasks_of, tasks_of_line, tasks_of_lines}
use Rattle.vale_replay.specs.Machine.{Machine, answered, call_of_task, call_of_tasks, enter_call, is_settling, next_call, resting, settling_call, with_tasks}
use Rattle.vale_replay.specs.Replay.{TakesTurn, standing_before}
use Rattle.vale_replay.proofs.Comers.{enter-of}
use Rattle.vale_replay.proofs.Enters.{ask-by, call-enters}
use Rattle.vale_replay.proofs.Sessions.{rest-same}
use Rattle.vale_replay.proofs.Behind.{behind-all, either-all, rest-all}
use Rattle.vale_player.specs.Laws.{NeedsSession}
use Rattle.vale_act.specs.Leaving.{ComesNoMore, IsNoEnter, KeepsSession, LinesKeepSession, TurnsEnterNot}

-- ---- a user that comes no more goes on so

abbrev HasSession : Machine → Type 0
HasSession user = (session : SessionId) × (user.session ≡ Some session)

session-kept : (n : ℕ) (e : Entry) (user : Machine) (tasks : List Task) → HasSession user → AllByRecursion KeepsSession tasks → HasSession (with_tasks n e user tasks)
session-kept n e user [] has all = has
session-kept n e user (Arrive ∷ rest) has all = (record { 0 = n }, refl)
session-kept n e user (Depart ∷ rest) has all = absurd all.0
session-kept n e user (task ∷ rest) has all = has

pub rests-no-more : (user : Machine) → ComesNoMore user → ComesNoMore (resting user)
rests-no-more user (inl all) = inl (rest-all NeedsSession user user.tasks all)
rests-no-more user (inr has) = inr (has.0, ((rest-same user user.tasks).session ∙ has.1.0, rest-all KeepsSession user user.tasks has.1.1))

behind-no-more : (n : ℕ) (e : Entry) (user : Machine) → ComesNoMore user → ComesNoMore (with_tasks n e user user.tasks)
behind-no-more n e user (inl all) = inl (behind-all NeedsSession n e user user.tasks all all)
behind-no-more n e user (inr has) =
    let kept = session-kept n e user user.tasks (has.0, has.1.0) has.1.1 in
    inr (kept.0, (kept.1, behind-all KeepsSession n e user user.tasks has.1.1 has.1.1))

answered-no-more : (n : ℕ) (e : Entry) (own : OwnState) (user : Machine) (b : Bool) → ComesNoMore user
    → ComesNoMore (cond b user (with_tasks n e (record user { own = own }) user.tasks))
answered-no-more n e own user true never = never
answered-no-more n e own user false never = behind-no-more n e (record user { own = own }) never

turn-no-more : (pool : ℕ) (h : List Entry) (before : Machine) (n : ℕ) (after : Machine) → TakesTurn pool h before n after → ComesNoMore before → ComesNoMore after
turn-no-more pool h before n after turn never =
    let came : List Arrival = arrivals_of (standing_before pool h n) turn.entry.ask turn.entry.reply in
    subst ComesNoMore (sym turn.goes_on)
    (rests-no-more (answered n turn.entry came before) (answered-no-more n turn.entry (own_after n turn.entry came before.own) before (is_settling turn.entry.ask) never))

-- ---- and makes no Enter

-- its number tells none of its calls
call-unnumbered : (user : Machine) (k : ℕ) (task : Task) → NeedsSession task ⊎ HasSession user → call_of_task (record user { number = k }) task ≡ call_of_task user task
call-unnumbered user k Arrive (inl needs) = absurd needs
call-unnumbered user k Arrive (inr has) = ap (enter_call k) has.1 ∙ sym (ap (enter_call user.number) has.1)
call-unnumbered user k _ never = refl

calls-unnumbered : (user : Machine) (k : ℕ) (tasks : List Task) → AllByRecursion NeedsSession tasks ⊎ HasSession user → call_of_tasks (record user { number = k }) tasks ≡ call_of_tasks user tasks
calls-unnumbered user k [] never = refl
calls-unnumbered user k (task ∷ tasks) (inl all) = call-unnumbered user k task (inl all.0)
calls-unnumbered user k (task ∷ tasks) (inr has) = call-unnumbered user k task (inr has)

calls-no-more : (user : Machine) → ComesNoMore user → AllByRecursion NeedsSession user.tasks ⊎ HasSession user
calls-no-more user (inl all) = inl all
calls-no-more user (inr has) = inr (has.0, has.1.0)

no-enter : (w : World) (user : Machine) (name : ℕ) → ComesNoMore user → next_call w user ≡ Some (Enter name) → ⊥
no-enter w user name never call =
    let same = calls-unnumbered user (suc name) user.tasks (calls-no-more user never) in
    let next : next_call w (record user { number = suc name }) ≡ Some (Enter name) =
    ap (option_or (option_and_then (settling_call w) user.session)) same ∙ call in
    let clash : name ≡ suc name = call-enters w (record user { number = suc name }) name next in
    absurd (omega (arith, clash))

turn-enters-not : (pool : ℕ) (h : List Entry) (before : Machine) (n : ℕ) (after : Machine) → ComesNoMore before → TakesTurn pool h before n after → IsNoEnter h n
turn-enters-not pool h before n after never turn = record { entry = turn.entry; there = turn.there; enters_not = by (cases_Bool (is_coming turn.entry)) }
  where
    kept : turn.entry.ask ≡ kept_ask turn.ask
    kept = ask-by turn.ask turn.entry (step (standing_before pool h n) turn.ask) turn.made

    by : (is_coming turn.entry ≡ true) ⊎ (is_coming turn.entry ≡ false) → is_coming turn.entry ≡ false
    by (inr e) = e
    by (inl e) =
        let named = enter-of turn.ask (ap is_enter (sym kept) ∙ e) in
        absurd (no-enter (standing_before pool h n).world before named.0 never (turn.asked ∙ ap (λ (a : Ask). Some a) named.1))

pub turns-enter-not : TurnsEnterNot
turns-enter-not pool h first [] after turns never = tt
turns-enter-not pool h first (n ∷ ns) after turns never =
    (turn-enters-not pool h first n turns.0 never turns.1.0, turns-enter-not pool h turns.0 ns after turns.1.1 (turn-no-more pool h first n turns.0 turns.1.0 never))

pub stands-each : (P : ℕ → Type 0) (xs : List (ℕ × Entry)) (n : ℕ) → AllByRecursion P (numbers xs) → Stands n xs → P n
stands-each P [] n all st = absurd st
stands-each P (x ∷ xs) n all (inl e) = subst P (sym e) all.0
stands-each P (x ∷ xs) n all (inr st) = stands-each P xs n all.1 st

-- ---- tasks

puts-keep : (count : ℕ) (name bytes : List ℕ) → AllByRecursion KeepsSession (replicate count (PutFrame name bytes))
puts-keep zero name bytes = tt
puts-keep (suc count) name bytes = (tt, puts-keep count name bytes)

plays-keep : (name : List ℕ) (batch left : ℕ) (frames : List (List ℕ)) → AllByRecursion KeepsSession (played_before_sync name batch left frames)
plays-keep name batch left [] = either-all KeepsSession (left == batch) [] (SendFrames name ∷ []) tt (tt, tt)
plays-keep name batch left (bytes ∷ frames) =
    let whole = plays-keep name batch batch frames in
    let fewer = plays-keep name batch (left - 1) frames in
    either-all KeepsSession (left == 1) (PutFrame name bytes ∷ SendFrames name ∷ played_before_sync name batch batch frames) (PutFrame name bytes ∷ played_before_sync name batch (left - 1) frames) (tt, (tt, whole)) (tt, fewer)

act-keeps : (records : List ℕ → List (List ℕ)) (act : Act) → AllByRecursion KeepsSession (tasks_of records act)
act-keeps records (acts.Put name count to from len fill) = puts-keep count name (frame_of_put to from len fill)
act-keeps records (acts.Play name file batch) = plays-keep name batch batch (filter (fits_to_play name) (records file))
act-keeps records (acts.Rx name keep) =
    either-all KeepsSession keep (TakeFrames name ∷ []) (ChangeOwn (acts.Rx name keep) ∷ TakeFrames name ∷ []) (tt, tt) (tt, (tt, tt))
act-keeps records (acts.Close name) = (tt, (tt, tt))
act-keeps records _ = (tt, tt)

line-keeps : (records : List ℕ → List (List ℕ)) (act : Act) → AllByRecursion KeepsSession (tasks_of_line records act)
line-keeps records act = each-append KeepsSession (tasks_of records act) (EndLine ∷ []) (act-keeps records act) (tt, tt)

lines-keep-all : (records : List ℕ → List (List ℕ)) (acts : List Act) → AllByRecursion KeepsSession (tasks_of_lines records acts)
lines-keep-all records [] = tt
lines-keep-all records (act ∷ acts) =
    each-append KeepsSession (tasks_of_line records act) (tasks_of_lines records acts) (line-keeps records act) (lines-keep-all records acts)

pub lines-keep : LinesKeepSession
lines-keep records = record { act = act-keeps records; line = line-keeps records; lines = lines-keep-all records }
