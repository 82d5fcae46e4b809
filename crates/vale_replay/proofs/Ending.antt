-- A user's turns come to an end: each takes a task from it, or pays what its session owes.
use Rattle.std.proofs.Common.{Bool, true, false, cond, not, ℕ, suc, ◌+◌, ◌*◌, ◌-◌, ◌<◌, ◌≤◌, ◌≡◌, ◌⊎◌, inl, inr, List, [], ◌∷◌, ◌++◌, length, take, slice_get, Option, Some, None, option_map, is_some, refl, sym, ◌∙◌, ap, subst, arith}
use Rattle.std.specs.Prelude.{◌||◌, option_and_then, sum_by}
use Rattle.std.specs.Option.{option_or, option_map_or}
use Rattle.std.proofs.lemmas.List.Sums.{sum_by-cons}
use Rattle.std.proofs.lemmas.Option.{same_Some}
use Rattle.nm_types.specs.declared.id.SessionId.{SessionId}
use Rattle.nm_types.specs.OwnPorts.{OwnPort, OwnState, Arrival, port_with_name, port_with_id}
use Rattle.vale_entry.specs.declared.entry.Ask.{Ask}
use Rattle.vale_entry.specs.declared.entry.Ask.TheVariants.{Put}
use Rattle.vale_entry.specs.declared.entry.Entry.{Entry}
use Rattle.vale_entry.specs.World.{World, Lot, Offer}
use Rattle.vale_entry.specs.Arrivals.{arrivals_of}
use Rattle.vale_entry.specs.OwnCalls.{own_after}
use Rattle.vale_entry.specs.Legal.{Standing, standing_of, step, kept_ask, Follows, IsLegal}
use Rattle.vale_entry.specs.Laws.{Rise}
use Rattle.vale_own.specs.Asker.{is_enter}
use Rattle.vale_own.specs.Laws.{IsOfOther}
use Rattle.vale_replay.specs.Tasks.{Task, Arrive, PutFrame, SendFrames, Depart, EndLine, lines_left}
use Rattle.vale_replay.specs.Machine.{Machine, call_of_task, call_of_tasks, after_task, at_rest, resting, put_call, has_room_at, is_reset, is_peer_gone, with_tasks, answered, is_settling, settling_call, owed_lot, next_offer, done_call, grant_call, next_call}
use Rattle.vale_replay.specs.Replay.{TakesTurn, TakesTurns, standing_before, entry_made, starting}
use Rattle.vale_replay.specs.FewTurns.{offers_made, offers_by, offers_at, HasFewTurns, TurnsAreFew}
use Rattle.vale_replay.proofs.PutRooms.{room-none}
use Rattle.vale_replay.proofs.Legal.{made-follows, take-one_more}
use Rattle.vale_replay.proofs.Sessions.{GoesOnAs, rest-same, turn-on}
use Rattle.vale_replay.proofs.Enters.{Enters, ask-by, turn-enters}
use Rattle.vale_replay.proofs.TaskSides.{SideOf, KeepsSide}
use Rattle.vale_replay.proofs.TurnSides.{by-id, tasks-plain, answer-side, turn-side}
use Rattle.vale_replay.proofs.Owing.{owed_turns, paid_by, entry-owes, enter-owes}
use Rattle.vale_replay.proofs.Sides.{AreForeign, keeps-on, owed-on, turns-along, legal-at}
use Rattle.vale_replay.proofs.Shares.{reached-each}

-- Tasks.

rest-fewer : (user : Machine) (tasks : List Task) → length (at_rest user tasks).tasks ≤ length tasks
rest-fewer user [] = omega arith
rest-fewer user (task ∷ tasks) = by (is_some (call_of_task user task)) (rest-fewer (after_task task user) tasks)
  where
    by : (b : Bool) → length (at_rest (after_task task user) tasks).tasks ≤ length tasks
        → length (cond b (record user { tasks = task ∷ tasks }) (at_rest (after_task task user) tasks)).tasks ≤ length (task ∷ tasks)
    by true rest = omega arith
    by false rest = omega (arith, rest)

left-fewer : (tasks : List Task) → length (lines_left tasks) ≤ length tasks
left-fewer [] = omega arith
left-fewer (EndLine ∷ tasks) = omega arith
left-fewer (_ ∷ tasks) = let rest = left-fewer tasks in omega (arith, rest)

-- what a user has on its side tells ports by their names
side-named : (pool : ℕ) (s : Standing) (session : Option SessionId) (shut : Option ℕ) (own : OwnState) (name : List ℕ) (p : OwnPort)
    → SideOf pool s session shut own → port_with_name own name ≡ Some p → port_with_id own p.id.0 ≡ Some p
side-named pool s None shut own name p side named =
    let clash : None ≡ Some p = ap (λ (o : OwnState). port_with_name o name) (sym side.0) ∙ named in
    absurd cc
side-named pool s (Some x) shut own name p side named = by-id own name p side.sound named

-- the entry of a task's call leaves a task less: a frame that found no slot is put now, or its line
-- has ended
worked-fewer : (n : ℕ) (entry : Entry) (before user : Machine) (tasks : List Task) (ask : Ask)
    → ((name bytes : List ℕ) → has_room_at user.own name bytes ≡ true → option_and_then (put_call user.own bytes) (port_with_name user.own name) ≡ None)
    → call_of_tasks before tasks ≡ Some ask → length (resting (with_tasks n entry user tasks)).tasks + 1 ≤ length tasks
worked-fewer n entry before user [] ask puts call = absurd cc
worked-fewer n entry before user (Arrive ∷ rest) ask puts call =
    let fewer = rest-fewer (record user { session = Some (record { 0 = n }); tasks = rest }) rest in
    omega (arith, fewer)
worked-fewer n entry before user (Depart ∷ rest) ask puts call =
    let fewer = rest-fewer (record user { session = None; tasks = rest }) rest in
    omega (arith, fewer)
worked-fewer n entry before user (PutFrame name bytes ∷ rest) ask puts call =
    by (is_reset entry.ask || not (has_room_at user.own name bytes)) refl
  where
    room : (reset has : Bool) → (reset || not has) ≡ false → has ≡ true
    room true has e = absurd cc
    room false true e = refl
    room false false e = absurd cc

    next : Machine
    next = record user { tasks = PutFrame name bytes ∷ rest }

    by : (b : Bool) → (is_reset entry.ask || not (has_room_at user.own name bytes)) ≡ b
        → length (resting (record user { tasks = cond b (lines_left rest) (PutFrame name bytes ∷ rest) })).tasks + 1 ≤ length (PutFrame name bytes ∷ rest)
    by true e =
        let fewer = rest-fewer (record user { tasks = lines_left rest }) (lines_left rest) in
        let left = left-fewer rest in
        omega (arith, fewer, left)
    by false e =
        let none : call_of_task (record user { tasks = PutFrame name bytes ∷ rest }) (PutFrame name bytes) ≡ None = puts name bytes (room (is_reset entry.ask) (has_room_at user.own name bytes) e) in
        let goes : resting (record user { tasks = PutFrame name bytes ∷ rest }) ≡ at_rest (after_task (PutFrame name bytes) (record user { tasks = PutFrame name bytes ∷ rest })) rest =
        ap (λ (o : Option Ask). cond (is_some o) (record user { tasks = PutFrame name bytes ∷ rest }) (at_rest (after_task (PutFrame name bytes) (record user { tasks = PutFrame name bytes ∷ rest })) rest)) none in
        let fewer = rest-fewer (after_task (PutFrame name bytes) (record user { tasks = PutFrame name bytes ∷ rest })) rest in
        let same = ap (λ (m : Machine). length m.tasks) goes in
        omega (arith, fewer, same)
worked-fewer n entry before user (SendFrames name ∷ rest) ask puts call = by (is_reset entry.ask || is_peer_gone entry.reply)
  where
    by : (b : Bool) → length (resting (record user { tasks = cond b (lines_left rest) rest })).tasks + 1 ≤ length (SendFrames name ∷ rest)
    by true =
        let fewer = rest-fewer (record user { tasks = lines_left rest }) (lines_left rest) in
        let left = left-fewer rest in
        omega (arith, fewer, left)
    by false = let fewer = rest-fewer (record user { tasks = rest }) rest in omega (arith, fewer)
worked-fewer n entry before user (task ∷ rest) ask puts call =
    let fewer = rest-fewer (record user { tasks = rest }) rest in
    omega (arith, fewer)

-- The call of a turn settles, or it is that of a task.

call-is : (w : World) (user : Machine) (ask : Ask) → next_call w user ≡ Some ask
    → (is_settling (kept_ask ask) ≡ true) ⊎ (call_of_tasks user user.tasks ≡ Some ask)
call-is w user ask called = by user.session called
  where
    by_offer : (lot : Option Lot) (offer : Option Offer)
        → option_or (option_or (option_map done_call lot) (option_map grant_call offer)) (call_of_tasks user user.tasks) ≡ Some ask
        → (is_settling (kept_ask ask) ≡ true) ⊎ (call_of_tasks user user.tasks ≡ Some ask)
    by_offer (Some lot) offer e = inl (ap (λ (a : Ask). is_settling (kept_ask a)) (sym (same_Some (done_call lot) ask e)))
    by_offer None (Some offer) e = inl (ap (λ (a : Ask). is_settling (kept_ask a)) (sym (same_Some (grant_call offer) ask e)))
    by_offer None None e = inr e

    by : (session : Option SessionId)
        → option_or (option_and_then (settling_call w) session) (call_of_tasks user user.tasks) ≡ Some ask
        → (is_settling (kept_ask ask) ≡ true) ⊎ (call_of_tasks user user.tasks ≡ Some ask)
    by None e = inr e
    by (Some x) e = by_offer (owed_lot w x.0) (next_offer w x.0) e

-- a user with a session keeps it, or leaves
session-kept : (n : ℕ) (entry : Entry) (before user : Machine) (tasks : List Task) (ask : Ask) (x : SessionId)
    → before.session ≡ Some x → user.session ≡ Some x → call_of_tasks before tasks ≡ Some ask
    → ((with_tasks n entry user tasks).session ≡ Some x) ⊎ ((with_tasks n entry user tasks).session ≡ None)
session-kept n entry before user [] ask x own is call = absurd cc
session-kept n entry before user (Arrive ∷ rest) ask x own is call =
    let none : call_of_task before Arrive ≡ None = rw own refl in
    let clash : None ≡ Some ask = sym none ∙ call in
    absurd cc
session-kept n entry before user (Depart ∷ rest) ask x own is call = inr refl
session-kept n entry before user (_ ∷ rest) ask x own is call = inl is

kept-enters : (ask : Ask) → is_enter (kept_ask ask) ≡ is_enter ask
kept-enters (Put port offered) = refl
kept-enters _ = refl

abbrev Paid : ℕ → Standing → Standing → Entry → Machine → Machine → Type 0
Paid pool s next entry before after =
    1 + length after.tasks + owed_turns next after.session ≤ length before.tasks + owed_turns s before.session + 2 * offers_made entry.reply

module _ (pool : ℕ) (h : List Entry) (user : Machine) (n : ℕ) (after : Machine) (legal : IsLegal pool (take n h)) (within : n < length h) (keeps : KeepsSide pool (standing_of pool (take n h)) user) (turn : TakesTurn pool h user (n + 1) after) where
  abbrev past : List Entry
  past = take n h

  abbrev entry : Entry
  entry = turn.entry

  abbrev came : List Arrival
  came = arrivals_of (standing_before pool h (n + 1)) turn.entry.ask turn.entry.reply

  abbrev own_next : OwnState
  own_next = own_after (n + 1) turn.entry (arrivals_of (standing_before pool h (n + 1)) turn.entry.ask turn.entry.reply) user.own

  at : n + 1 - 1 ≡ n
  at = omega arith

  stands : standing_before pool h (n + 1) ≡ standing_of pool past
  stands = ap (λ k. standing_of pool (take k h)) at

  follows : Follows (standing_of pool past) turn.entry
  follows = made-follows (standing_of pool past) turn.ask turn.entry (ap (λ (s : Standing). entry_made s turn.ask) (sym stands) ∙ turn.made)

  next-is : take n h ++ turn.entry ∷ [] ≡ take (n + 1) h
  next-is =
      let there : slice_get h n ≡ Some turn.entry = ap (slice_get h) (sym at) ∙ turn.there in
      let more : suc n ≡ n + 1 = omega arith in
      sym (take-one_more h n turn.entry there) ∙ ap (λ k. take k h) more

  asks : turn.entry.ask ≡ kept_ask turn.ask
  asks = ask-by turn.ask turn.entry (step (standing_before pool h (n + 1)) turn.ask) turn.made

  -- the session's own entry pays
  own-pays : (x : SessionId) → x ≡ turn.entry.session
      → paid_by turn.entry.ask + owed_turns (standing_of pool (take (n + 1) h)) (Some x) ≤ owed_turns (standing_of pool (take n h)) (Some x) + 2 * offers_made turn.entry.reply
  own-pays x is =
      subst (λ (es : List Entry). paid_by turn.entry.ask + owed_turns (standing_of pool es) (Some x) ≤ owed_turns (standing_of pool (take n h)) (Some x) + 2 * offers_made turn.entry.reply) next-is
      (subst (λ (y : SessionId). paid_by turn.entry.ask + owed_turns (standing_of pool (take n h ++ turn.entry ∷ [])) (Some y) ≤ owed_turns (standing_of pool (take n h)) (Some y) + 2 * offers_made turn.entry.reply) (sym is)
      (entry-owes pool (take n h) legal turn.entry follows))

  -- a call that settles leaves tasks and session
  settles : is_settling turn.entry.ask ≡ true → Paid pool (standing_of pool (take n h)) (standing_of pool (take (n + 1) h)) turn.entry user after
  settles e = by_who (turn-enters pool h user (n + 1) after turn)
    where
      goes : after ≡ resting user
      goes = turn.goes_on ∙ ap (λ (b : Bool). resting (cond b user (with_tasks (n + 1) turn.entry (record user { own = own_next }) user.tasks))) e

      fewer : length after.tasks ≤ length user.tasks
      fewer = subst (λ (m : Machine). length m.tasks ≤ length user.tasks) (sym goes) (rest-fewer user user.tasks)

      by_who : (user.session ≡ Some turn.entry.session) ⊎ Enters (n + 1) user turn.entry
          → Paid pool (standing_of pool (take n h)) (standing_of pool (take (n + 1) h)) turn.entry user after
      by_who (inl own) =
          let session : after.session ≡ Some turn.entry.session = ap (λ (m : Machine). m.session) goes ∙ (rest-same user user.tasks).session ∙ own in
          let paid : paid_by turn.entry.ask ≡ 1 = ap (λ (b : Bool). cond b 1 0) e in
          let pays = own-pays turn.entry.session refl in
          let low = ap (owed_turns (standing_of pool (take n h))) own in
          let high = ap (owed_turns (standing_of pool (take (n + 1) h))) session in
          omega (arith, fewer, paid, pays, low, high)
      by_who (inr enters) = let clash : true ≡ false = sym e ∙ ap is_settling enters.ask in absurd cc

  -- and that of a task takes it
  works : is_settling turn.entry.ask ≡ false → Paid pool (standing_of pool (take n h)) (standing_of pool (take (n + 1) h)) turn.entry user after
  works e = by_who (turn-enters pool h user (n + 1) after turn)
    where
      worked : Machine
      worked = with_tasks (n + 1) turn.entry (record user { own = own_next }) user.tasks

      answers : answered (n + 1) turn.entry (arrivals_of (standing_before pool h (n + 1)) turn.entry.ask turn.entry.reply) user ≡ with_tasks (n + 1) turn.entry (record user { own = own_next }) user.tasks
      answers = ap (λ (b : Bool). cond b user (with_tasks (n + 1) turn.entry (record user { own = own_next }) user.tasks)) e

      goes : after ≡ resting (with_tasks (n + 1) turn.entry (record user { own = own_next }) user.tasks)
      goes = turn.goes_on ∙ ap resting answers

      of-task : (is_settling (kept_ask turn.ask) ≡ true) ⊎ (call_of_tasks user user.tasks ≡ Some turn.ask) → call_of_tasks user user.tasks ≡ Some turn.ask
      of-task (inl settles) = let clash : true ≡ false = sym settles ∙ ap is_settling (sym asks) ∙ e in absurd cc
      of-task (inr call) = call

      call : call_of_tasks user user.tasks ≡ Some turn.ask
      call = of-task (call-is (standing_before pool h (n + 1)).world user turn.ask turn.asked)

      keeps-own : (tasks : List Task) → (with_tasks (n + 1) turn.entry (record user { own = own_next }) tasks).own ≡ own_next
      keeps-own [] = refl
      keeps-own (task ∷ tasks) = keeps-own-by task tasks
        where
          keeps-own-by : (task : Task) (tasks : List Task) → (with_tasks (n + 1) turn.entry (record user { own = own_next }) (task ∷ tasks)).own ≡ own_next
          keeps-own-by Arrive tasks = refl
          keeps-own-by _ tasks = refl

      side : KeepsSide pool (standing_of pool (take (n + 1) h)) (with_tasks (n + 1) turn.entry (record user { own = own_next }) user.tasks)
      side = subst (KeepsSide pool (standing_of pool (take (n + 1) h))) answers (answer-side pool h user n after legal within keeps turn)

      puts : (name bytes : List ℕ) → has_room_at own_next name bytes ≡ true → option_and_then (put_call own_next bytes) (port_with_name own_next name) ≡ None
      puts name bytes = room-none own_next name bytes (λ p named.
          side-named pool (standing_of pool (take (n + 1) h)) (with_tasks (n + 1) turn.entry (record user { own = own_next }) user.tasks).session side.shut own_next name p
          (subst (SideOf pool (standing_of pool (take (n + 1) h)) (with_tasks (n + 1) turn.entry (record user { own = own_next }) user.tasks).session side.shut) (keeps-own user.tasks) side.side) named)

      fewer : length after.tasks + 1 ≤ length user.tasks
      fewer = subst (λ (m : Machine). length m.tasks + 1 ≤ length user.tasks) (sym goes)
          (worked-fewer (n + 1) turn.entry user (record user { own = own_next }) user.tasks turn.ask puts call)

      session : after.session ≡ (with_tasks (n + 1) turn.entry (record user { own = own_next }) user.tasks).session
      session = ap (λ (m : Machine). m.session) goes ∙ (rest-same (with_tasks (n + 1) turn.entry (record user { own = own_next }) user.tasks) (with_tasks (n + 1) turn.entry (record user { own = own_next }) user.tasks).tasks).session

      -- where it owes nothing afterwards
      nothing : owed_turns (standing_of pool (take (n + 1) h)) after.session ≡ 0
          → Paid pool (standing_of pool (take n h)) (standing_of pool (take (n + 1) h)) turn.entry user after
      nothing none = omega (arith, fewer, none)

      own-by : user.session ≡ Some turn.entry.session
          → ((with_tasks (n + 1) turn.entry (record user { own = own_next }) user.tasks).session ≡ Some turn.entry.session) ⊎ ((with_tasks (n + 1) turn.entry (record user { own = own_next }) user.tasks).session ≡ None)
          → Paid pool (standing_of pool (take n h)) (standing_of pool (take (n + 1) h)) turn.entry user after
      own-by own (inl kept) =
          let pays = own-pays turn.entry.session refl in
          let low = ap (owed_turns (standing_of pool (take n h))) own in
          let high = ap (owed_turns (standing_of pool (take (n + 1) h))) (session ∙ kept) in
          omega (arith, fewer, pays, low, high)
      own-by own (inr left) = nothing (ap (owed_turns (standing_of pool (take (n + 1) h))) (session ∙ left))

      had-none : Enters (n + 1) user turn.entry → (before : Option SessionId) → user.session ≡ before → user.session ≡ None
      had-none enters None is = is
      had-none enters (Some x) is =
          let plain = tasks-plain user x user.tasks turn.ask is call in
          let clash : true ≡ false = ap is_enter (sym enters.ask ∙ asks) ∙ kept-enters turn.ask ∙ plain.enters in
          absurd cc

      enter-by : Enters (n + 1) user turn.entry → GoesOnAs (n + 1) user.session after.session
          → Paid pool (standing_of pool (take n h)) (standing_of pool (take (n + 1) h)) turn.entry user after
      enter-by enters (inl same) = nothing (ap (owed_turns (standing_of pool (take (n + 1) h))) (same ∙ had-none enters user.session refl))
      enter-by enters (inr (inl left)) = nothing (ap (owed_turns (standing_of pool (take (n + 1) h))) left)
      enter-by enters (inr (inr new)) =
          let is : record { 0 = n + 1 } ≡ turn.entry.session = ap (λ (k : ℕ). record { 0 = k }) (sym enters.session) in
          nothing (ap (owed_turns (standing_of pool (take (n + 1) h))) (new ∙ ap (λ (x : SessionId). Some x) is)
          ∙ ap (λ (es : List Entry). owed_turns (standing_of pool es) (Some turn.entry.session)) (sym next-is)
          ∙ enter-owes pool (take n h) legal turn.entry user.number follows enters.ask)

      by_who : (user.session ≡ Some turn.entry.session) ⊎ Enters (n + 1) user turn.entry
          → Paid pool (standing_of pool (take n h)) (standing_of pool (take (n + 1) h)) turn.entry user after
      by_who (inl own) = own-by own (session-kept (n + 1) turn.entry user (record user { own = own_next }) user.tasks turn.ask turn.entry.session own own call)
      by_who (inr enters) = enter-by enters (turn-on pool h user (n + 1) after turn).session

  pub turn-pays : Paid pool (standing_of pool (take n h)) (standing_of pool (take (n + 1) h)) turn.entry user after
  turn-pays = by (is_settling turn.entry.ask) refl
    where
      by : (b : Bool) → is_settling turn.entry.ask ≡ b → Paid pool (standing_of pool (take n h)) (standing_of pool (take (n + 1) h)) turn.entry user after
      by true e = settles e
      by false e = works e

-- A user's turns.

turns-few : (pool : ℕ) (h : List Entry) (from last : ℕ) (user : Machine) (ns : List ℕ) (after : Machine)
    → ((n : ℕ) → n ≤ last → IsLegal pool (take n h)) → last ≤ length h → Rise from ns last → from ≤ last
    → AreForeign h ns from last user.session → KeepsSide pool (standing_of pool (take from h)) user → TakesTurns pool h user ns after
    → length ns + length after.tasks ≤ length user.tasks + owed_turns (standing_of pool (take from h)) user.session + 2 * sum_by (offers_at h) ns
turns-few pool h from last user ns after legal within rise up foreign keeps turns =
    let spent = (turns-along pool h Spent last others on from user ns after rise up foreign begins turns).1 in
    omega (arith, spent)
  where
    Spent : List ℕ → ℕ → Machine → Type 0
    Spent numbers n m =
        KeepsSide pool (standing_of pool (take n h)) m
        × (length ns + length m.tasks + owed_turns (standing_of pool (take n h)) m.session + 2 * sum_by (offers_at h) numbers
        ≤ length numbers + (length user.tasks + owed_turns (standing_of pool (take from h)) user.session + 2 * sum_by (offers_at h) ns))

    begins : Spent ns from user
    begins = (keeps, omega arith)

    others : (numbers : List ℕ) (low n : ℕ) (m : Machine) → low ≤ n → n ≤ last
        → ((x : SessionId) (k : ℕ) (e : Entry) → m.session ≡ Some x → low ≤ k → k < n → slice_get h k ≡ Some e → IsOfOther x.0 e) → Spent numbers low m → Spent numbers n m
    others numbers low n m above below foreign spent =
        let same = owed-on pool h low n m.session above (legal n below) foreign in
        let rest = spent.1 in
        (keeps-on pool h low n m above (legal n below) foreign spent.0, omega (arith, rest, same))

    on : (numbers : List ℕ) (n : ℕ) (m next : Machine) → n < last → Spent ((n + 1) ∷ numbers) n m → TakesTurn pool h m (n + 1) next → Spent numbers (n + 1) next
    on numbers n m next below spent turn =
        let lawful = legal n (omega (arith, below)) in
        let here : n < length h = omega (arith, below, within) in
        let pays = turn-pays pool h m n next lawful here spent.0 turn in
        let offers = ap (λ (o : Option Entry). option_map_or offers_by o 0) turn.there in
        let all = sum_by-cons (offers_at h) (n + 1) numbers in
        let rest = spent.1 in
        (turn-side pool h m n next lawful here spent.0 turn, omega (arith, rest, pays, offers, all))

pub turns-are_few : TurnsAreFew
turns-are_few program captures h nows r =
    reached-each program captures h nows r (HasFewTurns h)
    (λ share before ns after on.
    let spent = turns-few program.pool h r.first (length h) (starting share before) ns after (legal-at program captures h nows (inr r)) (omega arith) on.rise r.forward on.foreign on.starts on.replays.turns in
    let nothing = on.settled in
    let fewer = rest-fewer (record before { tasks = share.tasks before }) (share.tasks before) in
    omega (arith, spent, nothing, fewer))
