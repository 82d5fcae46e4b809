-- A turn of a user spends what its entry costs.
use Rattle.std.proofs.Common.{ℕ, ◌+◌, ◌-◌, ◌≤◌, ◌≡◌, Bool, true, false, cond, List, [], ◌∷◌, take, Option, Some, None, option_map, is_some, refl, sym, ap, subst, arith}
use Rattle.std.specs.Prelude.{not, ◌||◌, option_and_then}
use Rattle.std.specs.Option.{option_or}
use Rattle.std.proofs.lemmas.List.Sums.{sum_by-cons}
use Rattle.std.proofs.lemmas.Option.{same_Some}
use Rattle.nm_types.specs.declared.id.SessionId.{SessionId}
use Rattle.nm_types.specs.OwnPorts.{OwnPort, OwnState, port_with_name}
use Rattle.vale_entry.specs.declared.entry.Ask.{Ask}
use Rattle.vale_entry.specs.declared.entry.Ask.TheVariants.{Enter, Open, Watch, Stat, Shut, Leave}
use Rattle.vale_entry.specs.declared.entry.Entry.{Entry}
use Rattle.vale_entry.specs.declared.entry.Reply.{Reply}
use Rattle.vale_entry.specs.declared.entry.Reply.TheVariants as replies
use Rattle.vale_entry.specs.World.{Lot, Offer}
use Rattle.vale_entry.specs.Arrivals.{arrivals_of}
use Rattle.vale_entry.specs.OwnCalls.{tx_call, rx_call, finish_call, own_by}
use Rattle.vale_entry.specs.Legal.{Standing, Outcome, IsLegal, standing_of, step, kept_ask, session_and_reply}
use Rattle.vale_own.specs.Side.{IsOfSide}
use Rattle.vale_own.proofs.SideEntries.{transmits-of, receives-of, finishes-of}
use Rattle.vale_replay.specs.Tasks.{Task, Arrive, OpenPort, PutFrame, SendFrames, TakeFrames, ChangeOwn, SaveFrames, WatchPort, ReadCounts, ShutPort, FinishPort, Depart, EndLine, lines_left}
use Rattle.vale_replay.specs.Machine.{Machine, after_task, answered, at_rest, call_of_task, call_of_tasks, done_call, enter_call, grant_call, has_room_at, is_peer_gone, is_reset, is_settling, next_call, next_offer, owed_lot, resting, settling_call, with_tasks}
use Rattle.vale_replay.specs.Replay.{TakesTurn, entry_of}
use Rattle.vale_cost.specs.Completeness.{Cost, Sends, Bytes, Calls, Opens, cost, calls_of_ask, opened_by, cost_of_task, calls_of_task, opens_of_task, waiting, left, Spends, TurnsSpend}
use Rattle.vale_cost.proofs.RoomViews.{AreTidy, views, tidy-of}
use Rattle.vale_cost.proofs.RoomOwn.{call_of, own-spends}
use Rattle.vale_cost.proofs.RoomRests.{cost_in, ArePlain, added_by, adds-less, adds-no_calls, adds-no_opens, task-edit, rests, lines-left}
use Rattle.vale_replay.proofs.PutRooms.{room-none}
use Rattle.vale_replay.proofs.TurnSides.{outcome-of}
use Rattle.vale_cost.proofs.RoomTurns.{by-id, IsSync, tx-sync, rx-sync, TxOf, put-of, send-of, mapped, brings}

record SpendsFrom (tasks : List Task) (own : OwnState) (after : Machine) (ask : Ask) (reply : Reply) : Type 0 where
  spends : (c : Cost) → left c after + cost c ask reply ≤ cost_in c tasks + waiting c own
  plain : ArePlain after.tasks

-- a task pays what it adds to what waits, and what its call costs beside what that takes
abbrev Pays : Task → Ask → Reply → Type 0
Pays task ask reply = (c : Cost) → added_by c task + call_of c ask reply ≤ cost_of_task c task

pays : (task : Task) (ask : Ask) (reply : Reply) → calls_of_ask ask ≤ calls_of_task task → ((switch : List ℕ) → opened_by switch ask reply ≤ opens_of_task switch task) → Pays task ask reply
pays task ask reply calls opens Sends = let less = adds-less Sends task in omega (arith, less)
pays task ask reply calls opens Bytes = let less = adds-less Bytes task in omega (arith, less)
pays task ask reply calls opens Calls = let none = adds-no_calls task in omega (arith, none, calls)
pays task ask reply calls opens (Opens switch) = let none = adds-no_opens switch task in let less = opens switch in omega (arith, none, less)

sync-pays : (task : Task) (ask : Ask) (reply : Reply) → IsSync ask → calls_of_task task ≡ 3 → Pays task (kept_ask ask) reply
sync-pays task ask reply sync three =
    let calls = sync.calls in
    pays task (kept_ask ask) reply (omega (arith, calls, three)) (λ switch. let none = sync.opens switch reply in omega (arith, none))

or-none : (x y : Bool) → (x || not y) ≡ false → y ≡ true
or-none true y e = absurd cc
or-none false true e = refl
or-none false false e = absurd cc

module _ (pool : ℕ) (past : List Entry) (legal : IsLegal pool past) (number : ℕ) (user : Machine) (tidy-own : AreTidy (views user.own)) (made : Outcome) where
  abbrev s : Standing
  s = standing_of pool past

  abbrev own_next : Ask → OwnState
  own_next a = own_by number (kept_ask a) made.reply (arrivals_of s (kept_ask a) made.reply) user.own

  abbrev worked : List Task → Ask → Machine
  worked tasks a = with_tasks number (entry_of a made) (record user { own = own_next a }) tasks

  abbrev next_at : List Task → Ask → Machine
  next_at tasks a = cond (is_settling (kept_ask a)) user (worked tasks a)

  abbrev GoalAt : List Task → Ask → Machine → Type 0
  GoalAt tasks a next = AreTidy (views (resting next).own) → SpendsFrom tasks user.own (resting next) (kept_ask a) made.reply

  abbrev Goal : List Task → Ask → Type 0
  Goal tasks a = GoalAt tasks a (next_at tasks a)

  finish : (next : Machine) (tasks : List Task) (a : Ask) → ArePlain next.tasks
      → ((c : Cost) → cost_in c next.tasks + waiting c next.own + cost c (kept_ask a) made.reply ≤ cost_in c tasks + waiting c user.own) → GoalAt tasks a next
  finish next tasks a plain spends tidy =
      let r = rests next next.tasks plain in
      record { spends = λ c. (let all = r.spends c (r.back tidy) in let less = spends c in omega (arith, all, less)); plain = r.plain }

  own-less : (c : Cost) (a : Ask) → step s a ≡ Some made → IsOfSide None user.own (kept_ask a) made.reply
      → waiting c (own_next a) + cost c (kept_ask a) made.reply ≤ waiting c user.own + call_of c (kept_ask a) made.reply
  own-less c a is of = own-spends c number None (kept_ask a) made.reply (arrivals_of s (kept_ask a) made.reply) user.own tidy-own of (brings pool past legal a made is)

  -- the task is done
  gone : (head : Task) (rest next : List Task) (a : Ask) → ArePlain next → ((c : Cost) → cost_in c next ≤ cost_in c rest) → step s a ≡ Some made → IsOfSide None user.own (kept_ask a) made.reply
      → Pays head (kept_ask a) made.reply → GoalAt (head ∷ rest) a (record user { own = own_next a; tasks = next })
  gone head rest next a plain less is of paid =
      finish (record user { own = own_next a; tasks = next }) (head ∷ rest) a plain
      (λ c.
      let all = sum_by-cons (cost_of_task c) head rest in
      let waits = own-less c a is of in
      let call = paid c in
      let few = less c in
      omega (arith, all, waits, call, few))

  at-sync : (tasks : List Task) (a : Ask) → is_settling (kept_ask a) ≡ false → GoalAt tasks a (worked tasks a) → Goal tasks a
  at-sync tasks a settles goal = subst (λ (b : Bool). GoalAt tasks a (cond b user (worked tasks a))) (sym settles) goal

  of-tx : (name : List ℕ) (ask : Ask) (t : TxOf user.own name ask) → step s (tx_call user.own t.port t.ring) ≡ Some made → IsOfSide None user.own (kept_ask (tx_call user.own t.port t.ring)) made.reply
  of-tx name ask t is = transmits-of pool past made.session None user.own t.port t.ring made.reply (by-id user.own name t.port tidy-own t.named) t.has (ap (option_map session_and_reply) is)

  all-left : (rest : List Task) (c : Cost) → cost_in c rest ≤ cost_in c rest
  all-left rest c = omega arith

  -- ---- a frame for which there was no room

  put-again : (name bytes : List ℕ) (rest : List Task) (a : Ask) → ArePlain rest → step s a ≡ Some made → IsOfSide None user.own (kept_ask a) made.reply → Pays (PutFrame name bytes) (kept_ask a) made.reply
      → has_room_at (own_next a) name bytes ≡ true → GoalAt (PutFrame name bytes ∷ rest) a (record user { own = own_next a; tasks = PutFrame name bytes ∷ rest })
  put-again name bytes rest a plain is of paid room tidy =
      let next : Machine = record user { own = own_next a; tasks = PutFrame name bytes ∷ rest } in
      let whole = rests next (PutFrame name bytes ∷ rest) (tt, plain) in
      let tidy-next = whole.back tidy in
      let none : call_of_task next (PutFrame name bytes) ≡ None = room-none (own_next a) name bytes (λ p named. by-id (own_next a) name p tidy-next named) room in
      let goes : resting next ≡ at_rest (after_task (PutFrame name bytes) next) rest =
      ap (λ (o : Option Ask). cond (is_some o) (record next { tasks = PutFrame name bytes ∷ rest }) (at_rest (after_task (PutFrame name bytes) next) rest)) none in
      let edit = task-edit (PutFrame name bytes) next tt in
      let later = rests (after_task (PutFrame name bytes) next) rest plain in
      record {
        spends = λ c.
            (let all = later.spends c (edit.tidy tidy-next) in
            let same = ap (left c) goes in
            let more = edit.less c tidy-next in
            let waits = own-less c a is of in
            let call = paid c in
            let sum = sum_by-cons (cost_of_task c) (PutFrame name bytes) rest in
            omega (arith, all, same, more, waits, call, sum));
        plain = whole.plain;
      }

  put-turn : (name bytes : List ℕ) (rest : List Task) (a : Ask) → ArePlain rest → IsSync a → step s a ≡ Some made → IsOfSide None user.own (kept_ask a) made.reply → Goal (PutFrame name bytes ∷ rest) a
  put-turn name bytes rest a plain sync is of =
      at-sync (PutFrame name bytes ∷ rest) a sync.settles (by (is_reset (kept_ask a) || not (has_room_at (own_next a) name bytes)) refl)
    where
      paid : Pays (PutFrame name bytes) (kept_ask a) made.reply
      paid = sync-pays (PutFrame name bytes) a made.reply sync refl

      by : (b : Bool) → (is_reset (kept_ask a) || not (has_room_at (own_next a) name bytes)) ≡ b
          → GoalAt (PutFrame name bytes ∷ rest) a (record user { own = own_next a; tasks = cond b (lines_left rest) (PutFrame name bytes ∷ rest) })
      by true e = gone (PutFrame name bytes) rest (lines_left rest) a ((lines-left rest).plain plain) (lines-left rest).costs is of paid
      by false e = put-again name bytes rest a plain is of paid (or-none (is_reset (kept_ask a)) (has_room_at (own_next a) name bytes) e)

  send-turn : (name : List ℕ) (rest : List Task) (a : Ask) → ArePlain rest → IsSync a → step s a ≡ Some made → IsOfSide None user.own (kept_ask a) made.reply → Goal (SendFrames name ∷ rest) a
  send-turn name rest a plain sync is of =
      at-sync (SendFrames name ∷ rest) a sync.settles (by (is_reset (kept_ask a) || is_peer_gone made.reply))
    where
      paid : Pays (SendFrames name) (kept_ask a) made.reply
      paid = sync-pays (SendFrames name) a made.reply sync refl

      by : (b : Bool) → GoalAt (SendFrames name ∷ rest) a (record user { own = own_next a; tasks = cond b (lines_left rest) rest })
      by true = gone (SendFrames name) rest (lines_left rest) a ((lines-left rest).plain plain) (lines-left rest).costs is of paid
      by false = gone (SendFrames name) rest rest a plain (all-left rest) is of paid

  -- ---- a user's tasks

  abbrev TaskGoal : List Task → Ask → Type 0
  TaskGoal tasks a = step s a ≡ Some made → Goal tasks a

  -- a task whose call makes nothing wait
  done : (head : Task) (rest : List Task) (a : Ask) → ArePlain rest → step s a ≡ Some made → IsOfSide None user.own (kept_ask a) made.reply
      → Pays head (kept_ask a) made.reply → GoalAt (head ∷ rest) a (record user { own = own_next a; tasks = rest })
  done head rest a plain is of paid = gone head rest rest a plain (all-left rest) is of paid

  enter-turn : (rest : List Task) (session : Option SessionId) (ask : Ask) → ArePlain rest → enter_call user.number session ≡ Some ask → TaskGoal (Arrive ∷ rest) ask
  enter-turn rest None ask plain call = subst (TaskGoal (Arrive ∷ rest)) (same_Some (Enter user.number) ask call) (λ is.
      finish (record user { session = Some (record { 0 = number }); tasks = rest }) (Arrive ∷ rest) (Enter user.number) plain (λ c. entered c rest))
    where
      entered : (c : Cost) (rest : List Task) → cost_in c rest + waiting c user.own + cost c (kept_ask (Enter user.number)) made.reply ≤ cost_in c (Arrive ∷ rest) + waiting c user.own
      entered Sends rest = let all = sum_by-cons (cost_of_task Sends) Arrive rest in omega (arith, all)
      entered Bytes rest = let all = sum_by-cons (cost_of_task Bytes) Arrive rest in omega (arith, all)
      entered Calls rest = let all = sum_by-cons (cost_of_task Calls) Arrive rest in omega (arith, all)
      entered (Opens switch) rest = let all = sum_by-cons (cost_of_task (Opens switch)) Arrive rest in omega (arith, all)
  enter-turn rest (Some x) ask plain call = absurd cc

  opening-pays : (x : SessionId) (name : List ℕ) (tx rx extra : ℕ) (reply : Reply) → Pays (OpenPort name tx rx extra) (Open x name tx rx extra) reply
  opening-pays x name tx rx extra reply = pays (OpenPort name tx rx extra) (Open x name tx rx extra) reply (omega arith) (λ switch. by switch reply)
    where
      by : (switch : List ℕ) (r : Reply) → opened_by switch (Open x name tx rx extra) r ≤ opens_of_task switch (OpenPort name tx rx extra)
      by switch replies.Opened = omega arith
      by switch _ = omega arith

  head-turn : (tasks : List Task) (ask : Ask) → ArePlain tasks → call_of_tasks user tasks ≡ Some ask → TaskGoal tasks ask
  head-turn [] ask plain call = absurd cc
  head-turn (Arrive ∷ rest) ask plain call = enter-turn rest user.session ask plain.1 call
  head-turn (OpenPort name tx rx extra ∷ rest) ask plain call =
      mapped (λ (session : SessionId). Open session name tx rx extra) user.session ask (TaskGoal (OpenPort name tx rx extra ∷ rest)) call
      (λ x e is. done (OpenPort name tx rx extra) rest (Open x name tx rx extra) plain.1 is refl (opening-pays x name tx rx extra made.reply))
  head-turn (PutFrame name bytes ∷ rest) ask plain call =
      let t = put-of user.own name bytes ask call in
      subst (TaskGoal (PutFrame name bytes ∷ rest)) t.is (λ is. put-turn name bytes rest (tx_call user.own t.port t.ring) plain.1 (tx-sync user.own t.port t.ring) is (of-tx name ask t is))
  head-turn (SendFrames name ∷ rest) ask plain call =
      let t = send-of user.own name ask call in
      subst (TaskGoal (SendFrames name ∷ rest)) t.is (λ is. send-turn name rest (tx_call user.own t.port t.ring) plain.1 (tx-sync user.own t.port t.ring) is (of-tx name ask t is))
  head-turn (TakeFrames name ∷ rest) ask plain call =
      mapped (rx_call user.own) (port_with_name user.own name) ask (TaskGoal (TakeFrames name ∷ rest)) call
      (λ p named is.
      let sync = rx-sync user.own p in
      at-sync (TakeFrames name ∷ rest) (rx_call user.own p) sync.settles
      (done (TakeFrames name) rest (rx_call user.own p) plain.1 is (receives-of None user.own p made.reply (by-id user.own name p tidy-own named)) (sync-pays (TakeFrames name) (rx_call user.own p) made.reply sync refl)))
  head-turn (ChangeOwn act ∷ rest) ask plain call = absurd cc
  head-turn (SaveFrames name file ∷ rest) ask plain call = absurd cc
  head-turn (WatchPort monitor target sides ∷ rest) ask plain call =
      mapped (λ (p : OwnPort). Watch p.id target sides) (port_with_name user.own monitor) ask (TaskGoal (WatchPort monitor target sides ∷ rest)) call
      (λ p named is. done (WatchPort monitor target sides) rest (Watch p.id target sides) plain.1 is tt
      (pays (WatchPort monitor target sides) (Watch p.id target sides) made.reply (omega arith) (λ switch. omega arith)))
  head-turn (ReadCounts name ∷ rest) ask plain call =
      mapped (λ (p : OwnPort). Stat p.id) (port_with_name user.own name) ask (TaskGoal (ReadCounts name ∷ rest)) call
      (λ p named is. done (ReadCounts name) rest (Stat p.id) plain.1 is tt (pays (ReadCounts name) (Stat p.id) made.reply (omega arith) (λ switch. omega arith)))
  head-turn (ShutPort name ∷ rest) ask plain call =
      mapped (λ (p : OwnPort). Shut p.id) (port_with_name user.own name) ask (TaskGoal (ShutPort name ∷ rest)) call
      (λ p named is. done (ShutPort name) rest (Shut p.id) plain.1 is refl (pays (ShutPort name) (Shut p.id) made.reply (omega arith) (λ switch. omega arith)))
  head-turn (FinishPort name ∷ rest) ask plain call =
      mapped (finish_call user.own) (port_with_name user.own name) ask (TaskGoal (FinishPort name ∷ rest)) call
      (λ p named is. done (FinishPort name) rest (finish_call user.own p) plain.1 is (finishes-of None user.own p made.reply (by-id user.own name p tidy-own named))
      (pays (FinishPort name) (kept_ask (finish_call user.own p)) made.reply (omega arith) (λ switch. omega arith)))
  head-turn (Depart ∷ rest) ask plain call =
      mapped Leave user.session ask (TaskGoal (Depart ∷ rest)) call
      (λ x e is. finish (record user { session = None; tasks = rest }) (Depart ∷ rest) (Leave x) plain.1 (λ c. departed x c rest))
    where
      departed : (x : SessionId) (c : Cost) (rest : List Task) → cost_in c rest + waiting c user.own + cost c (Leave x) made.reply ≤ cost_in c (Depart ∷ rest) + waiting c user.own
      departed x Sends rest = let all = sum_by-cons (cost_of_task Sends) Depart rest in omega (arith, all)
      departed x Bytes rest = let all = sum_by-cons (cost_of_task Bytes) Depart rest in omega (arith, all)
      departed x Calls rest = let all = sum_by-cons (cost_of_task Calls) Depart rest in omega (arith, all)
      departed x (Opens switch) rest = let all = sum_by-cons (cost_of_task (Opens switch)) Depart rest in omega (arith, all)
  head-turn (EndLine ∷ rest) ask plain call = absurd cc

  -- ---- what settles costs nothing

  settles-free : (a : Ask) → ((c : Cost) → cost c (kept_ask a) made.reply ≡ 0) → ArePlain user.tasks → GoalAt user.tasks a user
  settles-free a free plain = finish user user.tasks a plain (λ c. let none = free c in omega (arith, none))

  done-turn : (lot : Lot) → ArePlain user.tasks → Goal user.tasks (done_call lot)
  done-turn lot plain = settles-free (done_call lot) free plain
    where
      free : (c : Cost) → cost c (kept_ask (done_call lot)) made.reply ≡ 0
      free Sends = refl
      free Bytes = refl
      free Calls = refl
      free (Opens switch) = refl

  grant-turn : (offer : Offer) → ArePlain user.tasks → Goal user.tasks (grant_call offer)
  grant-turn offer plain = settles-free (grant_call offer) free plain
    where
      free : (c : Cost) → cost c (kept_ask (grant_call offer)) made.reply ≡ 0
      free Sends = refl
      free Bytes = refl
      free Calls = refl
      free (Opens switch) = refl

  pub made-spends : (ask : Ask) → ArePlain user.tasks → next_call s.world user ≡ Some ask → step s ask ≡ Some made
      → AreTidy (views (resting (answered number (entry_of ask made) (arrivals_of s (kept_ask ask) made.reply) user)).own)
      → Spends user (resting (answered number (entry_of ask made) (arrivals_of s (kept_ask ask) made.reply) user)) (kept_ask ask) made.reply
  made-spends ask plain called is tidy =
      let goal = by user.session called tidy in
      record { spends = goal.spends; plain = goal.plain }
    where
      by-offer : (lot : Option Lot) (offer : Option Offer) → option_or (option_or (option_map done_call lot) (option_map grant_call offer)) (call_of_tasks user user.tasks) ≡ Some ask → Goal user.tasks ask
      by-offer (Some lot) offer e = subst (Goal user.tasks) (same_Some (done_call lot) ask e) (done-turn lot plain)
      by-offer None (Some offer) e = subst (Goal user.tasks) (same_Some (grant_call offer) ask e) (grant-turn offer plain)
      by-offer None None e = head-turn user.tasks ask plain e is

      by : (session : Option SessionId) → option_or (option_and_then (settling_call s.world) session) (call_of_tasks user user.tasks) ≡ Some ask → Goal user.tasks ask
      by None e = head-turn user.tasks ask plain e is
      by (Some x) e = by-offer (owed_lot s.world x.0) (next_offer s.world x.0) e

-- ---- turns

-- what holds of the entry of each outcome of a turn's ask holds of the turn's entry
pub turn-outcome : {pool : ℕ} {h : List Entry} {user : Machine} {n : ℕ} {after : Machine} (turn : TakesTurn pool h user n after) (P : Entry → Type 0)
    → ((out : Outcome) → step (standing_of pool (take (n - 1) h)) turn.ask ≡ Some out → P (entry_of turn.ask out)) → P turn.entry
turn-outcome {pool} {h} {user} {n} {after} turn P each =
    let out = outcome-of turn.ask turn.entry (step (standing_of pool (take (n - 1) h)) turn.ask) turn.made in
    subst P out.2 (each out.0 out.1)

abbrev SpendsAt : ℕ → List Entry → ℕ → Machine → Machine → Entry → Type 0
SpendsAt pool past number user after e =
    after ≡ resting (answered number e (arrivals_of (standing_of pool past) e.ask e.reply) user) → Spends user after e.ask e.reply

pub tidy-spends : (pool : ℕ) (h : List Entry) (user : Machine) (n : ℕ) (after : Machine) → IsLegal pool (take (n - 1) h) → AreTidy (views user.own) → AreTidy (views after.own)
    → ArePlain user.tasks → (turn : TakesTurn pool h user n after) → Spends user after turn.entry.ask turn.entry.reply
tidy-spends pool h user n after legal tidy tidy-after plain turn =
    turn-outcome turn (SpendsAt pool (take (n - 1) h) n user after) here turn.goes_on
  where
    here : (out : Outcome) → step (standing_of pool (take (n - 1) h)) turn.ask ≡ Some out → SpendsAt pool (take (n - 1) h) n user after (entry_of turn.ask out)
    here out made goes =
        subst (λ (m : Machine). Spends user m (kept_ask turn.ask) out.reply) (sym goes)
        (made-spends pool (take (n - 1) h) legal n user tidy out turn.ask plain turn.asked made
        (subst (λ (m : Machine). AreTidy (views m.own)) goes tidy-after))

pub turns-spend : TurnsSpend
turns-spend pool h user n after legal sound sound-after plain turn = tidy-spends pool h user n after legal (tidy-of user.own sound) (tidy-of after.own sound-after) plain turn
