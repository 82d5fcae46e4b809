-- An Enter is made by a user that has it to do, and names that user.
use Rattle.std.proofs.Common.{Bool, true, false, cond, ℕ, ◌≡◌, ◌⊎◌, inl, inr, List, [], ◌∷◌, Option, Some, None, option_map, sym, ◌∙◌, ap}
use Rattle.std.proofs.lemmas.Option.{same_Some}
use Rattle.std.specs.Prelude.{option_and_then}
use Rattle.std.specs.Option.{option_or}
use Rattle.nm_types.specs.declared.fault.SyncFault.{SyncFault}
use Rattle.nm_types.specs.declared.id.Side.{Side}
use Rattle.nm_types.specs.declared.id.Side.TheVariants.{Tx, Rx}
use Rattle.nm_types.specs.declared.id.PortId.{PortId}
use Rattle.nm_types.specs.declared.id.SessionId.{SessionId}
use Rattle.nm_types.specs.Names.{is_pipe_name}
use Rattle.nm_types.specs.OwnPorts.{OwnRing, OwnPort, OwnState, bytes_at, pushed_in, refusal_in, port_with_name}
use Rattle.nm_types.specs.OwnEdits.{has_slots}
use Rattle.nm_types.specs.Parts.{slots_of_bytes}
use Rattle.nm_types.specs.Slots.{pushed_frames}
use Rattle.vale_entry.specs.declared.entry.Ask.{Ask}
use Rattle.vale_entry.specs.declared.entry.Ask.TheVariants.{Enter, Open, Send, Sync, Shut, Leave, Put, Get, Watch, Stat}
use Rattle.vale_entry.specs.declared.entry.Entry.{Entry}
use Rattle.vale_entry.specs.World.{World}
use Rattle.vale_entry.specs.Legal.{Outcome, kept_ask, step}
use Rattle.vale_entry.specs.OwnCalls.{or_reset, offered_items, back_in, tx_call, rx_call, finish_call}
use Rattle.vale_replay.specs.Tasks.{Task, Arrive, OpenPort, PutFrame, SendFrames, TakeFrames, ChangeOwn, SaveFrames, WatchPort, ReadCounts, ShutPort, FinishPort, Depart, EndLine}
use Rattle.vale_replay.specs.Machine.{Machine, enter_call, room_call, put_call, send_call, call_of_task, call_of_tasks, settling_call, owed_lot, next_offer, done_call, grant_call, next_call}
use Rattle.vale_replay.specs.Replay.{TakesTurn, caller_of, entry_of, standing_before}

-- where a call is an Enter, it names this user
abbrev EntersAs : ℕ → Option Ask → Type 0
EntersAs number call = (name : ℕ) → call ≡ Some (Enter name) → name ≡ number

map-enters : {X : Type 0} (number : ℕ) (f : X → Ask) (o : Option X)
    → ((x : X) → EntersAs number (Some (f x))) → EntersAs number (option_map f o)
map-enters number f None each name e = absurd cc
map-enters number f (Some x) each name e = each x name e

then-enters : {X : Type 0} (number : ℕ) (f : X → Option Ask) (o : Option X)
    → ((x : X) → EntersAs number (f x)) → EntersAs number (option_and_then f o)
then-enters number f None each name e = absurd cc
then-enters number f (Some x) each name e = each x name e

or-enters : (number : ℕ) (one other : Option Ask) → EntersAs number one → EntersAs number other
    → EntersAs number (option_or one other)
or-enters number None other front back name e = back name e
or-enters number (Some ask) other front back name e = front name e

reset-enters : (number : ℕ) (fault : Option SyncFault) (id : PortId) (side : Side) (ask : Ask)
    → EntersAs number (Some ask) → EntersAs number (Some (or_reset fault id side ask))
reset-enters number None id side ask each name e = each name e
reset-enters number (Some fault) id side ask each name e = absurd cc

either-enters : (number : ℕ) (b : Bool) (one other : Ask) → EntersAs number (Some one)
    → EntersAs number (Some other) → EntersAs number (Some (cond b one other))
either-enters number true one other front back name e = front name e
either-enters number false one other front back name e = back name e

tx-enters : (number : ℕ) (s : OwnState) (p : OwnPort) (r : OwnRing)
    → EntersAs number (Some (tx_call s p r))
tx-enters number s p r =
    reset-enters number (refusal_in Tx s p r) p.id Tx (cond (is_pipe_name p.name) (Put p.id (offered_items s r)) (Send p.id (pushed_frames (bytes_at s) (pushed_in Tx r))))
    (either-enters number (is_pipe_name p.name) (Put p.id (offered_items s r)) (Send p.id (pushed_frames (bytes_at s) (pushed_in Tx r))) (λ name e. absurd cc) (λ name e. absurd cc))

rx-enters : (number : ℕ) (s : OwnState) (p : OwnPort) → EntersAs number (Some (rx_call s p))
rx-enters number s p =
    reset-enters number (refusal_in Rx s p p.rx) p.id Rx (cond (is_pipe_name p.name) (Get p.id (back_in p)) (Sync p.id (back_in p)))
    (either-enters number (is_pipe_name p.name) (Get p.id (back_in p)) (Sync p.id (back_in p)) (λ name e. absurd cc) (λ name e. absurd cc))

room-enters : (number : ℕ) (s : OwnState) (p : OwnPort) (r : OwnRing) (b : Bool)
    → EntersAs number (cond b None (Some (tx_call s p r)))
room-enters number s p r true name e = absurd cc
room-enters number s p r false name e = tx-enters number s p r name e

own-enters : (number : ℕ) (session : Option SessionId) → EntersAs number (enter_call number session)
own-enters number None name e = let same : Enter number ≡ Enter name = same_Some (Enter number) (Enter name) e in cc
own-enters number (Some session) name e = absurd cc

task-enters : (user : Machine) (task : Task) → EntersAs user.number (call_of_task user task)
task-enters user Arrive = own-enters user.number user.session
task-enters user (OpenPort name tx rx extra) =
    map-enters user.number (λ (session : SessionId). Open session name tx rx extra) user.session (λ session n e. absurd cc)
task-enters user (PutFrame name bytes) =
    then-enters user.number (put_call user.own bytes) (port_with_name user.own name)
    (λ (p : OwnPort). then-enters user.number (room_call user.own bytes p) p.tx (λ (r : OwnRing). room-enters user.number user.own p r (has_slots (slots_of_bytes bytes) r)))
task-enters user (SendFrames name) =
    then-enters user.number (send_call user.own) (port_with_name user.own name) (λ (p : OwnPort). map-enters user.number (tx_call user.own p) p.tx (tx-enters user.number user.own p))
task-enters user (TakeFrames name) = map-enters user.number (rx_call user.own) (port_with_name user.own name) (rx-enters user.number user.own)
task-enters user (ChangeOwn act) = λ n e. absurd cc
task-enters user (SaveFrames name file) = λ n e. absurd cc
task-enters user (WatchPort monitor target sides) =
    map-enters user.number (λ (p : OwnPort). Watch p.id target sides) (port_with_name user.own monitor) (λ p n e. absurd cc)
task-enters user (ReadCounts name) = map-enters user.number (λ (p : OwnPort). Stat p.id) (port_with_name user.own name) (λ p n e. absurd cc)
task-enters user (ShutPort name) = map-enters user.number (λ (p : OwnPort). Shut p.id) (port_with_name user.own name) (λ p n e. absurd cc)
task-enters user (FinishPort name) = map-enters user.number (finish_call user.own) (port_with_name user.own name) (λ p n e. absurd cc)
task-enters user Depart = map-enters user.number Leave user.session (λ session n e. absurd cc)
task-enters user EndLine = λ n e. absurd cc

tasks-enter : (user : Machine) (tasks : List Task) → EntersAs user.number (call_of_tasks user tasks)
tasks-enter user [] name e = absurd cc
tasks-enter user (task ∷ tasks) name e = task-enters user task name e

settling-enters : (number : ℕ) (w : World) (session : SessionId)
    → EntersAs number (settling_call w session)
settling-enters number w session =
    or-enters number (option_map done_call (owed_lot w session.0)) (option_map grant_call (next_offer w session.0))
    (map-enters number done_call (owed_lot w session.0) (λ lot n e. absurd cc)) (map-enters number grant_call (next_offer w session.0) (λ offer n e. absurd cc))

pub call-enters : (w : World) (user : Machine) → EntersAs user.number (next_call w user)
call-enters w user =
    or-enters user.number (option_and_then (settling_call w) user.session) (call_of_tasks user user.tasks)
    (then-enters user.number (settling_call w) user.session (settling-enters user.number w)) (tasks-enter user user.tasks)

-- the ask of an entry is the one that made it, as it is kept
pub ask-by : (ask : Ask) (entry : Entry) (made : Option Outcome)
    → option_map (entry_of ask) made ≡ Some entry → entry.ask ≡ kept_ask ask
ask-by ask entry None e = absurd cc
ask-by ask entry (Some made) e = ap (λ (x : Entry). x.ask) (sym (same_Some (entry_of ask made) entry e))

-- Whose an entry is: its user's session's, or it is the Enter of the user.
pub record Enters (n : ℕ) (user : Machine) (entry : Entry) : Type 0 where
  pub session : entry.session.0 ≡ n
  pub ask : entry.ask ≡ Enter user.number

enters-by : (n : ℕ) (w : World) (user : Machine) (ask : Ask) (entry : Entry)
    → next_call w user ≡ Some ask → entry.ask ≡ kept_ask ask → caller_of n user ask ≡ Some entry.session
    → (user.session ≡ Some entry.session) ⊎ Enters n user entry
enters-by n w user (Enter name) entry asked is e =
    let same : record { 0 = n } ≡ entry.session = same_Some (record { 0 = n }) entry.session e in
    let number : name ≡ user.number = call-enters w user name asked in
    inr (record { session = ap (λ (x : SessionId). x.0) (sym same); ask = is ∙ ap Enter number })
enters-by n w user _ entry asked is e = inl e

pub turn-enters : (pool : ℕ) (h : List Entry) (before : Machine) (n : ℕ) (after : Machine) (turn : TakesTurn pool h before n after)
    → (before.session ≡ Some turn.entry.session) ⊎ Enters n before turn.entry
turn-enters pool h before n after turn =
    let s = standing_before pool h n in
    enters-by n s.world before turn.ask turn.entry turn.asked (ask-by turn.ask turn.entry (step s turn.ask) turn.made) turn.caller
