-- One user's machine: what the user has, what it has to do, what of that makes no call, and the
-- call that it needs next. The offers of its session that are not granted, and its leases that are
-- not done, stand in the world and are read there.
use Rattle.std.specs.Prelude.{ℕ, Bool, true, false, not, ◌||◌, ◌==◌, if◌then◌else◌, List, [], ◌∷◌, ◌++◌, find, flat_map, Option, Some, None, is_some, option_map, option_and_then, length}
use Rattle.std.specs.Option.{option_or, option_map_or}
use Rattle.nm_types.specs.declared.id.PortId.{PortId}
use Rattle.nm_types.specs.declared.id.SessionId.{SessionId}
use Rattle.nm_types.specs.OwnPorts.{OwnPort, OwnRing, OwnState, Arrival, empty_own, port_with_name}
use Rattle.nm_types.specs.OwnEdits.{has_slots, has_room, with_frame}
use Rattle.nm_types.specs.Parts.{slots_of_bytes}
use Rattle.vale_entry.specs.declared.entry.Ask.{Ask}
use Rattle.vale_entry.specs.declared.entry.Ask.TheVariants.{Enter, Open, Grant, Done, Reset, Shut, Leave, Watch, Stat}
use Rattle.vale_entry.specs.declared.entry.Reply.{Reply}
use Rattle.vale_entry.specs.declared.entry.Reply.TheVariants.{PeerGone}
use Rattle.vale_entry.specs.declared.entry.Entry.{Entry}
use Rattle.vale_entry.specs.World.{World, Lot, Offer, is_owed_by}
use Rattle.vale_entry.specs.Delivery.{line_of}
use Rattle.vale_entry.specs.OwnCalls.{tx_call, rx_call, finish_call, own_after}
use Rattle.vale_replay.specs.Tasks.{Task, Arrive, OpenPort, PutFrame, SendFrames, TakeFrames, ChangeOwn, SaveFrames, WatchPort, ReadCounts, ShutPort, FinishPort, Depart, EndLine, lines_left}
use Rattle.vale_replay.specs.Edits.{at_port, changed_by}

-- the frames that a port gives go into a file
pub record Save : Type 0 where
  pub file : List ℕ
  pub port : PortId

-- a user in the midst of its lines
pub record Machine : Type 0 where
  pub number : ℕ
  pub session : Option SessionId
  pub own : OwnState
  pub saves : List Save
  pub tasks : List Task

abbrev pub new_machine : ℕ → ℕ → Machine
new_machine pool number =
    record { number = number; session = None; own = empty_own pool; saves = []; tasks = [] }

-- after the last line each port is closed, in the order in which they were opened, and the user
-- leaves
abbrev pub closing_of : OwnPort → List Task
closing_of p = ShutPort p.name ∷ FinishPort p.name ∷ []

abbrev pub closing_tasks : Machine → List Task
closing_tasks user = flat_map closing_of user.own.ports ++ Depart ∷ []

-- The call that a task needs; none where it has what it needs, and none at a port that the user
-- does not have open.

abbrev pub enter_call : ℕ → Option SessionId → Option Ask
enter_call number None = Some (Enter number)
enter_call number (Some session) = None

-- a frame is put where the transmit ring has slots for it; else the ring is synced first
abbrev pub room_call : OwnState → List ℕ → OwnPort → OwnRing → Option Ask
room_call s bytes p r = if has_slots (slots_of_bytes bytes) r then None else Some (tx_call s p r)

abbrev pub put_call : OwnState → List ℕ → OwnPort → Option Ask
put_call s bytes p = option_and_then (room_call s bytes p) p.tx

abbrev pub send_call : OwnState → OwnPort → Option Ask
send_call s p = option_map (tx_call s p) p.tx

abbrev pub call_of_task : Machine → Task → Option Ask
call_of_task user Arrive = enter_call user.number user.session
call_of_task user (OpenPort name tx rx extra) =
    option_map (λ (session : SessionId). Open session name tx rx extra) user.session
call_of_task user (PutFrame name bytes) =
    option_and_then (put_call user.own bytes) (port_with_name user.own name)
call_of_task user (SendFrames name) =
    option_and_then (send_call user.own) (port_with_name user.own name)
call_of_task user (TakeFrames name) = option_map (rx_call user.own) (port_with_name user.own name)
call_of_task user (ChangeOwn act) = None
call_of_task user (SaveFrames name file) = None
call_of_task user (WatchPort monitor target sides) =
    option_map (λ (p : OwnPort). Watch p.id target sides) (port_with_name user.own monitor)
call_of_task user (ReadCounts name) =
    option_map (λ (p : OwnPort). Stat p.id) (port_with_name user.own name)
call_of_task user (ShutPort name) =
    option_map (λ (p : OwnPort). Shut p.id) (port_with_name user.own name)
call_of_task user (FinishPort name) =
    option_map (finish_call user.own) (port_with_name user.own name)
call_of_task user Depart = option_map Leave user.session
call_of_task user EndLine = None

-- what a task does that needs no call

abbrev pub saves_with : List ℕ → List Save → Option OwnPort → List Save
saves_with file saves None = saves
saves_with file saves (Some p) = saves ++ (record { file = file; port = p.id }) ∷ []

abbrev pub after_task : Task → Machine → Machine
after_task (PutFrame name bytes) user =
    record user { own = at_port name (λ id. with_frame id bytes) user.own }
after_task (ChangeOwn act) user = record user { own = changed_by act user.own }
after_task (SaveFrames name file) user =
    record user { saves = saves_with file user.saves (port_with_name user.own name) }
after_task _ user = user

-- the tasks done up to the one that needs a call, or to their end
abbrev pub at_rest : Machine → List Task → Machine
at_rest user [] = record user { tasks = [] }
at_rest user (task ∷ tasks) =
    if is_some (call_of_task user task) then record user { tasks = task ∷ tasks }
    else at_rest (after_task task user) tasks

abbrev pub resting : Machine → Machine
resting user = at_rest user user.tasks

-- what settles a session: first a lease of its own is completed, then its next offer is granted

abbrev pub done_call : Lot → Ask
done_call lot = Done (record { 0 = lot.number })

abbrev pub grant_call : Offer → Ask
grant_call offer = Grant offer.origin (record { 0 = offer.to })

abbrev pub owed_lot : World → ℕ → Option Lot
owed_lot w session = find (is_owed_by session) (flat_map line_of w.ports)

abbrev pub next_offer : World → ℕ → Option Offer
next_offer w session = find (λ (offer : Offer). offer.session == session) w.offers

abbrev pub settling_call : World → SessionId → Option Ask
settling_call w session =
    option_or (option_map done_call (owed_lot w session.0))
    (option_map grant_call (next_offer w session.0))

abbrev pub call_of_tasks : Machine → List Task → Option Ask
call_of_tasks user [] = None
call_of_tasks user (task ∷ tasks) = call_of_task user task

-- The call that a resting user has pending, by what it has and what its session owes: none where it
-- has nothing to do and is settled. Entries of others leave it as it is.
abbrev pub pending_call : World → Machine → Option Ask
pending_call w user =
    option_or (option_and_then (settling_call w) user.session) (call_of_tasks user user.tasks)

-- the call that the user needs next, as it is made in what stands: the pending one, as it is
abbrev pub next_call : World → Machine → Option Ask
next_call w user = pending_call w user

-- What the entry of a call makes of its user.

abbrev pub is_reset : Ask → Bool
is_reset (Reset port side fault) = true
is_reset _ = false

abbrev pub is_peer_gone : Reply → Bool
is_peer_gone PeerGone = true
is_peer_gone _ = false

abbrev pub has_room_at : OwnState → List ℕ → List ℕ → Bool
has_room_at s name bytes =
    option_map_or (λ (p : OwnPort). has_room s p.id.0 (length bytes)) (port_with_name s name) false

-- a frame whose ring was synced is put now; the line ends where the sync was refused, and where the
-- ring has too few slots still
abbrev pub tasks_after_room : Entry → OwnState → List ℕ → List ℕ → List Task → List Task
tasks_after_room entry s name bytes rest =
    if is_reset entry.ask || not (has_room_at s name bytes) then lines_left rest
    else PutFrame name bytes ∷ rest

-- a line ends where its sync is refused, or finds that the other end of a pipe is gone
abbrev pub tasks_after_send : Entry → List Task → List Task
tasks_after_send entry rest =
    if is_reset entry.ask || is_peer_gone entry.reply then lines_left rest else rest

abbrev pub with_tasks : ℕ → Entry → Machine → List Task → Machine
with_tasks number entry user [] = user
with_tasks number entry user (Arrive ∷ rest) =
    record user { session = Some (record { 0 = number }); tasks = rest }
with_tasks number entry user (PutFrame name bytes ∷ rest) =
    record user { tasks = tasks_after_room entry user.own name bytes rest }
with_tasks number entry user (SendFrames name ∷ rest) =
    record user { tasks = tasks_after_send entry rest }
with_tasks number entry user (Depart ∷ rest) = record user { session = None; tasks = rest }
with_tasks number entry user (task ∷ rest) = record user { tasks = rest }

-- whether a call settles what is owed, and is not that of a task
abbrev pub is_settling : Ask → Bool
is_settling (Grant origin to) = true
is_settling (Done lease) = true
is_settling _ = false

-- the user after the entry of its call, of this number, with the buffers that came: what the entry
-- makes of what the user has, and how its tasks go on
abbrev pub answered : ℕ → Entry → List Arrival → Machine → Machine
answered number entry came user =
    if is_settling entry.ask then user
    else with_tasks number entry (record user { own = own_after number entry came user.own }) user.tasks
