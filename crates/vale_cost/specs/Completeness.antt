-- That a script of few frames never fills the record: what each entry costs is paid by the frames
-- that its user puts, and by the calls that its lines make.
use Rattle.std.specs.Prelude.{ℕ, zero, suc, ◌≡◌, ◌+◌, ◌-◌, ◌*◌, ◌≤◌, ◌⊎◌, take, Bool, if◌then◌else◌, List, ◌++◌, length, filter, slice_get, sum_by, count_by, Some}
use Rattle.std.specs.Option.{option_map_or}
use Rattle.std.specs.List.{AllByRecursion}
use Rattle.nm_types.specs.Limits.{most_switch_ports, buffer_bytes}
use Rattle.nm_types.specs.Frames.{Frame}
use Rattle.nm_types.specs.Names.{is_pipe_name}
use Rattle.nm_types.specs.Openings.{is_on_switch as is_name_on}
use Rattle.nm_types.specs.Parts.{slots_of_bytes}
use Rattle.nm_types.specs.Positions.{RingState, pending_slots, pushed_slots}
use Rattle.nm_types.specs.OwnPorts.{OwnRing, OwnPort, OwnState}
use Rattle.nm_types.specs.declared.id.PortId.{PortId}
use Rattle.vale_entry.specs.declared.entry.Ask.{Ask}
use Rattle.vale_entry.specs.declared.entry.Reply.{Reply}
use Rattle.vale_entry.specs.declared.entry.Reply.TheVariants as replies
use Rattle.vale_entry.specs.Room.{bytes_of, room_used}
use Rattle.vale_own.specs.Recorded.{Recorded, standing, HasRoom, IsRefusal}
use Rattle.nm_types.specs.declared.fault.Part.{Part}
use Rattle.nm_types.specs.declared.fault.StepFault.TheVariants.{RecordFull}
use Rattle.vale_entry.specs.declared.entry.Ask.TheVariants.{Open, Send, Grant, Done, Shut, Finish, Leave}
use Rattle.vale_entry.specs.declared.entry.Entry.{Entry}
use Rattle.vale_entry.specs.World.{Port}
use Rattle.vale_entry.specs.Opening.{is_on_switch}
use Rattle.vale_entry.specs.Legal.{Outcome, IsLegal, step, standing_of, world_of, kept_ask}
use Rattle.vale_script.specs.declared.script.Act.{Act}
use Rattle.vale_script.specs.declared.script.Act.TheVariants as acts
use Rattle.vale_replay.specs.Tasks.{Captures, Task, tasks_of_line, fits_to_play, Arrive, OpenPort, PutFrame, SendFrames, TakeFrames, WatchPort, ReadCounts, ChangeOwn}
use Rattle.vale_own.specs.Side.{IsSound}
use Rattle.vale_replay.specs.Machine.{Machine, new_machine}
use Rattle.vale_entry.specs.Laws.{Rise}
use Rattle.nm_types.specs.declared.limits.Limits.{Limits}
use Rattle.vale_script.specs.Script.{Program}
use Rattle.vale_replay.specs.Replay.{TakesTurn, TakesTurns, UnitShare, ScriptUnit, ComesTo, units_of}

-- What an entry costs: a Send that has frames, the bytes of the frames that it keeps, a call, and a
-- port that it opens on a switch.

pub data Cost : Type 0 where
  Sends : Cost
  Bytes : Cost
  Calls : Cost
  Opens : (switch : List ℕ) → Cost

abbrev pub one_if : Bool → ℕ
one_if test = if test then 1 else 0

-- one where there are any
abbrev pub one_if_some : ℕ → ℕ
one_if_some zero = 0
one_if_some (suc count) = 1

abbrev pub sends_of_ask : Ask → ℕ
sends_of_ask (Send port frames) = one_if_some (length frames)
sends_of_ask _ = 0

-- entries that were promised are no calls
abbrev pub calls_of_ask : Ask → ℕ
calls_of_ask (Grant origin to) = 0
calls_of_ask (Done lease) = 0
calls_of_ask (Shut port) = 0
calls_of_ask (Finish port bufs chain) = 0
calls_of_ask (Leave session) = 0
calls_of_ask _ = 3

abbrev pub opened_by : List ℕ → Ask → Reply → ℕ
opened_by switch (Open session name tx rx extra) replies.Opened = one_if (is_name_on switch name)
opened_by switch _ reply = 0

abbrev pub cost : Cost → Ask → Reply → ℕ
cost Sends ask reply = sends_of_ask ask
cost Bytes ask reply = bytes_of ask reply
cost Calls ask reply = calls_of_ask ask
cost (Opens switch) ask reply = opened_by switch ask reply

-- A frame is offered at the ports of a switch and at a monitor's, so an entry wants little where each
-- switch has few ports.

abbrev pub HaveFewPorts : ℕ → List Port → Type 0
HaveFewPorts most ports = (switch : List ℕ) → count_by (is_on_switch switch) ports ≤ most

abbrev pub SwitchesHaveFewPorts : Type 0
SwitchesHaveFewPorts =
    (pool : ℕ) (history : List Entry) → HaveFewPorts most_switch_ports (world_of pool history).ports

abbrev pub SendsWantLittle : Type 0
SendsWantLittle =
    (most pool : ℕ) (history : List Entry) (port : PortId) (frames : List Frame) (made : Outcome)
    → HaveFewPorts most (world_of pool history).ports
    → step (standing_of pool history) (Send port frames) ≡ Some made
    → made.want ≤ 2 * most * one_if_some (length frames) + 3

-- each Send of frames wants two entries for each port of a switch, and each call three entries more;
-- what was promised wants nothing
abbrev pub EntriesWantLittle : Type 0
EntriesWantLittle =
    (most pool : ℕ) (history : List Entry) (ask : Ask) (made : Outcome)
    → IsLegal pool history → HaveFewPorts most (world_of pool history).ports
    → step (standing_of pool history) ask ≡ Some made
    → made.want ≤ 2 * most * sends_of_ask (kept_ask ask) + calls_of_ask (kept_ask ask)

-- What a user is still to spend: what its tasks are to cost, and what waits in its rings.

abbrev pub sends_of_task : Task → ℕ
sends_of_task (PutFrame name bytes) = 1
sends_of_task _ = 0

abbrev pub slots_of_task : Task → ℕ
slots_of_task (PutFrame name bytes) = slots_of_bytes bytes
slots_of_task _ = 0

abbrev pub calls_of_task : Task → ℕ
calls_of_task Arrive = 3
calls_of_task (OpenPort name tx rx extra) = 3
calls_of_task (PutFrame name bytes) = 3
calls_of_task (SendFrames name) = 3
calls_of_task (TakeFrames name) = 3
calls_of_task (WatchPort monitor target sides) = 3
calls_of_task (ReadCounts name) = 3
calls_of_task _ = 0

abbrev pub opens_of_task : List ℕ → Task → ℕ
opens_of_task switch (OpenPort name tx rx extra) = one_if (is_name_on switch name)
opens_of_task switch _ = 0

abbrev pub cost_of_task : Cost → Task → ℕ
cost_of_task Sends task = sends_of_task task
cost_of_task Bytes task = buffer_bytes * slots_of_task task
cost_of_task Calls task = calls_of_task task
cost_of_task (Opens switch) task = opens_of_task switch task

-- the slots that were put, and that no sync has taken: those pushed, and on a pipe those too that
-- stayed pushed
abbrev pub slots_waiting : Bool → RingState → ℕ
slots_waiting pipe ring =
    if pipe then length (pending_slots ring ++ pushed_slots ring ring.head)
    else length (pushed_slots ring ring.head)

-- one sync takes all that is pushed to a switch
abbrev pub sends_waiting : Bool → RingState → ℕ
sends_waiting pipe ring = if pipe then 0 else one_if_some (length (pushed_slots ring ring.head))

abbrev pub cost_of_ring : Cost → Bool → RingState → ℕ
cost_of_ring Sends pipe ring = sends_waiting pipe ring
cost_of_ring Bytes pipe ring = buffer_bytes * slots_waiting pipe ring
cost_of_ring Calls pipe ring = 0
cost_of_ring (Opens switch) pipe ring = 0

abbrev pub waiting_in : Cost → OwnPort → OwnRing → ℕ
waiting_in c p r = cost_of_ring c (is_pipe_name p.name) r.ring

abbrev pub waiting_at : Cost → OwnPort → ℕ
waiting_at c p = option_map_or (waiting_in c p) p.tx 0

abbrev pub waiting : Cost → OwnState → ℕ
waiting c s = sum_by (waiting_at c) s.ports

abbrev pub left : Cost → Machine → ℕ
left c user = sum_by (cost_of_task c) user.tasks + waiting c user.own

-- a line that writes no positions: it neither moves a head nor forwards
abbrev pub IsPlainAct : Act → Type 0
IsPlainAct (acts.Fwd from to count) = ⊥
IsPlainAct (acts.Move name side head cur) = ⊥
IsPlainAct _ = Unit {0}

abbrev pub IsPlainTask : Task → Type 0
IsPlainTask (ChangeOwn act) = IsPlainAct act
IsPlainTask _ = Unit {0}

-- a turn of a user spends what its entry costs
pub record Spends (before after : Machine) (ask : Ask) (reply : Reply) : Type 0 where
  pub spends : (c : Cost) → left c after + cost c ask reply ≤ left c before
  pub plain : AllByRecursion IsPlainTask after.tasks

-- where the history before it is legal and the sides are sound
abbrev pub TurnsSpend : Type 0
TurnsSpend =
    (pool : ℕ) (history : List Entry) (before : Machine) (number : ℕ) (after : Machine)
    → IsLegal pool (take (number - 1) history) → IsSound before.own → IsSound after.own
    → AllByRecursion IsPlainTask before.tasks
    → (turn : TakesTurn pool history before number after)
    → Spends before after turn.entry.ask turn.entry.reply

-- What a history costs.

abbrev pub cost_by : Cost → Entry → ℕ
cost_by c entry = cost c entry.ask entry.reply

abbrev pub cost_of : Cost → List Entry → ℕ
cost_of c history = sum_by (cost_by c) history

-- before each entry, each switch had at most so many ports
abbrev pub HadFewPorts : ℕ → ℕ → List Entry → Type 0
HadFewPorts most pool history = (number : ℕ) → HaveFewPorts most (world_of pool (take number history)).ports

-- the ports of a switch were opened there
abbrev pub PortsWereOpened : Type 0
PortsWereOpened =
    (pool : ℕ) (history : List Entry) (switch : List ℕ) → IsLegal pool history
    → count_by (is_on_switch switch) (world_of pool history).ports ≤ cost_of (Opens switch) history

-- entries stored and promised
abbrev pub HistoriesAreCheap : Type 0
HistoriesAreCheap =
    (most pool : ℕ) (history : List Entry) → IsLegal pool history → HadFewPorts most pool history
    → room_used pool history ≤ 2 * most * cost_of Sends history + cost_of Calls history

-- what the entries cost, and what the entry of a call costs, fits the limits
pub record CostFits (most : ℕ) (b : Recorded) (call : Ask) (made : Outcome) : Type 0 where
  pub few : HadFewPorts most b.pool b.entries
  pub entries :
      2 * most * (cost_of Sends b.entries + cost Sends (kept_ask call) made.reply)
      + (cost_of Calls b.entries + cost Calls (kept_ask call) made.reply)
      ≤ b.limits.entries
  pub bytes : cost_of Bytes b.entries + cost Bytes (kept_ask call) made.reply ≤ b.limits.bytes

-- then the record has room for the call, so that none refuses it for room
abbrev pub CostThatFitsHasRoom : Type 0
CostThatFitsHasRoom =
    (most : ℕ) (b : Recorded) (call : Ask) (made : Outcome)
    → IsLegal b.pool b.entries → step (standing b) call ≡ Some made → CostFits most b call made
    → HasRoom b call

abbrev pub RoomIsNotRefused : Type 0
RoomIsNotRefused =
    (b : Recorded) (call : Ask) (what : Part) (used want : ℕ)
    → HasRoom b call → IsRefusal b call (RecordFull what used want) → ⊥

-- What the entry of a number costs.
abbrev pub cost_at : Cost → List Entry → ℕ → ℕ
cost_at c history number = option_map_or (cost_by c) (slice_get history (number - 1)) 0

-- a user that has these entries spends what they cost
pub record SpendsAll (history : List Entry) (before after : Machine) (numbers : List ℕ) : Type 0 where
  pub spends : (c : Cost) → left c after + sum_by (cost_at c history) numbers ≤ left c before
  pub plain : AllByRecursion IsPlainTask after.tasks

-- its ports were opened by entries up to this number
abbrev pub IsOpenedBy : ℕ → OwnPort → Type 0
IsOpenedBy number port = port.id.0 ≤ number

abbrev pub UsersSpend : Type 0
UsersSpend =
    (pool : ℕ) (history : List Entry) (low high : ℕ) (before : Machine) (numbers : List ℕ) (after : Machine)
    → IsLegal pool history → Rise low numbers high
    → IsSound before.own → AllByRecursion (IsOpenedBy low) before.own.ports
    → AllByRecursion IsPlainTask before.tasks
    → TakesTurns pool history before numbers after
    → SpendsAll history before after numbers

-- What the units of a script have their users do.

abbrev pub cost_of_share : Cost → UnitShare → ℕ
cost_of_share c share = sum_by (cost_of_task c) (share.tasks (new_machine 0 0))

-- whatever its user has, the share has it do no more, and write no positions
pub record IsCosted (share : UnitShare) : Type 0 where
  pub costs : (c : Cost) (m : Machine) → sum_by (cost_of_task c) (share.tasks m) ≤ cost_of_share c share
  pub plain : (m : Machine) → AllByRecursion IsPlainTask (share.tasks m)

abbrev pub cost_of_unit : Cost → ScriptUnit → ℕ
cost_of_unit c unit = sum_by (cost_of_share c) unit

abbrev pub cost_of_units : Cost → List ScriptUnit → ℕ
cost_of_units c units = sum_by (cost_of_unit c) units

-- the tasks of a script are few for the limits, with at most so many ports on each switch: as many as
-- there may be, or as are opened there
pub record TasksFit (program : Program) (captures : Captures) (limits : Limits) : Type 0 where
  pub most : ℕ
  pub few : (most_switch_ports ≤ most) ⊎ ((switch : List ℕ) → cost_of_units (Opens switch) (units_of program captures) ≤ most)
  pub costed : AllByRecursion (AllByRecursion IsCosted) (units_of program captures)
  pub entries :
      2 * most * cost_of_units Sends (units_of program captures) + cost_of_units Calls (units_of program captures)
      ≤ limits.entries
  pub bytes : cost_of_units Bytes (units_of program captures) ≤ limits.bytes

-- then the record has room for each call to which the script comes
abbrev pub FewTasksFit : Type 0
FewTasksFit =
    (program : Program) (captures : Captures) (region : ℕ) (limits : Limits) (history : List Entry) (user : ℕ) (call : Ask)
    → TasksFit program captures limits → ComesTo program captures history user call
    → HasRoom (record { pool = program.pool; region = region; limits = limits; entries = history }) call

-- The frames that a line puts at most: those of a count, one, or the records of a file.
abbrev pub frames_put : (List ℕ → List (List ℕ)) → Act → ℕ
frames_put records (acts.Put name count to from len fill) = count
frames_put records (acts.Hex name frame) = 1
frames_put records (acts.Play name file batch) = length (records file)
frames_put records _ = 0

-- and their bytes; a record that is too long to be put has none
abbrev pub bytes_put : (List ℕ → List (List ℕ)) → Act → ℕ
bytes_put records (acts.Put name count to from len fill) = count * len
bytes_put records (acts.Hex name frame) = length frame.bytes
bytes_put records (acts.Play name file batch) = sum_by length (filter (fits_to_play name) (records file))
bytes_put records _ = 0

-- the ports that a line opens on a switch
abbrev pub opens_by : List ℕ → Act → ℕ
opens_by switch (acts.Open name tx rx extra) = one_if (is_name_on switch name)
opens_by switch _ = 0

-- what one line has its user do
pub record LineCosts (records : List ℕ → List (List ℕ)) (act : Act) : Type 0 where
  pub sends : sum_by (cost_of_task Sends) (tasks_of_line records act) ≤ frames_put records act
  pub bytes : sum_by (cost_of_task Bytes) (tasks_of_line records act) ≤ bytes_put records act + buffer_bytes * frames_put records act
  pub calls : sum_by (cost_of_task Calls) (tasks_of_line records act) ≤ 6 * frames_put records act + 3
  pub opens : (switch : List ℕ) → sum_by (cost_of_task (Opens switch)) (tasks_of_line records act) ≤ opens_by switch act
  pub plain : IsPlainAct act → AllByRecursion IsPlainTask (tasks_of_line records act)

abbrev pub LinesCostLittle : Type 0
LinesCostLittle = (records : List ℕ → List (List ℕ)) (act : Act) → LineCosts records act
