-- Worked examples of pipes, monitors, counters and resets, of what an opening is refused for, and
-- of asks that are not enabled.
use Rattle.std.specs.Prelude.{ℕ, ◌≡◌, ◌+◌, ◌*◌, ◌∷◌, ◌++◌, List, [], Option, Some, None, map, take, drop, replicate, codes, refl, option_map}
use Rattle.std.specs.List.{range_with_len}
use Rattle.nm_types.specs.Limits.{most_switch_ports}
use Rattle.nm_types.specs.Names.{is_name, is_switch_port_name, is_pipe_name, is_monitor_name, switch_of, peer_name}
use Rattle.nm_types.specs.OwnPorts.{Arrival}
use Rattle.nm_types.specs.declared.fault.OpenFault.{OpenFault}
use Rattle.nm_types.specs.declared.fault.OpenFault.TheVariants.{BadSize, SwitchesFull, PortsFull}
use Rattle.nm_types.specs.declared.fault.SyncFault.TheVariants as faults
use Rattle.nm_types.specs.declared.id.Side.TheVariants.{Tx, Rx}
use Rattle.nm_types.specs.declared.id.Sides.TheVariants.{T, R, TR}
use Rattle.vale_entry.specs.declared.entry.Ask.{Ask}
use Rattle.vale_entry.specs.declared.entry.Ask.TheVariants.{Open, Send, Grant, Sync, Reset, Shut, Finish, Put, PutKept, Get, Watch, Stat}
use Rattle.vale_entry.specs.declared.entry.Entry.{Entry}
use Rattle.vale_entry.specs.declared.entry.Item.{Item}
use Rattle.vale_entry.specs.declared.entry.Reply.{Reply}
use Rattle.vale_entry.specs.declared.entry.Reply.TheVariants.{Made, Opened, Refused, Offered, Shared, Gave, Took, PeerGone, Unread, Watching, NoTarget, Watched, Counted}
use Rattle.vale_entry.specs.World.{Port, empty_world}
use Rattle.nm_types.specs.Openings.{open_refusal as names_refusal}
use Rattle.vale_entry.specs.Opening.{opened_port, names_of, open_refusal}
use Rattle.vale_entry.specs.Closing.{shut}
use Rattle.vale_entry.specs.Arrivals.{arrivals_of}
use Rattle.vale_entry.specs.Legal.{Standing, standing_of, world_of, holdings_of, reply_of, reply_to, recorded_step}
use Rattle.vale_entry.specs.Delivered.{given_frames, read_frames, unread_counts}
use Rattle.vale_entry.specs.Room.{frame_bytes, promised_of}
use Rattle.vale_entry.specs.RowWords.{AreLegal, are_legal, entry, port, session, entered, opening, opened, completes, delivered, left, no_chain, dest, counters, bytes, marked, item, mac, everyone, packet, frame_f}
use Rattle.vale_entry.specs.Rows.{first_run, learned_unicast, short_frame, frame_to_itself, ring_full, offer_to_reopened_port, lease_to_shut_port}

-- what a first Put moves, of the first buffers
abbrev taken_first : List Item
taken_first = item 2 (170 ∷ 187 ∷ []) ∷ item 3 [] ∷ item 4 (1 ∷ []) ∷ []

-- A pipe whose other end comes later: a Put finds nobody, then as many frames are taken as there is
-- room for, and their buffers change hands; the session gets idle ones for them. What is taken is
-- done at once.
abbrev pub pipe_run : List Entry
pipe_run =
    entered 1
    ∷ entered 2
    ∷ opened 1 (codes "pipep{") 4 4
    ∷ entry 1 (PutKept (port 3) 2) PeerGone
    ∷ opened 2 (codes "pipep}") 4 4
    ∷ entry 1 (PutKept (port 3) 4) (Took taken_first [])
    ∷ entry 1 (PutKept (port 3) 1) (Took [] [])
    ∷ entry 2 (Get (port 5) []) (Gave 3 [])
    ∷ entry 2 (Get (port 5) (4 ∷ 10 ∷ [])) (Gave 0 [])
    ∷ entry 1 (PutKept (port 3) 2) (Took (item 15 (7 ∷ []) ∷ item 5 [] ∷ []) [])
    ∷ entry 2 (Shut (port 5)) Made
    ∷ entry 1 (PutKept (port 3) 1) PeerGone
    ∷ entry 2 (Finish (port 5) (2 ∷ 3 ∷ 11 ∷ 12 ∷ 13 ∷ []) no_chain) (Unread 2)
    ∷ entry 1 (Shut (port 3)) Made
    ∷ entry 1 (Finish (port 3) (14 ∷ 16 ∷ 17 ∷ 4 ∷ []) no_chain) (Unread 0)
    ∷ []

-- what asks are answered where a history stands
abbrev replies : ℕ → List Entry → List Ask → List (Option Reply)
replies pool history asks = map (reply_to (standing_of pool history)) asks

pipe_run-frames :
    (given_frames 64 pipe_run 5
    ≡ bytes (170 ∷ 187 ∷ []) ∷ bytes [] ∷ bytes (1 ∷ []) ∷ bytes (7 ∷ []) ∷ bytes [] ∷ [])
    × (read_frames 64 pipe_run 5 ≡ bytes (170 ∷ 187 ∷ []) ∷ bytes [] ∷ bytes (1 ∷ []) ∷ [])
    × (unread_counts pipe_run 5 ≡ 2 ∷ [])
    × ((holdings_of 64 pipe_run).free ≡ range_with_len 2 64)
unfolding is_name is_switch_port_name is_pipe_name is_monitor_name switch_of peer_name
pipe_run-frames = (refl, refl, refl, refl)

-- the buffers that the session gets for those that were taken; those that come back to a ring stand
-- behind its idle ones
abbrev lent : ℕ → ℕ → List Item → List ℕ
lent count offered items =
    map (λ (a : Arrival). a.buffer)
    (arrivals_of (standing_of 64 (take count pipe_run)) (PutKept (port 3) offered) (Took items []))

pipe_run-lent :
    (lent 5 4 taken_first ≡ 14 ∷ 15 ∷ 16 ∷ [])
    × (lent 9 2 (item 15 (7 ∷ []) ∷ item 5 [] ∷ []) ≡ 17 ∷ 4 ∷ [])
unfolding is_name is_switch_port_name is_pipe_name is_monitor_name switch_of peer_name
pipe_run-lent = (refl, refl)

-- what a Put asks for is what the other end has room for, the first of what is offered; nobody puts a
-- buffer that is not its own, or a marked frame
pipe_run-put :
    replies 64 (take 5 pipe_run)
    (Put (port 3) (taken_first ++ item 5 [] ∷ [])
    ∷ Put (port 3) (item 10 [] ∷ [])
    ∷ Put (port 3) (record { index = 2; bytes = marked (bytes []) } ∷ [])
    ∷ [])
    ≡ Some (Took taken_first []) ∷ None ∷ None ∷ []
unfolding is_name is_switch_port_name is_pipe_name is_monitor_name switch_of peer_name
pipe_run-put = refl

-- what is recorded of a Put is all that the other end had room for
pipe_run-took_fewer :
    option_map reply_of
    (recorded_step (standing_of 64 (take 5 pipe_run)) (PutKept (port 3) 4)
    (Took (item 2 [] ∷ []) []))
    ≡ None
unfolding is_name is_switch_port_name is_pipe_name is_monitor_name switch_of peer_name
pipe_run-took_fewer = refl

-- a pipe end is read by Get, also though nobody stands at the other end, and not by Sync
pipe_run-get :
    (replies 64 (take 3 pipe_run) (Get (port 3) [] ∷ []) ≡ Some (Gave 0 []) ∷ [])
    × (replies 64 (take 6 pipe_run) (Sync (port 5) [] ∷ []) ≡ None ∷ [])
unfolding is_name is_switch_port_name is_pipe_name is_monitor_name switch_of peer_name
pipe_run-get = (refl, refl)

-- nobody puts into a switch, and a port of it is read by Sync alone
first_run-put_and_get :
    (replies 64 (take 4 first_run) (Put (port 3) (item 2 [] ∷ []) ∷ []) ≡ None ∷ [])
    × (replies 64 (take 7 first_run) (Get (port 4) [] ∷ []) ≡ None ∷ [])
unfolding is_name is_switch_port_name is_pipe_name is_monitor_name switch_of peer_name
first_run-put_and_get = (refl, refl)

-- the bytes that a record keeps of a Put are those that were taken, and of a Send all; what is
-- promised is a Leave for each session, a Shut and a Finish for each port, a Grant and a Done for
-- each offer, and a Done for each lease
bytes_of_runs : (frame_bytes (take 10 pipe_run) ≡ 4) × (frame_bytes first_run ≡ 60)
bytes_of_runs = (refl, refl)

abbrev promised_after : ℕ → List Entry → ℕ → ℕ
promised_after pool history count = promised_of (world_of pool (take count history))

promised_in_runs :
    map (promised_after 64 pipe_run) (5 ∷ 11 ∷ []) ++ map (promised_after 8192 first_run) (5 ∷ 6 ∷ [])
    ≡ 6 ∷ 5 ∷ 8 ∷ 7 ∷ []
unfolding is_name is_switch_port_name is_pipe_name is_monitor_name switch_of peer_name
promised_in_runs = refl

-- A monitor gets a copy of each frame that is sent at the port and, where it watches that side, of
-- each that is read there; the copies have entries of their own. A port has one monitor at most,
-- and a watch ends with either port.
abbrev pub monitor_run : List Entry
monitor_run =
    entered 1
    ∷ entered 2
    ∷ opened 1 (codes "vale0:a") 4 4
    ∷ opened 1 (codes "vale0:b") 4 4
    ∷ opened 2 (codes "monm") 0 8
    ∷ opened 2 (codes "monn") 0 8
    ∷ entry 2 (Watch (port 5) (codes "vale0:c") TR) NoTarget
    ∷ entry 2 (Watch (port 5) (codes "vale0:a") TR) (Watching (port 3))
    ∷ entry 2 (Watch (port 6) (codes "vale0:a") T) (Watched (port 5))
    ∷ entry 1 (Send (port 3) (frame_f ∷ [])) (Offered 0 0 (dest 4 1 ∷ dest 5 1 ∷ []))
    ∷ delivered 1 10 4 11
    ++ delivered 1 10 5 13
    ++ entry 1 (Sync (port 4) []) (Gave 1 [])
    ∷ entry 1 (Send (port 4) (packet everyone (mac 11) ∷ [])) (Offered 0 0 (dest 3 1 ∷ []))
    ∷ delivered 1 16 3 17
    ++ entry 1 (Sync (port 3) []) (Gave 1 (dest 5 1 ∷ []))
    ∷ delivered 1 19 5 20
    ++ entry 2 (Sync (port 5) []) (Gave 2 [])
    ∷ entry 2 (Shut (port 5)) Made
    ∷ entry 2 (Watch (port 6) (codes "vale0:a") R) (Watching (port 3))
    ∷ entry 1 (Send (port 3) (frame_f ∷ [])) (Offered 0 0 (dest 4 1 ∷ []))
    ∷ delivered 1 25 4 26
    ++ entry 1 (Shut (port 3)) Made
    ∷ []

monitor_run-seen :
    ((world_of 64 monitor_run).watches ≡ [])
    × (read_frames 64 monitor_run 5 ≡ frame_f ∷ packet everyone (mac 11) ∷ [])
unfolding is_name is_switch_port_name is_pipe_name is_monitor_name switch_of peer_name
monitor_run-seen = (refl, refl)

-- a short frame and a lone one are copied too; what is sent nowhere is still seen
monitor_run-short :
    replies 64 (take 9 monitor_run) (Send (port 3) (bytes [] ∷ []) ∷ [])
    ≡ Some (Offered 1 0 (dest 5 1 ∷ [])) ∷ []
unfolding is_name is_switch_port_name is_pipe_name is_monitor_name switch_of peer_name
monitor_run-short = refl

-- a monitor is not watched, watches under names alone, and sends nothing; a port does not watch
monitor_run-refused :
    replies 64 (take 6 monitor_run)
    (Watch (port 5) (codes "monn") TR
    ∷ Watch (port 5) (codes "nobody") TR
    ∷ Watch (port 3) (codes "vale0:b") TR
    ∷ Send (port 5) (frame_f ∷ [])
    ∷ [])
    ≡ None ∷ None ∷ None ∷ None ∷ []
unfolding is_name is_switch_port_name is_pipe_name is_monitor_name switch_of peer_name
monitor_run-refused = refl

-- two ports of a session, the second of this name, and a monitor with so many slots
abbrev with_monitor : List ℕ → ℕ → List Entry
with_monitor second slots =
    entered 1
    ∷ opened 1 (codes "vale0:a") 4 4
    ∷ opened 1 second 4 4
    ∷ opened 1 (codes "monm") 0 slots
    ∷ []

-- A monitor of what one port sends sees nothing of what that port reads, and nothing of another
-- port's; a ring that is full at the monitor drops the copies alone. A monitor may watch several
-- ports.
abbrev pub sent_alone : List Entry
sent_alone =
    with_monitor (codes "vale0:b") 2
    ++ entry 1 (Watch (port 4) (codes "vale0:a") T) (Watching (port 2))
    ∷ entry 1 (Send (port 3) (packet everyone (mac 11) ∷ [])) (Offered 0 0 (dest 2 1 ∷ []))
    ∷ delivered 1 6 2 7
    ++ entry 1 (Sync (port 2) []) (Gave 1 [])
    ∷ entry 1 (Send (port 2) (frame_f ∷ frame_f ∷ [])) (Offered 0 0 (dest 3 2 ∷ dest 4 2 ∷ []))
    ∷ entry 1 (Grant 10 (port 3)) (Shared 2 0 0)
    ∷ entry 1 (completes 11) Made
    ∷ entry 1 (Grant 10 (port 4)) (Shared 1 1 0)
    ∷ entry 1 (completes 13) Made
    ∷ entry 1 (Watch (port 4) (codes "vale0:b") R) (Watching (port 3))
    ∷ entry 1 (Sync (port 4) []) (Gave 1 [])
    ∷ entry 1 (Sync (port 3) []) (Gave 2 (dest 4 2 ∷ []))
    ∷ []

-- the monitor of two ports reads the copies of both with one sync, in the order of their grants
abbrev pub two_watched : List Entry
two_watched =
    with_monitor (codes "vale1:b") 8
    ++ entry 1 (Watch (port 4) (codes "vale0:a") TR) (Watching (port 2))
    ∷ entry 1 (Watch (port 4) (codes "vale1:b") TR) (Watching (port 3))
    ∷ entry 1 (Send (port 3) (packet everyone (mac 11) ∷ [])) (Offered 0 1 (dest 4 1 ∷ []))
    ∷ delivered 1 7 4 8
    ++ entry 1 (Send (port 2) (frame_f ∷ [])) (Offered 0 1 (dest 4 1 ∷ []))
    ∷ delivered 1 10 4 11
    ++ entry 1 (Sync (port 4) []) (Gave 2 [])
    ∷ []

two_watched-read : read_frames 64 two_watched 4 ≡ packet everyone (mac 11) ∷ frame_f ∷ []
unfolding is_name is_switch_port_name is_pipe_name is_monitor_name switch_of peer_name
two_watched-read = refl

-- A pipe end is watched as a port of a switch is: what is put, and what is got.
abbrev pub pipe_watched : List Entry
pipe_watched =
    entered 1
    ∷ opened 1 (codes "pipep{") 2 2
    ∷ opened 1 (codes "pipep}") 2 4
    ∷ opened 1 (codes "monm") 0 8
    ∷ opened 1 (codes "monn") 0 8
    ∷ entry 1 (Watch (port 4) (codes "pipep{") T) (Watching (port 2))
    ∷ entry 1 (Watch (port 5) (codes "pipep}") R) (Watching (port 3))
    ∷ entry 1 (PutKept (port 2) 2) (Took (item 2 (1 ∷ []) ∷ item 3 (2 ∷ []) ∷ []) (dest 4 2 ∷ []))
    ∷ entry 1 (Grant 8 (port 4)) (Shared 2 0 0)
    ∷ entry 1 (completes 9) Made
    ∷ entry 1 (Get (port 3) []) (Gave 2 (dest 5 2 ∷ []))
    ∷ []

-- What ports have counted: what is gone is counted nowhere, and what was taken at both ends of a
-- pipe.
abbrev counted : List Entry → ℕ → Option Reply
counted history id = reply_to (standing_of 64 history) (Stat (port id))

abbrev counts : ℕ → ℕ → ℕ → ℕ → ℕ → ℕ → Option Reply
counts sent short lone given full read = Some (Counted (counters sent short lone given full read))

counted_in_runs :
    counted short_frame 3
    ∷ counted frame_to_itself 3
    ∷ counted ring_full 4
    ∷ counted offer_to_reopened_port 10
    ∷ counted (take 10 pipe_run) 5
    ∷ counted (take 10 pipe_run) 3
    ∷ []
    ≡ counts 2 1 0 0 0 0
    ∷ counts 2 0 1 0 0 0
    ∷ counts 0 0 0 1 2 1
    ∷ counts 0 0 0 0 0 0
    ∷ counts 0 0 0 5 0 3
    ∷ counts 5 0 0 0 0 0
    ∷ []
unfolding is_name is_switch_port_name is_pipe_name is_monitor_name switch_of peer_name
counted_in_runs = refl

-- The ring of a port is reset after a refused sync, which changes nothing. A monitor has no
-- transmit ring to reset, and what is no refusal of a sync's checks resets nothing.
abbrev pub reset_run : List Entry
reset_run =
    entered 1
    ∷ opened 1 (codes "vale0:a") 4 4
    ∷ entry 1 (Reset (port 2) Tx (faults.HeadOut 9 0 4)) Made
    ∷ entry 1 (Reset (port 2) Rx (faults.Fragment 3)) Made
    ∷ opened 1 (codes "monm") 0 8
    ∷ entry 1 (Reset (port 5) Rx (faults.Indirect 1)) Made
    ∷ []

reset_run-refused :
    replies 64 reset_run (Reset (port 5) Tx (faults.Indirect 1) ∷ Reset (port 2) Tx faults.NoMemory ∷ [])
    ≡ None ∷ None ∷ []
unfolding is_name is_switch_port_name is_pipe_name is_monitor_name switch_of peer_name
reset_run-refused = refl

-- Each entry of these histories is the one that its ask makes.
abbrev runs : List (List Entry)
runs =
    pipe_run
    ∷ monitor_run
    ∷ sent_alone
    ∷ two_watched
    ∷ pipe_watched
    ∷ reset_run
    ∷ []

runs-legal : AreLegal 64 runs
unfolding is_name is_switch_port_name is_pipe_name is_monitor_name switch_of peer_name
runs-legal = are_legal 64 runs refl

-- The sizes of rings, from 2 to 4096, and of a monitor's transmit ring, which has none; a name that is
-- none makes no entry.
abbrev pub one_session : Standing
one_session = standing_of 8192 (take 1 first_run)

abbrev opens : List ℕ → ℕ → ℕ → ℕ → Ask
opens name tx rx extra = Open (session 1) name tx rx extra

sizes :
    map (reply_to one_session)
    (opens (codes "vale0:a") 4096 2048 1024
    ∷ opens (codes "vale0:a") 2048 4096 1024
    ∷ opens (codes "vale0:a") 4097 2 0
    ∷ opens (codes "vale0:a") 2 4097 0
    ∷ opens (codes "vale0:a") 2 2 1025
    ∷ opens (codes "monm") 2 2 0
    ∷ opens (codes "vale0:a") 0 2 0
    ∷ opens (codes "pipep{") 0 2 0
    ∷ opens (codes "vale") 2 2 0
    ∷ [])
    ≡ Some Opened ∷ Some Opened ∷ replicate 6 (Some (Refused BadSize)) ++ None ∷ []
unfolding is_name is_switch_port_name is_pipe_name is_monitor_name switch_of peer_name
sizes = refl

-- A switch has 254 ports, and there are 32 pipe ends and 32 monitors; ports that are shut count.
abbrev named : ℕ → List ℕ → Port
named id name = opened_port id 1 name 2 2 0

abbrev all_named : ℕ → List ℕ → List ℕ → List Port
all_named id before [] = []
all_named id before (b ∷ bs) = named id (before ++ b ∷ []) ∷ all_named (id + 1) before bs

abbrev letters : List ℕ
letters = range_with_len 65 16

-- why an opening is refused for its sizes or its name, where these ports are there
abbrev name_refusal : List Port → List ℕ → ℕ → ℕ → ℕ → Option OpenFault
name_refusal ports name tx rx extra = names_refusal (names_of ports) name tx rx extra

-- the ports of a switch that has all that it may, each name of two letters
abbrev two_lettered : List ℕ → List ℕ → List Port
two_lettered before [] = []
two_lettered before (b ∷ bs) = all_named (2 + 16 * b) (before ++ b ∷ []) letters ++ two_lettered before bs

abbrev all_ports : List Port
all_ports = take most_switch_ports (two_lettered (codes "vale0:") letters)

ports_of_switch :
    name_refusal (drop 1 all_ports) (codes "vale0:zz") 2 2 0
    ∷ name_refusal all_ports (codes "vale1:zz") 2 2 0
    ∷ name_refusal all_ports (codes "vale0:zz") 2 2 0
    ∷ name_refusal (map shut all_ports) (codes "vale0:zz") 2 2 0
    ∷ name_refusal all_ports (codes "vale0:AA") 2 2 0
    ∷ open_refusal (record (empty_world 64) { ports = all_ports }) (codes "vale0:zz") 2 2 0
    ∷ name_refusal all_ports (codes "vale0:AA") 1 2 0
    ∷ []
    ≡ None ∷ None ∷ replicate 4 (Some PortsFull) ++ Some BadSize ∷ []
unfolding is_name is_switch_port_name is_pipe_name is_monitor_name switch_of peer_name
ports_of_switch = refl

-- the sizes are told first, then that there are four switches
abbrev four_switches : List Port
four_switches =
    named 2 (codes "vale0:a") ∷ named 3 (codes "vale1:a") ∷ named 4 (codes "vale2:a")
    ∷ named 5 (codes "vale3:a") ∷ []

switches :
    name_refusal (named 2 (codes "vale0:a") ∷ []) (codes "vale0:a") 1 2 0
    ∷ name_refusal four_switches (codes "vale4:a") 2 1 0
    ∷ name_refusal four_switches (codes "vale4:a") 2 2 0
    ∷ name_refusal (map shut four_switches) (codes "vale4:a") 2 2 0
    ∷ []
    ≡ Some BadSize ∷ Some BadSize ∷ Some SwitchesFull ∷ Some SwitchesFull ∷ []
unfolding is_name is_switch_port_name is_pipe_name is_monitor_name switch_of peer_name
switches = refl

-- the refusal of a monitor where so many more than 16 are there
abbrev monitor_refusal : ℕ → Option OpenFault
monitor_refusal more =
    name_refusal (all_named 2 (codes "mon") letters ++ all_named 20 (codes "monx") (take more letters))
    (codes "monzz") 0 2 0

monitors : map monitor_refusal (15 ∷ 16 ∷ []) ≡ None ∷ Some PortsFull ∷ []
unfolding is_name is_switch_port_name is_pipe_name is_monitor_name switch_of peer_name
monitors = refl

abbrev ends : List ℕ → List Port
ends [] = []
ends (b ∷ bs) =
    named b (codes "pipe" ++ b ∷ codes "{") ∷ named b (codes "pipe" ++ b ∷ codes "}") ∷ ends bs

abbrev end_refusal : List Port → Option OpenFault
end_refusal ports = name_refusal ports (codes "pipezz{") 2 2 0

pipe_ends :
    map end_refusal
    (ends (take 15 letters)
    ∷ (named 90 (codes "pipez{") ∷ ends (take 15 letters))
    ∷ ends letters
    ∷ [])
    ≡ None ∷ None ∷ Some PortsFull ∷ []
unfolding is_name is_switch_port_name is_pipe_name is_monitor_name switch_of peer_name
pipe_ends = refl

-- A session with an offer that is not granted, or a lease of its own that is not done, may not
-- send, sync, put or shut, though it may reset, open and watch; whoever only stands at the other
-- end may. Offers are granted in order, and who has a port does not leave.
unsettled :
    replies 64 (take 7 learned_unicast)
    (Send (port 4) (frame_f ∷ []) ∷ Sync (port 4) [] ∷ Shut (port 4) ∷ Grant 7 (port 6) ∷ left 3 ∷ [])
    ≡ replicate 5 None
unfolding is_name is_switch_port_name is_pipe_name is_monitor_name switch_of peer_name
unsettled = refl

unsettled-lease :
    replies 64 (take 8 learned_unicast) (Shut (port 4) ∷ Shut (port 5) ∷ Sync (port 5) [] ∷ [])
    ≡ None ∷ Some Made ∷ Some (Gave 0 []) ∷ []
unfolding is_name is_switch_port_name is_pipe_name is_monitor_name switch_of peer_name
unsettled-lease = refl

unsettled-pipe : replies 64 (take 9 pipe_watched) (Get (port 2) [] ∷ Put (port 2) [] ∷ []) ≡ None ∷ None ∷ []
unfolding is_name is_switch_port_name is_pipe_name is_monitor_name switch_of peer_name
unsettled-pipe = refl

unsettled-others :
    replies 64 (take 10 sent_alone)
    (Reset (port 2) Tx (faults.HeadOut 9 0 4)
    ∷ opening 1 (codes "vale0:c") 2 2
    ∷ Watch (port 4) (codes "vale0:b") R
    ∷ [])
    ≡ Some Made ∷ Some Opened ∷ Some (Watching (port 3)) ∷ []
unfolding is_name is_switch_port_name is_pipe_name is_monitor_name switch_of peer_name
unsettled-others = refl

unsettled-stat : counted (take 6 sent_alone) 3 ≡ counts 1 0 0 0 0 0
unfolding is_name is_switch_port_name is_pipe_name is_monitor_name switch_of peer_name
unsettled-stat = refl

leased :
    (replies 8192 (take 6 first_run) (Send (port 3) (frame_f ∷ []) ∷ Sync (port 3) [] ∷ Shut (port 3) ∷ [])
    ≡ None ∷ None ∷ None ∷ [])
    × (replies 8192 (take 7 first_run) (Send (port 3) [] ∷ []) ≡ Some (Offered 0 0 []) ∷ [])
unfolding is_name is_switch_port_name is_pipe_name is_monitor_name switch_of peer_name
leased = (refl, refl)

-- A port that is shutting is neither reset nor asked for its counters, nor sends.
shutting :
    replies 64 lease_to_shut_port
    (Reset (port 6) Rx (faults.Indirect 1) ∷ Stat (port 6) ∷ Send (port 6) [] ∷ [])
    ≡ None ∷ None ∷ None ∷ []
unfolding is_name is_switch_port_name is_pipe_name is_monitor_name switch_of peer_name
shutting = refl
