-- Worked examples, as theorems that hold by computation.
use Rattle.std.specs.Prelude.{ℕ, false, ◌≡◌, List, [], ◌∷◌, Some, None, codes, refl}
use Rattle.nm_types.specs.Frames.{Frame}
use Rattle.nm_types.specs.Names.{is_name, is_switch_port_name, is_pipe_name, is_monitor_name, switch_of, peer_name}
use Rattle.nm_types.specs.declared.id.Sides.TheVariants.{T}
use Rattle.nm_region.specs.Buffers.{Buffer, indices_of}
use Rattle.nm_count.specs.declared.tally.Tallied.{Tallied}
use Rattle.vale_learn.specs.AddressTable.{Entries, no_stations}
use Rattle.vale_learn.specs.AddressTable.{port_of_address as table_port}
use Rattle.vale_batch.specs.Looking.{looked_up_batch}
use Rattle.vale_batch.specs.Wants.{wants_of}
use Rattle.vale_entry.specs.declared.entry.Ask.TheVariants.{Open, Send, Shut, Finish, PutKept}
use Rattle.vale_entry.specs.declared.entry.Reply.TheVariants.{Opened, Refused, Took, Unread}
use Rattle.nm_types.specs.declared.fault.OpenFault.TheVariants.{NameTaken}
use Rattle.vale_entry.specs.declared.entry.Item.{Item}
use Rattle.vale_entry.specs.World.{World, Port, empty_world, transmit_monitor}
use Rattle.vale_entry.specs.Opening.{opened_port}
use Rattle.vale_entry.specs.Closing.{shut}
use Rattle.vale_entry.specs.Legal.{offers_of_send}
use Rattle.vale_parts.specs.Ids.{port_id}
use Rattle.vale_parts.specs.SwitchPorts.{open_ports_on}
use Rattle.vale_parts.specs.Tables.{table_after}
use Rattle.vale_parts.specs.Batches.{wants_monitored}
use Rattle.vale_parts.specs.WorldCounts.{tally_after}
use Rattle.vale_parts.specs.FreeBuffers.{pool_with_all}

-- Ports 3, 4 and 8 of one switch, of which 8 is shutting, 5 of another, the monitor 6 of port 3, and 7
-- of the first switch.
abbrev ports : List Port
ports =
    opened_port 3 1 (codes "vale0:a") 4 4 0
    ∷ opened_port 4 1 (codes "vale0:b") 4 4 0
    ∷ opened_port 5 1 (codes "vale1:b") 4 4 0
    ∷ opened_port 6 2 (codes "mon0") 0 4 0
    ∷ opened_port 7 2 (codes "vale0:c") 4 4 0
    ∷ shut (opened_port 8 2 (codes "vale0:d") 4 4 0)
    ∷ []

abbrev world : World
world = record (empty_world 64) { entry_count = 8; ports = ports; watches = (record { monitor = 6; target = 3; sides = T }) ∷ [] }

abbrev sender : Port
sender = opened_port 3 1 (codes "vale0:a") 4 4 0

-- from 02:00:00:00:00:0a to all, to itself, and a short one
abbrev to_all : Frame
to_all = record { bytes = 255 ∷ 255 ∷ 255 ∷ 255 ∷ 255 ∷ 255 ∷ 2 ∷ 0 ∷ 0 ∷ 0 ∷ 0 ∷ 10 ∷ 136 ∷ 181 ∷ []; no_learn = false }

abbrev to_self : Frame
to_self = record { bytes = 2 ∷ 0 ∷ 0 ∷ 0 ∷ 0 ∷ 10 ∷ 2 ∷ 0 ∷ 0 ∷ 0 ∷ 0 ∷ 10 ∷ 136 ∷ 181 ∷ []; no_learn = false }

abbrev short : Frame
short = record { bytes = 1 ∷ []; no_learn = false }

abbrev frames : List Frame
frames = to_all ∷ to_self ∷ short ∷ []

-- the open ports of the switch alone, rising
open_ports-row : open_ports_on (codes "0") ports ≡ port_id 3 ∷ port_id 4 ∷ port_id 7 ∷ []
unfolding is_name is_switch_port_name is_pipe_name is_monitor_name switch_of peer_name
open_ports-row = refl

-- the frame to all goes to the two others, and the monitor between them gets all three
wants-row : wants_monitored (transmit_monitor world 3) frames (wants_of (port_id 3) (looked_up_batch (port_id 3) no_stations frames) (open_ports_on (codes "0") ports))
    ≡ (record { to = port_id 4; places = 0 ∷ []; sizes = 1 ∷ [] })
    ∷ (record { to = port_id 6; places = 0 ∷ 1 ∷ 2 ∷ []; sizes = 1 ∷ 1 ∷ 1 ∷ [] })
    ∷ (record { to = port_id 7; places = 0 ∷ []; sizes = 1 ∷ [] })
    ∷ []
unfolding is_name is_switch_port_name is_pipe_name is_monitor_name switch_of peer_name
wants-row = refl

offers-row : offers_of_send world sender frames
    ≡ (record { origin = 9; session = 1; to = 4; frames = to_all ∷ [] })
    ∷ (record { origin = 9; session = 1; to = 6; frames = frames })
    ∷ (record { origin = 9; session = 1; to = 7; frames = to_all ∷ [] })
    ∷ []
unfolding is_name is_switch_port_name is_pipe_name is_monitor_name switch_of peer_name
offers-row = refl

-- no batch, no want of the monitor
no_frames-row : wants_monitored (Some 6) [] [] ≡ []
no_frames-row = refl

-- a Send teaches the table of its switch, and no other; a Shut empties it
abbrev taught : Entries
taught = table_after world (codes "0") (Send (port_id 3) frames) no_stations

taught-row : table_port taught (2 ∷ 0 ∷ 0 ∷ 0 ∷ 0 ∷ 10 ∷ []) ≡ Some (port_id 3)
unfolding is_name is_switch_port_name is_pipe_name is_monitor_name switch_of peer_name
taught-row = refl

elsewhere-row : table_after world (codes "1") (Send (port_id 3) frames) no_stations ≡ no_stations
unfolding is_name is_switch_port_name is_pipe_name is_monitor_name switch_of peer_name
elsewhere-row = refl

shut-row : table_port (table_after world (codes "0") (Shut (port_id 3)) taught) (2 ∷ 0 ∷ 0 ∷ 0 ∷ 0 ∷ 10 ∷ []) ≡ None
unfolding is_name is_switch_port_name is_pipe_name is_monitor_name switch_of peer_name
shut-row = refl

other_shut-row : table_port (table_after world (codes "0") (Shut (port_id 4)) taught) (2 ∷ 0 ∷ 0 ∷ 0 ∷ 0 ∷ 10 ∷ []) ≡ Some (port_id 3)
unfolding is_name is_switch_port_name is_pipe_name is_monitor_name switch_of peer_name
other_shut-row = refl

-- What is counted. The pipe's ends are the ports 3 and 4.
abbrev pipe_world : World
pipe_world = record (empty_world 64) { entry_count = 4; ports = opened_port 3 1 (codes "pipe0{") 4 4 0 ∷ opened_port 4 1 (codes "pipe0}") 4 4 0 ∷ [] }

abbrev counted : ℕ → ℕ → ℕ → Tallied
counted port sent given = record { port = port_id port; counts = record { sent = sent; short = 0; lone = 0; given = given; full = 0; read = 0 } }

abbrev item : Item
item = record { index = 2; bytes = short }

put-row : tally_after pipe_world (PutKept (port_id 3) 2) (Took (item ∷ []) []) (counted 3 5 1 ∷ counted 4 0 7 ∷ []) ≡ counted 3 6 1 ∷ counted 4 0 8 ∷ []
unfolding is_name is_switch_port_name is_pipe_name is_monitor_name switch_of peer_name
put-row = refl

opened-row : tally_after pipe_world (Open (record { 0 = 1 }) (codes "mon0") 0 4 0) Opened (counted 3 5 1 ∷ []) ≡ counted 3 5 1 ∷ counted 5 0 0 ∷ []
opened-row = refl

refused-row : tally_after pipe_world (Open (record { 0 = 1 }) (codes "mon0") 0 4 0) (Refused NameTaken) (counted 3 5 1 ∷ []) ≡ counted 3 5 1 ∷ []
refused-row = refl

finished-row : tally_after pipe_world (Finish (port_id 3) [] (record { found = 0; astray = 0 })) (Unread 0) (counted 3 5 1 ∷ counted 4 0 7 ∷ []) ≡ counted 4 0 7 ∷ []
finished-row = refl

-- buffers given back go where their indices belong
abbrev buffer : ℕ → Buffer
buffer index = record { region = 1; index = index; bytes = [] }

given-row : indices_of (pool_with_all (buffer 5 ∷ buffer 3 ∷ []) (record { buffers = 8; free = buffer 2 ∷ buffer 7 ∷ [] })).free ≡ 2 ∷ 3 ∷ 5 ∷ 7 ∷ []
given-row = refl
