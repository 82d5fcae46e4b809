-- Pipes. What a Put offers goes to the open port at the other end, as far as there is room: the
-- frames stay in their buffers, which change hands.
use Rattle.std.specs.Prelude.{ℕ, Bool, true, false, not, min, ◌&&◌, ◌==◌, List, map, find, Option, Some, None}
use Rattle.nm_types.specs.Frames.{Frame}
use Rattle.nm_types.specs.Names.{is_pipe_name, peer_name}
use Rattle.nm_types.specs.Sendable.{fits_buffer}
use Rattle.vale_entry.specs.declared.entry.Item.{Item}
use Rattle.vale_entry.specs.World.{Port, open_port, space_of}
use Rattle.vale_entry.specs.Monitors.{is_open_as}
use Rattle.vale_entry.specs.Grant.{with_lot}

-- an open pipe end that is the other end of the one of this name
abbrev pub is_peer : List ℕ → Port → Bool
is_peer name port = is_pipe_name port.name && is_open_as (peer_name name) port

-- the port at the other end, of any session, if it is open
abbrev pub peer_of : List Port → Port → Option Port
peer_of ports port = find (is_peer port.name) ports

abbrev pub peer_of_found : List Port → Option Port → Option Port
peer_of_found ports None = None
peer_of_found ports (Some port) = peer_of ports port

-- the port at the other end of the one of this id
abbrev pub peer_at : List Port → ℕ → Option Port
peer_at ports id = peer_of_found ports (open_port ports id)

abbrev pub is_port_at : ℕ → Option Port → Bool
is_port_at id None = false
is_port_at id (Some port) = port.id == id

-- whether what one port puts goes to the other
abbrev pub puts_to_port : List Port → ℕ → ℕ → Bool
puts_to_port ports from to = is_port_at to (peer_at ports from)

-- of so many frames of one slot the other end takes as many as it has space for
abbrev pub taken_count : Option Port → ℕ → ℕ
taken_count None offered = 0
taken_count (Some peer) offered = min offered (space_of peer)

abbrev pub index_of_item : Item → ℕ
index_of_item item = item.index

abbrev pub frame_of_item : Item → Frame
frame_of_item item = item.bytes

abbrev pub indices_of : List Item → List ℕ
indices_of items = map index_of_item items

abbrev pub frames_of_items : List Item → List Frame
frames_of_items items = map frame_of_item items

-- a pipe carries frames that fit a buffer, and no mark
abbrev pub is_pipe_item : Item → Bool
is_pipe_item item = fits_buffer item.bytes && not item.bytes.no_learn

-- the taken frames are a lot that is done when it is made
abbrev pub port_after_put : ℕ → ℕ → List Frame → Port → Port
port_after_put number session frames port =
    record port { line = with_lot number session true frames port.line }
