-- A port that owns the buffers of its kernel side, and the seat of the world that it stands for.
use Rattle.std.specs.Prelude.{ℕ, Bool, false, ◌≡◌, ◌≤◌, ◌<◌, ◌+◌, ◌&&◌, ◌==◌, not, List, [], ◌∷◌, ◌++◌, codes, length, take, map, filter, nat_lt, nat_eq, slice_index, slice_index_or, Some, option_map}
use Rattle.std.specs.List.{starts_with, AllZip}
use Rattle.nm_types.specs.Frames.{Frame, slots_of, size_of_frames}
use Rattle.nm_types.specs.declared.id.PortId.{PortId}
use Rattle.nm_types.specs.Openings.{is_on_switch}
use Rattle.nm_region.specs.Buffers.{Buffer, indices_of}
use Rattle.vale_line.specs.declared.got.Got.{Got}
use Rattle.vale_line.specs.Gots.{buffers_of, frames_in, held_parts}
use Rattle.nm_types.specs.Parts.{cut_frames}
use Rattle.vale_line.specs.Leased.{Leased, buffer_count}
use Rattle.vale_line.specs.Lines.{LineState, out_of, new_line}
use Rattle.vale_entry.specs.World.{Offer}
use Rattle.vale_entry.specs.Delivery.{delivered_frames}
use Rattle.vale_port.specs.Kept.{KeptFrames, IsLineOf, bytes_of, kept_gots, world_frames}
use Rattle.vale_port.specs.Seat.{Seat, LotSeat, given_frames, ready_buffers, lease_seat}

-- the session holds the buffers of the transmit ring and the extra ones, as many as are named here
pub record PortState : Type 0 where
  pub id : ℕ
  pub session : ℕ
  pub name : List ℕ
  pub tx : ℕ
  pub extra : ℕ
  pub shutting : Bool
  pub line : LineState

-- a port that was just opened, with these idle buffers
abbrev pub opened_state : ℕ → ℕ → List ℕ → ℕ → ℕ → List Buffer → PortState
opened_state id session name tx extra bufs = record { id = id; session = session; name = name; tx = tx; extra = extra; shutting = false; line = new_line bufs }

-- the port is that of the seat
pub record IsSeatOf (seat : Seat) (p : PortState) : Type 0 where
  pub id : p.id ≡ seat.port.id
  pub session : p.session ≡ seat.port.session
  pub name : p.name ≡ seat.port.name
  pub tx : p.tx ≡ seat.port.tx
  pub extra : p.extra ≡ seat.port.extra
  pub shutting : p.shutting ≡ seat.port.shutting
  pub line : IsLineOf seat.port seat.held p.line
  pub out : out_of p.line ≡ seat.port.out

-- the ports are those of the seats, one by one
abbrev pub AreSeatsOf : List Seat → List PortState → Type 0
AreSeatsOf seats ps = AllZip IsSeatOf seats ps

-- the buffers that the session holds for the port
abbrev pub due_of_state : PortState → ℕ
due_of_state p = p.tx + p.extra + out_of p.line

-- the ports stand by rising ids
abbrev pub AreByRisingIds : List PortState → Type 0
AreByRisingIds ps = (i j : ℕ) (d : PortState) → i < j → j < length ps → (slice_index_or ps i d).id < (slice_index_or ps j d).id

-- the ids below the one that is looked for
abbrev pub is_state_before : ℕ → PortState → Bool
is_state_before id p = nat_lt p.id id

abbrev pub is_state_of : ℕ → PortState → Bool
is_state_of id p = p.id == id

abbrev pub is_open_state : ℕ → PortState → Bool
is_open_state id p = (p.id == id) && not p.shutting

abbrev pub is_shutting_state : ℕ → PortState → Bool
is_shutting_state id p = (p.id == id) && p.shutting

abbrev pub id_of_state : PortState → PortId
id_of_state p = record { 0 = p.id }

-- the text begins with this one and a colon
abbrev pub is_part : List ℕ → List ℕ → Bool
is_part text part = nat_lt (length part) (length text) && (slice_index text (length part) == 58 && starts_with nat_eq text part)

-- the last byte of `vale` and a switch's text
abbrev pub IsLastByte : List ℕ → ℕ → Type 0
IsLastByte switch last = slice_index (codes "vale" ++ switch) (length switch + 3) ≡ last

abbrev pub is_open_state_on : List ℕ → PortState → Bool
is_open_state_on switch p = not p.shutting && is_on_switch switch p.name

-- the ids of the open ports of a switch
abbrev pub open_ids : List ℕ → List PortState → List PortId
open_ids switch ps = map id_of_state (filter (is_open_state_on switch) ps)

abbrev pub is_open_id_on : List ℕ → ℕ → PortState → Bool
is_open_id_on switch id p = is_open_state id p && is_open_state_on switch p

-- the slots of the frames that an offer wants
abbrev pub sizes_of : List Frame → List ℕ
sizes_of frames = map slots_of frames

-- the lease of a grant: it has the first idle buffers for the frames given
pub record IsLeaseFor (number : ℕ) (offer : Offer) (seat : Seat) (lease : Leased) : Type 0 where
  pub id : lease.id ≡ number
  pub to : lease.to ≡ seat.port.id
  pub filled : lease.filled ≡ []
  pub sizes : lease.sizes ≡ sizes_of (given_frames offer seat)
  pub buffers : indices_of lease.empty ≡ take (size_of_frames (given_frames offer seat)) seat.held.idle
  pub slots : buffer_count lease ≡ size_of_frames (given_frames offer seat)
  pub some : 1 ≤ length (given_frames offer seat)

abbrev pub frames_of_seat : LotSeat → KeptFrames
frames_of_seat lot = world_frames lot.lot lot.buffers

-- the lease is filled with the frames of its lot, in the lot's buffers
abbrev pub IsFilledFor : Seat → Leased → Type 0
IsFilledFor seat lease = option_map frames_of_seat (lease_seat lease.id seat) ≡ Some (kept_gots lease.filled)

-- what a sync gives: the buffers of the world's ready lots, with the parts of their frames
pub record Gives (seat : Seat) (gots : List Got) : Type 0 where
  pub buffers : indices_of (buffers_of gots) ≡ ready_buffers seat
  pub parts : held_parts gots ≡ cut_frames (bytes_of (delivered_frames seat.port))
  pub bytes : frames_in gots ≡ bytes_of (delivered_frames seat.port)
