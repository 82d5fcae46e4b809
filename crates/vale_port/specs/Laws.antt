-- What a line does is what the world's port does.
use Rattle.std.specs.Prelude.{ℕ, Bool, true, ◌==◌, ◌≡◌, ◌≤◌, List, [], ◌++◌, drop, length, map, find, Some, option_map, All}
use Rattle.std.specs.List.{list_any}
use Rattle.nm_types.specs.Sendable.{AreFrames}
use Rattle.nm_types.specs.declared.id.LeaseId.{LeaseId}
use Rattle.nm_types.specs.Frames.{Frame, size_of_frames}
use Rattle.nm_region.specs.Buffers.{Buffer, indices_of}
use Rattle.vale_lease.specs.Leases.{is_there, out_count}
use Rattle.vale_line.specs.declared.got.Got.{Got}
use Rattle.vale_line.specs.Gots.{buffers_of, frames_in, FitsPart, IsSingle}
use Rattle.vale_line.specs.Fitting.{IsFrameSize}
use Rattle.vale_line.specs.Leased.{Leased, buffer_count}
use Rattle.vale_line.specs.Lines.{LineState, IsLine, leases_of, granted_sizes, with_lease, given_by_sync, with_put, completed, ready_gots, held_gots, slots_out, out_of}
use Rattle.vale_line.specs.Lines.{space_of as line_space}
use Rattle.vale_entry.specs.World.{Lot, Offer, space_of}
use Rattle.vale_entry.specs.Delivery.{is_lease}
use Rattle.vale_entry.specs.Closing.{leases_out, unread_count}
use Rattle.vale_entry.specs.Holdings.{PortAgrees, buffers_at_port}
use Rattle.vale_port.specs.Kept.{bytes_of}
use Rattle.vale_port.specs.Ports.{PortState, IsSeatOf, IsFilledFor, Gives, opened_state, sizes_of}
use Rattle.vale_port.specs.Seat.{Seat, opened_seat, given_frames, seat_given, seat_done, seat_synced, seat_put, seat_shut}

abbrev pub with_line : LineState → PortState → PortState
with_line line p = record p { line = line }

abbrev pub OpenIsOpen : Type 0
OpenIsOpen = (id session : ℕ) (name : List ℕ) (tx extra : ℕ) (bufs : List Buffer)
    → IsSeatOf (opened_seat id session name tx extra (indices_of bufs)) (opened_state id session name tx extra bufs)

abbrev pub SpaceIsSpace : Type 0
SpaceIsSpace = (seat : Seat) (p : PortState) → IsSeatOf seat p → IsLine p.line → line_space p.line ≡ space_of seat.port

-- a line gives the sizes of the frames that the world gives
abbrev pub SizesAreSizes : Type 0
SizesAreSizes = (seat : Seat) (p : PortState) (offer : Offer) → IsSeatOf seat p → IsLine p.line
    → granted_sizes (sizes_of offer.frames) p.line ≡ sizes_of (given_frames offer seat)

abbrev pub GrantIsGrant : Type 0
GrantIsGrant = (seat : Seat) (p : PortState) (id : LeaseId) (offer : Offer) → IsSeatOf seat p → IsLine p.line
    → 1 ≤ length (given_frames offer seat)
    → IsSeatOf (seat_given id.0 offer seat) (with_line (with_lease id (size_of_frames (given_frames offer seat)) p.line) p)

abbrev pub NoGrantIsNone : Type 0
NoGrantIsNone = (seat : Seat) (number : ℕ) (offer : Offer) → given_frames offer seat ≡ [] → seat_given number offer seat ≡ seat

abbrev pub DoneIsDone : Type 0
DoneIsDone = (seat : Seat) (p : PortState) (lease : Leased) → IsSeatOf seat p → IsLine p.line → IsFilledFor seat lease
    → IsSeatOf (seat_done lease.id seat) (with_line (record p.line { lots = map (completed lease.id lease.filled) p.line.lots }) p)

abbrev pub SyncIsSync : Type 0
SyncIsSync = (seat : Seat) (p : PortState) (back : List Buffer) → IsSeatOf seat p → IsLine p.line → length back ≤ out_of p.line
    → Gives seat (ready_gots p.line.lots) × IsSeatOf (seat_synced (indices_of back) seat) (with_line (given_by_sync back p.line) p)

-- as many of the first idle buffers leave the line as frames come
abbrev pub line_after_put : LeaseId → List Got → LineState → LineState
line_after_put id gots line = with_put id gots (record line { idle = drop (length gots) line.idle })

abbrev pub PutIsPut : Type 0
PutIsPut = (seat : Seat) (p : PortState) (id : LeaseId) (session : ℕ) (frames : List Frame) (gots : List Got) → IsSeatOf seat p → IsLine p.line
    → All IsSingle gots → All FitsPart gots → bytes_of frames ≡ frames_in gots → length gots ≤ line_space p.line
    → IsSeatOf (seat_put id.0 session frames (indices_of (buffers_of gots)) seat) (with_line (line_after_put id gots p.line) p)

abbrev pub ShutIsShut : Type 0
ShutIsShut = (seat : Seat) (p : PortState) → IsSeatOf seat p → IsSeatOf (seat_shut seat) (record p { shutting = true })

-- what a line that is cleared gives: the buffers that are held for the port
abbrev pub ClearGivesAll : Type 0
ClearGivesAll = (seat : Seat) (p : PortState) → IsSeatOf seat p → IsLine p.line → out_count (leases_of p.line.lots) ≡ 0
    → (indices_of (p.line.idle ++ buffers_of (held_gots p.line.lots)) ≡ buffers_at_port seat.held)
    × (length (frames_in (held_gots p.line.lots)) ≡ unread_count seat.port)

-- leases, lots and their sizes are found in a line where the world has them
abbrev pub size_of_lot : Lot → ℕ
size_of_lot lot = size_of_frames lot.frames

abbrev pub is_numbered : ℕ → Lot → Bool
is_numbered number lot = lot.number == number

abbrev pub LotsAreLots : Type 0
LotsAreLots = (seat : Seat) (p : PortState) (number : ℕ) → IsSeatOf seat p
    → (out_count (leases_of p.line.lots) ≡ leases_out seat.port)
    × ((is_there number (leases_of p.line.lots) ≡ list_any (is_numbered number) seat.port.line)
    × (slots_out number p.line.lots ≡ option_map size_of_lot (find (is_lease number) seat.port.line)))

-- a lease that is filled for a port is out there, with as many buffers as its lot has slots
abbrev pub FilledIsOut : Type 0
FilledIsOut = (seat : Seat) (p : PortState) (lease : Leased) → IsSeatOf seat p → PortAgrees seat.port seat.held → IsFilledFor seat lease → lease.empty ≡ []
    → (slots_out lease.id p.line.lots ≡ Some (buffer_count lease)) × (list_any (is_numbered lease.id) seat.port.line ≡ true)

-- what a grant asks for: each frame takes 1 to `most_frame_slots` slots
abbrev pub SizesAreFrameSizes : Type 0
SizesAreFrameSizes = (frames : List Frame) → AreFrames frames → All IsFrameSize (sizes_of frames)

-- a line has as many buffers as the ring of its port
abbrev pub RingIsRing : Type 0
RingIsRing = (seat : Seat) (p : PortState) → IsSeatOf seat p → p.line.size ≡ seat.port.rx
