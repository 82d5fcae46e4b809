-- Ports in a list, in the order of their ids, with the seats that they stand for.
use Rattle.std.specs.Prelude.{ℕ, false, ◌≡◌, ◌<◌, ◌==◌, not, ◌&&◌, List, [], ◌∷◌, ◌++◌, length, map, filter, Option, Some, None, slice_get, slice_set}
use Rattle.std.specs.List.{remove}
use Rattle.nm_types.specs.declared.id.PortId.{PortId}
use Rattle.vale_entry.specs.World.{Port, changed_at}
use Rattle.vale_entry.specs.Opening.{is_on_switch}
use Rattle.vale_entry.specs.Closing.{shut, ports_without}
use Rattle.vale_entry.specs.Delivery.{ports_after_done}
use Rattle.vale_entry.specs.Holdings.{PortBuffers, PortAgrees, PortsAgree, changed_buffers}
use Rattle.vale_entry.specs.Laws.{Rise, id_of_port, AreSingle, HasLotsUpTo}
use Rattle.vale_lease.specs.Leases.{is_there}
use Rattle.vale_line.specs.Leased.{Leased}
use Rattle.vale_line.specs.Lines.{leases_of}
use Rattle.vale_port.specs.Ports.{PortState, IsSeatOf, IsFilledFor, AreSeatsOf}
use Rattle.vale_port.specs.Seat.{Seat, port_of, seats_of, seat_done, seat_shut}

-- where a search among the world's ports finds one, whichever seats these are
pub record IsFoundAt (search : List Port → Option Port) (ps : List PortState) (place : ℕ) : Type 0 where
  pub within : place < length ps
  pub found : (seats : List Seat) → AreSeatsOf seats ps → search (map port_of seats) ≡ slice_get (map port_of seats) place

abbrev pub IsNotFound : (List Port → Option Port) → List PortState → Type 0
IsNotFound search ps = (seats : List Seat) → AreSeatsOf seats ps → search (map port_of seats) ≡ None

abbrev pub port_id : Port → PortId
port_id port = record { 0 = port.id }

-- the ids of the open ports of a switch, whichever seats these are
abbrev pub AreOpenOn : List ℕ → List PortState → List PortId → Type 0
AreOpenOn switch ps ids = (seats : List Seat) → AreSeatsOf seats ps
    → ids ≡ map port_id (filter (λ (port : Port). not port.shutting && is_on_switch switch port) (map port_of seats))

-- The ports of a world, with what the holdings say of their buffers, are those of a list.
abbrev pub ArePortsOf : List Port → List PortBuffers → List PortState → Type 0
ArePortsOf ports helds ps = AreSeatsOf (seats_of ports helds) ps

-- ports of a world, by rising ids
pub record AreRising (ports : List Port) (helds : List PortBuffers) (ps : List PortState) : Type 0 where
  pub high : ℕ
  pub rise : Rise 0 (map id_of_port ports) high
  pub agree : PortsAgree ports helds
  pub stand : ArePortsOf ports helds ps

-- the port of a place, with its buffers, and the port of the list that stands for both
pub record StandsAt (ports : List Port) (helds : List PortBuffers) (ps : List PortState) (place : ℕ) (port : Port) : Type 0 where
  pub held : PortBuffers
  pub state : PortState
  pub here : slice_get ports place ≡ Some port
  pub held_here : slice_get helds place ≡ Some held
  pub state_here : slice_get ps place ≡ Some state
  pub agrees : PortAgrees port held
  pub is_seat : IsSeatOf (record { port = port; held = held }) state

-- One port changes, and the seat that it stands for with it.
abbrev pub ChangesSeat : (Seat → Seat) → List PortState → ℕ → List PortState → Type 0
ChangesSeat change old place new = (seats : List Seat) (seat : Seat) → AreSeatsOf seats old → slice_get seats place ≡ Some seat
    → AreSeatsOf (slice_set seats place (change seat)) new

-- the same where P holds of the seat
abbrev pub ChangesSeatIf : (Seat → Type 0) → (Seat → Seat) → List PortState → ℕ → List PortState → Type 0
ChangesSeatIf P change old place new = (seats : List Seat) (seat : Seat) → AreSeatsOf seats old → slice_get seats place ≡ Some seat → P seat
    → AreSeatsOf (slice_set seats place (change seat)) new

-- what holds of the seat at a place
abbrev pub OfSeat : (Seat → Type 0) → List PortState → ℕ → Type 0
OfSeat P ps place = (seats : List Seat) (seat : Seat) → AreSeatsOf seats ps → slice_get seats place ≡ Some seat → P seat

-- what holds of the port at a place
abbrev pub OfState : (PortState → Type 0) → List PortState → ℕ → Type 0
OfState P ps place = (p : PortState) → slice_get ps place ≡ Some p → P p

-- What a list of ports keeps.

abbrev pub EachPortStands : Type 0
EachPortStands = (ports : List Port) (helds : List PortBuffers) (ps : List PortState) (place : ℕ) (port : Port) → AreRising ports helds ps
    → slice_get ports place ≡ Some port → StandsAt ports helds ps place port

-- what a search finds, it finds in the world
abbrev pub FoundIsFound : Type 0
FoundIsFound = (ports : List Port) (helds : List PortBuffers) (ps : List PortState) (search : List Port → Option Port) (place : ℕ) → AreRising ports helds ps
    → IsFoundAt search ps place → search ports ≡ slice_get ports place

abbrev pub NotFoundIsNone : Type 0
NotFoundIsNone = (ports : List Port) (helds : List PortBuffers) (ps : List PortState) (search : List Port → Option Port) → AreRising ports helds ps
    → IsNotFound search ps → search ports ≡ None

-- another port at a place
abbrev pub ChangeIsChange : Type 0
ChangeIsChange = (ports : List Port) (helds : List PortBuffers) (ps : List PortState) (place : ℕ) (port : Port) (held : PortBuffers) (p : PortState)
    (change : Port → Port) (changed : PortBuffers → PortBuffers) → AreRising ports helds ps
    → slice_get ports place ≡ Some port → slice_get helds place ≡ Some held → IsSeatOf (record { port = change port; held = changed held }) p
    → ArePortsOf (changed_at port.id change ports) (changed_buffers port.id changed helds) (slice_set ps place p)

-- where the seat at a place changes, so do the world's port and its buffers
abbrev pub SeatChangeIsChange : Type 0
SeatChangeIsChange = (ports : List Port) (helds : List PortBuffers) (old new : List PortState) (place : ℕ) (port : Port) (held : PortBuffers)
    (step : Seat → Seat) (change : Port → Port) (changed : PortBuffers → PortBuffers) → AreRising ports helds old
    → slice_get ports place ≡ Some port → slice_get helds place ≡ Some held → ChangesSeat step old place new
    → step (record { port = port; held = held }) ≡ record { port = change port; held = changed held }
    → ArePortsOf (changed_at port.id change ports) (changed_buffers port.id changed helds) new

abbrev pub ShutIsShutAmong : Type 0
ShutIsShutAmong = (ports : List Port) (helds : List PortBuffers) (old new : List PortState) (place : ℕ) (port : Port) (held : PortBuffers) → AreRising ports helds old
    → slice_get ports place ≡ Some port → slice_get helds place ≡ Some held → ChangesSeat seat_shut old place new
    → ArePortsOf (changed_at port.id shut ports) helds new

-- the lot of a filled lease is done: no other port has a lot of that number
abbrev pub DoneIsDoneAmong : Type 0
DoneIsDoneAmong = (ports : List Port) (helds : List PortBuffers) (old new : List PortState) (place : ℕ) (lease : Leased) (port : Port) (held : PortBuffers)
    → AreRising ports helds old → AreSingle ports → slice_get ports place ≡ Some port → slice_get helds place ≡ Some held
    → IsFilledFor (record { port = port; held = held }) lease → ChangesSeatIf (λ (seat : Seat). IsFilledFor seat lease) (seat_done lease.id) old place new
    → ArePortsOf (ports_after_done lease.id ports) helds new

abbrev pub OpenIsOpenAmong : Type 0
OpenIsOpenAmong = (ports : List Port) (helds : List PortBuffers) (ps : List PortState) (port : Port) (held : PortBuffers) (p : PortState)
    → AreRising ports helds ps → IsSeatOf (record { port = port; held = held }) p
    → ArePortsOf (ports ++ port ∷ []) (helds ++ held ∷ []) (ps ++ p ∷ [])

abbrev pub GoneIsGone : Type 0
GoneIsGone = (ports : List Port) (helds : List PortBuffers) (ps : List PortState) (place : ℕ) (port : Port) → AreRising ports helds ps
    → slice_get ports place ≡ Some port
    → ArePortsOf (ports_without port.id ports) (filter (λ (held : PortBuffers). not (held.port == port.id)) helds) (remove ps place)

-- an entry's number is that of no lot
abbrev pub NewIsNew : Type 0
NewIsNew = (seat : Seat) (p : PortState) (count number : ℕ) → IsSeatOf seat p → HasLotsUpTo count seat.port → count < number
    → is_there number (leases_of p.line.lots) ≡ false
