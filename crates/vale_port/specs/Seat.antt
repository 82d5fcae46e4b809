-- A port of the world with what the holdings say of its buffers, and what each step makes of both.
use Rattle.std.specs.Prelude.{ℕ, List, [], ◌∷◌, length, take, flat_map, Option, Some, None, if◌then◌else◌}
use Rattle.nm_types.specs.Frames.{Frame, size_of_frames}
use Rattle.vale_entry.specs.World.{Port, Lot, Offer, space_of}
use Rattle.vale_entry.specs.Opening.{opened_port}
use Rattle.vale_entry.specs.Grant.{longest_fitting, port_after_grant}
use Rattle.vale_entry.specs.Delivery.{is_lease, ready_lots, port_after_done, port_after_sync}
use Rattle.vale_entry.specs.Pipe.{port_after_put}
use Rattle.vale_entry.specs.Closing.{shut}
use Rattle.vale_entry.specs.Holdings.{PortBuffers, with_lot_buffers, with_returned, with_put_buffers}

pub record Seat : Type 0 where
  pub port : Port
  pub held : PortBuffers

abbrev pub port_of : Seat → Port
port_of seat = seat.port

-- ports side by side with their buffers
abbrev pub seats_of : List Port → List PortBuffers → List Seat
seats_of [] helds = []
seats_of (port ∷ ports) [] = []
seats_of (port ∷ ports) (held ∷ helds) = record { port = port; held = held } ∷ seats_of ports helds

-- a port that was just opened, with these idle buffers
abbrev pub opened_seat : ℕ → ℕ → List ℕ → ℕ → ℕ → List ℕ → Seat
opened_seat id session name tx extra idle = record {
  port = opened_port id session name tx (length idle) extra;
  held = record { port = id; idle = idle; lots = [] };
}

-- the frames that a grant gives of an offer
abbrev pub given_frames : Offer → Seat → List Frame
given_frames offer seat = longest_fitting (space_of seat.port) offer.frames

abbrev pub seat_given : ℕ → Offer → Seat → Seat
seat_given number offer seat = record {
  port = port_after_grant number offer.session (given_frames offer seat) seat.port;
  held = with_lot_buffers (size_of_frames (given_frames offer seat)) seat.held;
}

-- the port with the lot of that number done
abbrev pub seat_done : ℕ → Seat → Seat
seat_done number seat = record { port = port_after_done number seat.port; held = seat.held }

-- the buffers that a sync of the port gives to its session
abbrev pub ready_buffers : Seat → List ℕ
ready_buffers seat = flat_map (λ list. list) (take (length (ready_lots seat.port)) seat.held.lots)

-- the port with these buffers back, and with what was ready given
abbrev pub seat_synced : List ℕ → Seat → Seat
seat_synced back seat = record {
  port = port_after_sync (length back) seat.port;
  held = with_returned (length (ready_lots seat.port)) back seat.held;
}

-- the port with these frames of its other end, in these buffers
abbrev pub seat_put : ℕ → ℕ → List Frame → List ℕ → Seat → Seat
seat_put number session frames taken seat = record {
  port = port_after_put number session frames seat.port;
  held = with_put_buffers taken seat.held;
}

abbrev pub seat_shut : Seat → Seat
seat_shut seat = record { port = shut seat.port; held = seat.held }

-- a lot with the buffers that are held for it
pub record LotSeat : Type 0 where
  pub lot : Lot
  pub buffers : List ℕ

-- the lot of that number that is not done, with its buffers
abbrev pub lease_among : ℕ → List Lot → List (List ℕ) → Option LotSeat
lease_among number [] lists = None
lease_among number (lot ∷ lots) [] = None
lease_among number (lot ∷ lots) (list ∷ lists) =
    if is_lease number lot then Some (record { lot = lot; buffers = list }) else lease_among number lots lists

abbrev pub lease_seat : ℕ → Seat → Option LotSeat
lease_seat number seat = lease_among number seat.port.line seat.held.lots
