-- Completion marks a lot done. Delivery gives the frames of the longest run of done lots from the
-- front of the line: a lot never overtakes one that was granted before it.
use Rattle.std.specs.Prelude.{ℕ, Bool, true, false, not, ◌&&◌, ◌==◌, ◌+◌, ◌-◌, List, length, map, find, drop, Option, take_while, flat_map}
use Rattle.nm_types.specs.Frames.{Frame, size_of_frames}
use Rattle.vale_entry.specs.World.{Port, Lot}

abbrev pub is_lease : ℕ → Lot → Bool
is_lease number lot = (lot.number == number) && not lot.is_done

abbrev pub line_of : Port → List Lot
line_of port = port.line

-- the lot of this number that is not done
abbrev pub lease_at : List Port → ℕ → Option Lot
lease_at ports number = find (is_lease number) (flat_map line_of ports)

abbrev pub done_if : Bool → Lot → Lot
done_if true lot = record lot { is_done = true }
done_if false lot = lot

abbrev pub lot_after_done : ℕ → Lot → Lot
lot_after_done number lot = done_if (lot.number == number) lot

abbrev pub port_after_done : ℕ → Port → Port
port_after_done number port = record port { line = map (lot_after_done number) port.line }

abbrev pub ports_after_done : ℕ → List Port → List Port
ports_after_done number ports = map (port_after_done number) ports

abbrev pub is_done_lot : Lot → Bool
is_done_lot lot = lot.is_done

abbrev pub ready_lots : Port → List Lot
ready_lots port = take_while is_done_lot port.line

abbrev pub frames_of_lot : Lot → List Frame
frames_of_lot lot = lot.frames

-- the frames that a sync of the port gives, or a get
abbrev pub delivered_frames : Port → List Frame
delivered_frames port = flat_map frames_of_lot (ready_lots port)

abbrev pub port_after_sync : ℕ → Port → Port
port_after_sync returned port =
    record port {
      out = port.out + size_of_frames (delivered_frames port) - returned;
      line = drop (length (ready_lots port)) port.line;
    }
