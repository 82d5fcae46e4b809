-- The world of a history: the sessions that are there, the ports with what is queued at each, what
-- the switches have learned, who watches whom, the offers not yet granted, and what ports have
-- counted. It has no buffers.
use Rattle.std.specs.Prelude.{ℕ, Bool, true, false, not, ◌&&◌, ◌==◌, ◌+◌, ◌-◌, List, [], map, find, Option, Some, None, is_some, sum_by}
use Rattle.std.specs.List.{list_any}
use Rattle.nm_types.specs.declared.id.Counts.{Counts}
use Rattle.nm_types.specs.declared.id.Sides.{Sides}
use Rattle.nm_types.specs.declared.id.Side.TheVariants.{Tx, Rx}
use Rattle.nm_types.specs.Sides.{watches_side}
use Rattle.nm_types.specs.Frames.{Frame, size_of_frames}

-- frames brought to a port, under the number of the entry that did, a Grant or a Put, with its
-- session
pub record Lot : Type 0 where
  pub number : ℕ
  pub session : ℕ
  pub frames : List Frame
  pub is_done : Bool

-- a port that was opened and is not gone; its line has the oldest lot first, and `out` counts the
-- buffers that its syncs gave and that have not come back
pub record Port : Type 0 where
  pub id : ℕ
  pub session : ℕ
  pub name : List ℕ
  pub tx : ℕ
  pub rx : ℕ
  pub extra : ℕ
  pub shutting : Bool
  pub out : ℕ
  pub line : List Lot

-- an address that a switch has learned, and the port behind which it was seen
pub record Pair : Type 0 where
  pub switch : List ℕ
  pub address : List ℕ
  pub port : ℕ

-- a monitor's port, and the port that it watches
pub record Watch : Type 0 where
  pub monitor : ℕ
  pub target : ℕ
  pub sides : Sides

-- the frames of the entry `origin` that are wanted at a port
pub record Offer : Type 0 where
  pub origin : ℕ
  pub session : ℕ
  pub to : ℕ
  pub frames : List Frame

-- what a port has counted, in frames
pub record PortCounts : Type 0 where
  pub port : ℕ
  pub counts : Counts

-- pairs stand newest first, ports by rising id, and the offers of an entry by rising port
pub record World : Type 0 where
  pub pool : ℕ
  pub entry_count : ℕ
  pub sessions : List ℕ
  pub ports : List Port
  pub pairs : List Pair
  pub watches : List Watch
  pub offers : List Offer
  pub counts : List PortCounts

abbrev pub empty_world : ℕ → World
empty_world pool =
    record {
      pool = pool;
      entry_count = 0;
      sessions = [];
      ports = [];
      pairs = [];
      watches = [];
      offers = [];
      counts = [];
    }

abbrev pub is_session : World → ℕ → Bool
is_session w session = list_any (λ s. s == session) w.sessions

abbrev pub is_open_at : ℕ → Port → Bool
is_open_at id port = (port.id == id) && not port.shutting

-- the open port of this id
abbrev pub open_port : List Port → ℕ → Option Port
open_port ports id = find (is_open_at id) ports

abbrev pub is_open : List Port → ℕ → Bool
is_open ports id = is_some (open_port ports id)

-- the ports, with what a change makes of the one of this id
abbrev pub changed_if : Bool → (Port → Port) → Port → Port
changed_if true change port = change port
changed_if false change port = port

abbrev pub changed_at : ℕ → (Port → Port) → List Port → List Port
changed_at id change ports = map (λ port. changed_if (port.id == id) change port) ports

-- how many slots the frames queued at a port take
abbrev pub size_of_line : List Lot → ℕ
size_of_line line = sum_by (λ lot. size_of_frames lot.frames) line

-- the slots that a grant can still give: one always stays with the kernel side
abbrev pub space_of : Port → ℕ
space_of port = port.rx - 1 - port.out - size_of_line port.line

-- the buffers that a port's session holds for it
abbrev pub due_of : Port → ℕ
due_of port = port.tx + port.extra + port.out

abbrev pub buffers_of : Port → ℕ
buffers_of port = port.tx + port.rx + port.extra

-- how many buffers of the pool are free
abbrev pub free_count : World → ℕ
free_count w = w.pool - sum_by buffers_of w.ports

abbrev pub is_undone : Lot → Bool
is_undone lot = not lot.is_done

-- a lot of this session that is not done
abbrev pub is_owed_by : ℕ → Lot → Bool
is_owed_by session lot = (lot.session == session) && not lot.is_done

abbrev pub has_lot_owed_by : ℕ → Port → Bool
has_lot_owed_by session port = list_any (is_owed_by session) port.line

-- no entry of the session has an offer that is not granted, and each lot granted by it is done
abbrev pub is_settled : World → ℕ → Bool
is_settled w session =
    not (list_any (λ offer. offer.session == session) w.offers)
    && not (list_any (has_lot_owed_by session) w.ports)

-- the monitor that a watch names
abbrev pub monitor_id : Option Watch → Option ℕ
monitor_id None = None
monitor_id (Some watch) = Some watch.monitor

abbrev pub transmit_monitor : World → ℕ → Option ℕ
transmit_monitor w port =
    monitor_id (find (λ watch. (watch.target == port) && watches_side watch.sides Tx) w.watches)

abbrev pub receive_monitor : World → ℕ → Option ℕ
receive_monitor w port =
    monitor_id (find (λ watch. (watch.target == port) && watches_side watch.sides Rx) w.watches)
