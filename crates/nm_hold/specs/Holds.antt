-- A session's places as contracts see them: at each index where the buffer of that index stands, the
-- ports with their sizes.
use Rattle.std.specs.Prelude.{ℕ, Bool, false, true, All, find, ◌==◌, ◌≡◌, ◌+◌, ◌-◌, ◌≤◌, List, [], ◌∷◌, length, map, replicate, slice_get, slice_index_or, slice_set, unwrap_or, Option, Some, None, option_map}
use Rattle.std.specs.Option.{option_map_or}
use Rattle.nm_types.specs.declared.id.PortId.{PortId}
use Rattle.nm_types.specs.declared.id.PortSizes.{PortSizes}
use Rattle.nm_types.specs.declared.id.Side.{Side}
use Rattle.nm_types.specs.declared.id.Side.TheVariants as side
use Rattle.nm_types.specs.declared.place.Place.{Place}
use Rattle.nm_types.specs.declared.place.Place.TheVariants.{Tx, Rx, Extra}
use Rattle.nm_types.specs.Places.{Held, held_at, is_same_place}
use Rattle.nm_region.specs.Buffers.{Buffer}
use Rattle.nm_hold.specs.declared.standing.Standing.{Standing}
use Rattle.nm_hold.specs.declared.table.PortPlaces.{PortPlaces}
use Rattle.nm_types.specs.Buffers.{IsPoolSize}
use Rattle.nm_hold.specs.Offsets.{AreSizes, ArePortsOnce, has_place}
use Rattle.nm_hold.specs.Standings.{buf_in, named_bytes_in, cell_written}

pub record HoldState : Type 0 where
  pub cells : List (Option Standing)
  pub ports : List PortPlaces

-- nothing stands anywhere, and there is no port
abbrev pub empty_hold : ℕ → HoldState
empty_hold buffers = record { cells = replicate (buffers + 2) None; ports = [] }

-- the number of buffers in the pool of which the hold has some
abbrev pub buffers_of : HoldState → ℕ
buffers_of h = length h.cells - 2

-- where the buffer of an index stands; none stands at 0 and 1
abbrev pub cell_at : List (Option Standing) → ℕ → Option Standing
cell_at cells idx = slice_index_or cells idx None

abbrev pub standing_at : HoldState → ℕ → Option Standing
standing_at h idx = cell_at h.cells idx

-- at each index the buffer of that index, if the hold has it
abbrev pub bufs_in : List (Option Standing) → List (Option Buffer)
bufs_in cells = map buf_in cells

abbrev pub bufs_of : HoldState → List (Option Buffer)
bufs_of h = bufs_in h.cells

abbrev pub buffer_at : HoldState → ℕ → Option Buffer
buffer_at h idx = buf_in (standing_at h idx)

abbrev pub place_at : HoldState → ℕ → Option Place
place_at h idx = option_map (λ (s : Standing). s.home.place) (standing_at h idx)

abbrev pub is_named_in : Option Standing → Bool
is_named_in cell = option_map_or (λ (s : Standing). s.home.named) cell false

-- whether a buffer stands in a place that is named
abbrev pub is_named_at : HoldState → ℕ → Bool
is_named_at h idx = is_named_in (standing_at h idx)

abbrev pub named_bytes_at : HoldState → ℕ → Option (List ℕ)
named_bytes_at h idx = named_bytes_in (standing_at h idx)

-- the places that hold a buffer, with its index
abbrev pub places_in : List (Option Standing) → List Held
places_in [] = []
places_in (None ∷ cells) = places_in cells
places_in (Some s ∷ cells) = record { place = s.home.place; buffer = s.buf.index } ∷ places_in cells

abbrev pub places_of : HoldState → List Held
places_of h = places_in h.cells

-- the index of the buffer in a place
abbrev pub index_at : HoldState → Place → Option ℕ
index_at h place = held_at (places_of h) place

-- a slot of a port's ring, and the number of them
abbrev pub slot_on : Side → PortId → ℕ → Place
slot_on side.Tx port at = Tx port at
slot_on side.Rx port at = Rx port at

abbrev pub size_on : Side → PortSizes → ℕ
size_on side.Tx sizes = sizes.tx
size_on side.Rx sizes = sizes.rx

-- at each position the index of the buffer in that slot, 0 where there is none
abbrev pub AreNumbers : HoldState → Side → PortId → List ℕ → Type 0
AreNumbers h side port numbers = (at idx : ℕ) → slice_get numbers at ≡ Some idx → unwrap_or (index_at h (slot_on side port at)) 0 ≡ idx

abbrev pub with_cell : HoldState → ℕ → Option Standing → HoldState
with_cell h idx cell = record h { cells = slice_set h.cells idx cell }

abbrev pub with_written : HoldState → ℕ → List ℕ → HoldState
with_written h idx bytes = with_cell h idx (cell_written (standing_at h idx) bytes)

-- each place holds the same buffer
abbrev pub SamePlaces : List Held → List Held → Type 0
SamePlaces old new = (place : Place) → held_at new place ≡ held_at old place

abbrev pub port_of : Place → ℕ
port_of (Tx port slot) = port.0
port_of (Rx port slot) = port.0
port_of (Extra port at) = port.0

-- none of a port's places holds a buffer
abbrev pub HoldsNothing : HoldState → ℕ → Type 0
HoldsNothing h port = (place : Place) → port_of place ≡ port → index_at h place ≡ None

-- how many extra positions a port has
abbrev pub extra_of : List PortPlaces → ℕ → ℕ
extra_of ports port = option_map_or (λ (p : PortPlaces). p.sizes.extra) (find (λ (p : PortPlaces). p.port.0 == port) ports) 0

abbrev pub stands_at : Place → Option Standing → Bool
stands_at place None = false
stands_at place (Some s) = is_same_place place s.home.place

-- a buffer stands at its index, and in a place that has no other
pub record StandsIn (h : HoldState) (idx : ℕ) (s : Standing) : Type 0 where
  pub low : 2 ≤ idx
  pub index : s.buf.index ≡ idx
  pub there : index_at h s.home.place ≡ Some idx
  pub belongs : has_place h.ports s.home.place ≡ true

pub record IsHold (h : HoldState) : Type 0 where
  pub pool : IsPoolSize (buffers_of h)
  pub sizes : All (λ (p : PortPlaces). AreSizes p.sizes) h.ports
  pub once : ArePortsOnce h.ports
  pub standing : (idx : ℕ) (s : Standing) → standing_at h idx ≡ Some s → StandsIn h idx s
  pub held : (place : Place) (idx : ℕ) → index_at h place ≡ Some idx → stands_at place (standing_at h idx) ≡ true
