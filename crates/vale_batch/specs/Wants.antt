-- What each port wants of a batch: the places of the frames that go to it, rising, and the slots of
-- each.
use Rattle.std.specs.Prelude.{ℕ, Bool, true, false, not, ◌&&◌, ◌==◌, ◌+◌, if◌then◌else◌, List, [], ◌∷◌, ◌++◌, length, map, filter, nat_lt, ◌<◌, ◌^◌, slice_index_or, slice_get}
use Rattle.std.specs.List.{list_any}
use Rattle.std.specs.Option.{option_map_or}
use Rattle.nm_types.specs.declared.id.PortId.{PortId}
use Rattle.vale_batch.specs.declared.looking.Destination.{Destination}
use Rattle.vale_batch.specs.declared.looking.Destination.TheVariants.{Short, Nobody, Only, Others}
use Rattle.vale_batch.specs.declared.looking.Looked.{Looked}
use Rattle.vale_batch.specs.declared.looking.Taught.{Taught}
use Rattle.vale_batch.specs.declared.alone.Placed.{Placed}
use Rattle.vale_batch.specs.declared.alone.Own.{Own}
use Rattle.vale_batch.specs.declared.lists.Want.{Want}
use Rattle.vale_batch.specs.declared.lists.Dest.{Dest}

-- what contracts see of a want
pub record Wanted : Type 0 where
  pub to : PortId
  pub places : List ℕ
  pub sizes : List ℕ

abbrev pub wanted : Want → Wanted
wanted want = record { to = want.to; places = want.places; sizes = want.sizes }

abbrev pub is_other : PortId → PortId → Bool
is_other from port = not (port.0 == from.0)

-- whether a frame that port `from` sends goes to a port
abbrev pub is_for : PortId → Destination → PortId → Bool
is_for from Short port = false
is_for from Nobody port = false
is_for from (Only to) port = port.0 == to.0
is_for from Others port = is_other from port

abbrev pub goes_to : PortId → PortId → Looked → Bool
goes_to from port looked = is_for from looked.destination port

-- the places of the frames that go to a port, where the first frame has the place `first`
abbrev pub places_from : PortId → PortId → ℕ → List Looked → List ℕ
places_from from port first [] = []
places_from from port first (looked ∷ rest) =
    if goes_to from port looked then first ∷ places_from from port (first + 1) rest else places_from from port (first + 1) rest

abbrev pub size_of : Looked → ℕ
size_of looked = looked.size

abbrev pub sizes_for : PortId → PortId → List Looked → List ℕ
sizes_for from port looked = map size_of (filter (goes_to from port) looked)

-- what a port wants of a batch
abbrev pub want_at : PortId → List Looked → PortId → Wanted
want_at from looked port = record { to = port; places = places_from from port 0 looked; sizes = sizes_for from port looked }

-- a port's want of the frames at these places, of these sizes
abbrev pub want_with : List ℕ → List ℕ → PortId → Wanted
want_with places sizes port = record { to = port; places = places; sizes = sizes }

abbrev pub wants_some : Wanted → Bool
wants_some want = nat_lt 0 (length want.places)

-- what the ports want, without those that want nothing
abbrev pub wants_of : PortId → List Looked → List PortId → List Wanted
wants_of from looked ports = filter wants_some (map (want_at from looked) ports)

abbrev pub is_short_at : Destination → Bool
is_short_at Short = true
is_short_at Nobody = false
is_short_at (Only to) = false
is_short_at Others = false

-- long enough, and for no port of the switch
abbrev pub is_lone_destination : Bool → Destination → Bool
is_lone_destination others Short = false
is_lone_destination others Nobody = true
is_lone_destination others (Only to) = false
is_lone_destination others Others = not others

abbrev pub is_short_destination : Looked → Bool
is_short_destination looked = is_short_at looked.destination

abbrev pub is_lone_if : Bool → Looked → Bool
is_lone_if others looked = is_lone_destination others looked.destination

abbrev pub is_lone : PortId → List PortId → Looked → Bool
is_lone from ports looked = is_lone_if (list_any (is_other from) ports) looked

-- each number is below those after it
abbrev pub IsRising : List ℕ → Type 0
IsRising numbers = (i j d : ℕ) → i < j → j < length numbers → slice_index_or numbers i d < slice_index_or numbers j d

abbrev pub port_number : PortId → ℕ
port_number port = port.0

-- how many frames a port wants
abbrev pub dest_of : Wanted → Dest
dest_of want = record { to = want.to; count = length want.places }

abbrev pub IsFew : Wanted → Type 0
IsFew want = length want.places < 2 ^ 32

-- what contracts see of the lists of a batch, and what it taught, from the first to the last
pub record Classed : Type 0 where
  pub short : ℕ
  pub lone : ℕ
  pub wants : List Wanted
  pub taughts : List Taught

-- the frames that a test picks, each with its place, where the first frame has the place `first`
abbrev pub picked : (Looked → Bool) → ℕ → List Looked → List Placed
picked test first [] = []
picked test first (looked ∷ rest) =
    if test looked then record { place = first; size = looked.size } ∷ picked test (first + 1) rest else picked test (first + 1) rest

-- the test that picks each frame
abbrev pub every : Looked → Bool
every looked = true

abbrev pub is_port : PortId → PortId → Bool
is_port port other = other.0 == port.0

abbrev pub is_flooded_at : Destination → Bool
is_flooded_at Short = false
is_flooded_at Nobody = false
is_flooded_at (Only to) = false
is_flooded_at Others = true

abbrev pub is_flooded : Looked → Bool
is_flooded looked = is_flooded_at looked.destination

abbrev pub is_only : PortId → Destination → Bool
is_only port Short = false
is_only port Nobody = false
is_only port (Only to) = port.0 == to.0
is_only port Others = false

-- whether a frame goes to a port alone
abbrev pub goes_alone : PortId → Looked → Bool
goes_alone port looked = is_only port looked.destination

-- the frames that go to one port alone
pub record Owned : Type 0 where
  pub to : PortId
  pub frames : List Placed

abbrev pub owned : Own → Owned
owned own = record { to = own.to; frames = own.frames.items }

abbrev pub empty_own : PortId → Owned
empty_own port = record { to = port; frames = [] }

abbrev pub own_at : List Looked → PortId → Owned
own_at looked port = record { to = port; frames = picked (goes_alone port) 0 looked }

abbrev pub placed_at : ℕ → Looked → Placed
placed_at place looked = record { place = place; size = looked.size }

abbrev pub with_placed : Placed → Owned → Owned
with_placed placed own = record own { frames = own.frames ++ placed ∷ [] }

-- a port's own frames with one more, if that goes to the port alone
abbrev pub with_frame : Looked → ℕ → Owned → Owned
with_frame looked place own = if goes_alone own.to looked then with_placed (placed_at place looked) own else own

-- a frame goes before the first that stands behind it
abbrev pub merged_into : Placed → (List Placed → List Placed) → List Placed → List Placed
merged_into first rest [] = first ∷ rest []
merged_into first rest (other ∷ others) =
    if nat_lt first.place other.place then first ∷ rest (other ∷ others) else other ∷ merged_into first rest others

-- two rising lists of frames as one
abbrev pub merged : List Placed → List Placed → List Placed
merged [] others = others
merged (first ∷ rest) others = merged_into first (merged rest) others

abbrev pub place_of : Placed → ℕ
place_of placed = placed.place

abbrev pub slots_of : Placed → ℕ
slots_of placed = placed.size

-- the want of a port of its own frames and the flooded ones
abbrev pub want_of : PortId → List Placed → List Placed → Wanted
want_of port own flooded = record { to = port; places = map place_of (merged own flooded); sizes = map slots_of (merged own flooded) }

-- the flooded frames go to all ports but the one that sent them
abbrev pub flooded_to : PortId → List Placed → PortId → List Placed
flooded_to from flooded port = if is_other from port then flooded else []

abbrev pub want_seen : PortId → List Placed → Owned → Wanted
want_seen from flooded own = want_of own.to own.frames (flooded_to from flooded own.to)

abbrev pub number_of : Owned → ℕ
number_of own = own.to.0

abbrev pub numbers_of : List Own → List ℕ
numbers_of all = map number_of (map owned all)

abbrev pub is_to : ℕ → Own → Bool
is_to port own = own.to.0 == port

-- the own frames are those of a port before another
abbrev pub is_before : ℕ → Own → Bool
is_before port own = nat_lt own.to.0 port

-- those at a place are of a port
abbrev pub stands_at : ℕ → ℕ → List Own → Bool
stands_at port at all = option_map_or (is_to port) (slice_get all at) false

abbrev pub is_owned_by : ℕ → Owned → Bool
is_owned_by port own = own.to.0 == port

-- no two are of one port
abbrev pub are_apart : List Owned → Bool
are_apart [] = true
are_apart (own ∷ all) = not (list_any (is_owned_by own.to.0) all) && are_apart all
