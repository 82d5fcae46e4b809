-- The table of a port's places: at each, the index of the buffer there, or 0.
use Rattle.std.specs.Prelude.{ℕ, ◌≡◌, ◌+◌, List, [], ◌∷◌, length, map, slice_index, slice_range, Option, Some, None}
use Rattle.std.specs.Option.{option_map_or}
use Rattle.std.specs.Vec.{with_item}
use Rattle.nm_types.specs.declared.id.Side.{Side}
use Rattle.nm_types.specs.declared.id.Side.TheVariants.{Tx, Rx}
use Rattle.nm_types.specs.declared.place.Place.{Place}
use Rattle.nm_hold.specs.declared.table.PortPlaces.{PortPlaces}
use Rattle.nm_hold.specs.declared.table.PortTable.{PortTable}
use Rattle.nm_hold.specs.Offsets.{count_of, offset_of, AreSizes}

pub record IsTable (t : PortTable) : Type 0 where
  pub sizes : AreSizes t.places.sizes
  pub full : length t.numbers.items ≡ count_of t.places.sizes

abbrev pub ports_of : List PortTable → List PortPlaces
ports_of tables = map (λ (t : PortTable). t.places) tables

-- the number at a place of this port
abbrev pub number_in : PortTable → Place → ℕ
number_in t place = option_map_or (λ at. slice_index t.numbers.items at) (offset_of t.places place) 0

-- the number at a place, in the first table that has the place
abbrev pub number_at : List PortTable → Place → ℕ
number_at [] place = 0
number_at (t ∷ tables) place = option_map_or (λ at. slice_index t.numbers.items at) (offset_of t.places place) (number_at tables place)

abbrev pub put_in : Place → ℕ → PortTable → PortTable
put_in place number t = option_map_or (λ at. record t { numbers = with_item t.numbers at number }) (offset_of t.places place) t

-- the numbers at the slots of a side
abbrev pub slots_in : PortTable → Side → List ℕ
slots_in t Tx = slice_range t.numbers.items 0 t.places.sizes.tx
slots_in t Rx = slice_range t.numbers.items t.places.sizes.tx (t.places.sizes.tx + t.places.sizes.rx)

-- how many places of a row's port stand before the slots of a side
abbrev pub places_before : Side → Option PortTable → ℕ
places_before side None = 0
places_before Tx (Some t) = 0
places_before Rx (Some t) = t.places.sizes.tx
