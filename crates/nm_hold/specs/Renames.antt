-- The buffers in several slots, which become named ones or are no longer.
use Rattle.std.specs.Prelude.{ℕ, Bool, if◌then◌else◌, List, map, fold, Option, option_map, slice_index_or, slice_set}
use Rattle.std.specs.List.{list_any}
use Rattle.nm_types.specs.declared.id.PortId.{PortId}
use Rattle.nm_types.specs.declared.place.Place.{Place}
use Rattle.nm_types.specs.declared.place.Place.TheVariants.{Tx}
use Rattle.nm_types.specs.Places.{is_same_place}
use Rattle.nm_types.specs.Positions.{slots_from}
use Rattle.nm_hold.specs.declared.standing.Standing.{Standing}
use Rattle.nm_hold.specs.Standings.{cell_named}
use Rattle.nm_hold.specs.Holds.{HoldState, cell_at}

-- a cell as it is, but for its buffer's name if that stands in one of these places
abbrev pub cell_named_in : Bool → List Place → Option Standing → Option Standing
cell_named_in named places cell =
    option_map (λ (s : Standing). record s { home = record { place = s.home.place; named = if list_any (λ p. is_same_place p s.home.place) places then named else s.home.named } }) cell

abbrev pub with_places_named : Bool → List Place → HoldState → HoldState
with_places_named named places h = record h { cells = map (cell_named_in named places) h.cells }

-- the transmit slots of a port from a position on, so many, going round
abbrev pub tx_slots : PortId → ℕ → ℕ → ℕ → List Place
tx_slots port size first count = map (Tx port) (slots_from size first count)

-- the same by the numbers in the slots, one after another
abbrev pub cells_named : Bool → List (Option Standing) → ℕ → List (Option Standing)
cells_named named cells idx = slice_set cells idx (cell_named named (cell_at cells idx))

abbrev pub cells_renamed : Bool → List ℕ → List ℕ → List (Option Standing) → List (Option Standing)
cells_renamed named numbers slots cells = fold (cells_named named) cells (map (λ (at : ℕ). slice_index_or numbers at 0) slots)
