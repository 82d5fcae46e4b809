-- A port's extra buffers in a hold, and where each links to.
use Rattle.std.specs.Prelude.{ℕ, ◌==◌, if◌then◌else◌, List, Option, Some, None}
use Rattle.std.specs.List.{range_with_len, filter_map}
use Rattle.std.specs.Option.{option_map_or}
use Rattle.nm_types.specs.declared.id.PortId.{PortId}
use Rattle.nm_types.specs.declared.place.Place.{Place}
use Rattle.nm_types.specs.declared.place.Place.TheVariants.{Tx, Rx, Extra}
use Rattle.nm_types.specs.Chain.{link_of}
use Rattle.nm_region.specs.Buffers.{Buffer}
use Rattle.nm_hold.specs.Holds.{HoldState, index_at, place_at, buffer_at, extra_of}

-- the buffers in a port's extra positions, in their order
abbrev pub extras_of : HoldState → PortId → List ℕ
extras_of h port = filter_map (λ (at : ℕ). index_at h (Extra port at)) (range_with_len 0 (extra_of h.ports port.0))

-- the link in the buffer of an index
abbrev pub link_at : HoldState → ℕ → ℕ
link_at h idx = option_map_or (λ (b : Buffer). link_of b.bytes) (buffer_at h idx) 0

-- the extra position of a port that a place is
abbrev pub position_in : PortId → Option Place → Option ℕ
position_in port None = None
position_in port (Some (Tx other slot)) = None
position_in port (Some (Rx other slot)) = None
position_in port (Some (Extra other at)) = if other.0 == port.0 then Some at else None

abbrev pub position_at : HoldState → PortId → ℕ → Option ℕ
position_at h port idx = position_in port (place_at h idx)
