-- Where a place stands among the places of its port.
use Rattle.std.specs.Prelude.{ℕ, ◌≡◌, Bool, ◌&&◌, ◌||◌, false, ◌==◌, nat_lt, ◌+◌, ◌≤◌, if◌then◌else◌, List, [], ◌∷◌, Option, Some, None, is_some}
use Rattle.std.specs.List.{list_any}
use Rattle.nm_types.specs.Limits.{most_extra, most_ring}
use Rattle.nm_types.specs.declared.place.Place.{Place}
use Rattle.nm_types.specs.declared.place.Place.TheVariants.{Tx, Rx, Extra}
use Rattle.nm_types.specs.declared.id.PortSizes.{PortSizes}
use Rattle.nm_hold.specs.declared.table.PortPlaces.{PortPlaces}

abbrev pub count_of : PortSizes → ℕ
count_of sizes = sizes.tx + sizes.rx + sizes.extra

-- no size is above the greatest of a ring, or of a port's extra buffers
pub record AreSizes (sizes : PortSizes) : Type 0 where
  pub tx : sizes.tx ≤ most_ring
  pub rx : sizes.rx ≤ most_ring
  pub extra : sizes.extra ≤ most_extra

abbrev pub offset_of : PortPlaces → Place → Option ℕ
offset_of p (Tx port slot) = if (port.0 == p.port.0) && nat_lt slot p.sizes.tx then Some slot else None
offset_of p (Rx port slot) = if (port.0 == p.port.0) && nat_lt slot p.sizes.rx then Some (p.sizes.tx + slot) else None
offset_of p (Extra port at) = if (port.0 == p.port.0) && nat_lt at p.sizes.extra then Some (p.sizes.tx + p.sizes.rx + at) else None

-- whether a place is one of these ports'
abbrev pub has_place : List PortPlaces → Place → Bool
has_place [] place = false
has_place (p ∷ ports) place = is_some (offset_of p place) || has_place ports place

abbrev pub has_port : List PortPlaces → ℕ → Bool
has_port ports port = list_any (λ (p : PortPlaces). p.port.0 == port) ports

-- no port is there twice
abbrev pub ArePortsOnce : List PortPlaces → Type 0
ArePortsOnce [] = Unit {0}
ArePortsOnce (p ∷ ports) = (has_port ports p.port.0 ≡ false) × ArePortsOnce ports
