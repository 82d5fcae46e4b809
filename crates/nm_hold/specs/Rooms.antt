-- Room for one more port of a hold: its sizes, and for how many ports there is room, this one among them.
use Rattle.std.specs.Prelude.{ℕ, ◌≡◌, []}
use Rattle.nm_types.specs.declared.id.PortSizes.{PortSizes}
use Rattle.nm_hold.specs.Ties.{IsBlank}
use Rattle.nm_hold.specs.declared.hold.PortRoom.TheInside.{Inside}

pub record RoomState : Type 0 where
  pub sizes : PortSizes
  pub ports : ℕ

pub record IsRoom (r : Inside) : Type 0 where
  pub blank : IsBlank r.table
  pub none : r.ports.tables ≡ []
