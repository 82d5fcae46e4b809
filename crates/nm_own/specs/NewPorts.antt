-- A port that may be opened, with the memory for it.
use Rattle.std.specs.Prelude.{ℕ, ◌<◌, List, length}
use Rattle.nm_types.specs.declared.id.PortSizes.{PortSizes}
use Rattle.nm_types.specs.OwnPorts.{OwnState}

-- its name and sizes, and for how many ports there is room, this one among them
pub record NewPortState : Type 0 where
  pub name : List ℕ
  pub sizes : PortSizes
  pub ports : ℕ

-- a session with no more ports than those besides which there is room for this one
abbrev pub HasRoomFor : OwnState → NewPortState → Type 0
HasRoomFor s new = length s.ports < new.ports
