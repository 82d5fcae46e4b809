-- A desk as its caller sees it, and what ties it to a book.
use Rattle.std.specs.Prelude.{ℕ, ◌≡◌, List, [], Option, Some, None, option_map}
use Rattle.nm_types.specs.declared.id.PortId.{PortId}
use Rattle.nm_types.specs.OwnPorts.{OwnState, empty_own}
use Rattle.nm_port.specs.Regions.{SideState, AllOf}
use Rattle.vale_own.specs.SideAsks.{HasSide}
use Rattle.vale_own.specs.Recorded.{Recorded}
use Rattle.nm_desk.specs.declared.desk.Desk.TheInside.{Inside}

-- its number, the port that is shut and has not gone, what it has on its own side, and the region of
-- each of its buffers, by rising index
pub record DeskState : Type 0 where
  pub id : ℕ
  pub shut : Option ℕ
  pub own : OwnState
  pub regions : List ℕ

abbrev pub number_of : PortId → ℕ
number_of port = port.0

-- an own side that is away has nothing
abbrev pub side_in : Option SideState → SideState
side_in None = record { own = empty_own 0; regions = [] }
side_in (Some side) = side

abbrev pub desk_of : ℕ → Option ℕ → SideState → DeskState
desk_of id shut side = record { id = id; shut = shut; own = side.own; regions = side.regions }

abbrev pub desk_seen : Inside → DeskState
desk_seen d = desk_of d.id.0 (option_map number_of d.shut) (side_in d.own)

-- its own side is there between two calls
pub record IsWhole (d : Inside) : Type 0 where
  pub own : SideState
  pub own_is : d.own ≡ Some own

abbrev pub side_of : DeskState → SideState
side_of d = record { own = d.own; regions = d.regions }

-- by the record the desk is a session that is there, which has just what is on the desk's own side, and
-- its buffers are of the book's region
pub record IsDeskOf (b : Recorded) (d : DeskState) : Type 0 where
  pub side : HasSide b.pool b.entries d.id d.shut d.own
  pub region : AllOf b.region (side_of d)
