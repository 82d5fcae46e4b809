-- A session as its caller sees it, and what holds of it between two calls.
use Rattle.std.specs.Prelude.{ℕ, true, ◌≡◌, ◌≤◌, length, Option, Some, None}
use Rattle.nm_turn.specs.Numbered.{Stands}
use Rattle.nm_types.specs.OwnPorts.{OwnState, empty_own}
use Rattle.nm_port.specs.Regions.{SideState, AllOf}
use Rattle.vale_entry.specs.Legal.{Standing, IsLegal}
use Rattle.vale_own.specs.Own.{own_of, is_settled_own}
use Rattle.vale_own.specs.Side.{IsSoundSideOf}
use Rattle.vale_book.specs.Recorded.{standing}
use Rattle.vale_fabric.specs.declared.fabric.Fabric.{Fabric}
use Rattle.vale_fabric.specs.declared.kept.Fixed.{Fixed}
use Rattle.vale_fabric.specs.Fabrics.{Knowing, IsPassIn, fixed_in, knowing, seen_in}
use Rattle.nm_user.specs.declared.session.Session.TheInside.{Inside}

-- its fabric and what never changes of it, what its pass knows, its number, whose it is, and what it has
-- on its own side
pub record SessionState : Type 0 where
  pub fabric : Fabric
  pub fixed : Fixed
  pub knows : Knowing
  pub id : ℕ
  pub user : ℕ
  pub own : OwnState

-- an own side that is away has nothing
abbrev pub own_in : Option SideState → OwnState
own_in None = empty_own 0
own_in (Some side) = side.own

abbrev pub session_seen : Inside → SessionState
session_seen s = record { fabric = s.fabric.now; fixed = fixed_in s.fabric.now; knows = knowing s.pass; id = s.id.0; user = s.user; own = own_in s.own }

-- all that stands, as the session has seen it last
abbrev pub standing_seen : Fixed → Knowing → Standing
standing_seen fixed v = standing (seen_in fixed v)

-- by what its pass has seen the session is there, it has just what is on its own side, and neither an
-- offer nor a lease; one of its ports may be shut
pub record IsThere (shut : Option ℕ) (s : SessionState) : Type 0 where
  pub come : s.id ≤ length s.knows.seen
  pub speaks : Stands s.id s.knows.mine
  pub legal : IsLegal s.fixed.pool s.knows.seen
  pub side : IsSoundSideOf s.fixed.pool s.id shut (own_of s.id (standing_seen s.fixed s.knows)) s.own
  pub settled : is_settled_own (own_of s.id (standing_seen s.fixed s.knows)) ≡ true

-- its own side is there between two calls, and its buffers are of the fabric's region
pub record IsSession (s : Inside) : Type 0 where
  pub pass : IsPassIn s.fabric.now s.pass
  pub own : SideState
  pub own_is : s.own ≡ Some own
  pub region : AllOf (fixed_in s.fabric.now).region own
  pub there : IsThere None (session_seen s)
