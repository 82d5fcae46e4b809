-- The buffers with which a port goes are taken from its session's, in memory that was kept for it.
use Rattle.std.specs.Prelude.{ℕ, true, ◌≡◌, ◌≤◌, List, length, slice_get, Some}
use Rattle.std.specs.List.{AllByRecursion, list_any, remove}
use Rattle.nm_region.specs.Buffers.{Buffer}
use Rattle.vale_serve.specs.declared.users.Room.{Room}
use Rattle.vale_serve.specs.declared.users.User.{User}
use Rattle.vale_serve.specs.Buffers.{AreTaken}
use Rattle.vale_serve.specs.Users.{IsRoom, is_room_of, most_due}

-- memory for these buffers is there, kept for the port
pub record HasRoomForPort (id : ℕ) (named : List ℕ) (user : User) : Type 0 where
  pub few : length named ≤ most_due
  pub some : list_any (is_room_of id) user.rooms.items ≡ true
  pub rooms : AllByRecursion IsRoom user.rooms.items

-- the room of a port is taken from its place
pub record HasLostRoom (old : List Room) (id : ℕ) (new : List Room) : Type 0 where
  pub place : ℕ
  pub room : Room
  pub here : slice_get old place ≡ Some room
  pub port_is : room.port.0 ≡ id
  pub left : new ≡ remove old place

pub record HasTakenForPort (port : ℕ) (old : User) (named : List ℕ) (taken : List Buffer) (new : User) : Type 0 where
  pub id : new.id ≡ old.id
  pub leases : new.leases ≡ old.leases
  pub sent : new.sent ≡ old.sent
  pub bufs : AreTaken old.bufs.items named taken new.bufs.items
  pub rooms : HasLostRoom old.rooms.items port new.rooms.items
