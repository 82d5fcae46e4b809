-- A book, and outside of it what is each session's own.
use Rattle.std.specs.Prelude.{ℕ, ◌≡◌, ◌<◌, List, Some, None, length, map, slice_get, Option}
use Rattle.std.specs.List.{AllByRecursion}
use Rattle.vale_book.specs.declared.asking.PortSeen.{PortSeen}
use Rattle.vale_entry.specs.World.{Port}
use Rattle.vale_entry.specs.Legal.{IsLegal}
use Rattle.vale_book.specs.Recorded.{Recorded, standing}
use Rattle.vale_serve.specs.declared.users.User.{User}
use Rattle.vale_serve.specs.Users.{id_of_user, IsUser, IsAsker}

pub record AreUsersOf (b : Recorded) (users : List User) : Type 0 where
  pub legal : IsLegal b.pool b.entries
  pub ids : map id_of_user users ≡ (standing b).world.sessions
  pub each : AllByRecursion (IsUser b) users

-- the port that is looked for is there, seen so, and its session stands at the place
pub record IsOwner (users : List User) (found : Option Port) (seen : PortSeen) (place : ℕ) : Type 0 where
  pub user : User
  pub here : slice_get users place ≡ Some user
  pub within : place < length users
  pub asker : IsAsker user found seen

-- that port and its session's place, where the port is there
abbrev pub HasOwner : List User → Option Port → Option (PortSeen × ℕ) → Type 0
HasOwner users found (Some owner) = IsOwner users found owner.0 owner.1
HasOwner users found None = found ≡ None

-- a session of a legal book asks at the port that is looked for, which is there, seen so, and its own
pub record AsksAt (b : Recorded) (who : User) (found : Option Port) (seen : PortSeen) : Type 0 where
  pub legal : IsLegal b.pool b.entries
  pub user : IsUser b who
  pub asker : IsAsker who found seen
