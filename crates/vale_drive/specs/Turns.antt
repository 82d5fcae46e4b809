-- One turn on the way to the end: the entry that comes next is made, or it is another kind's turn.
use Rattle.std.specs.Prelude.{ℕ, Bool, true, false, ◌≡◌, is_some, List, [], Some, None, find, option_map, slice_get}
use Rattle.std.specs.List.{AllByRecursion}
use Rattle.vale_entry.specs.Closing.{is_port_of, shutting_port}
use Rattle.vale_entry.specs.Laws.{id_of_port}
use Rattle.vale_entry.specs.World.{open_port}
use Rattle.vale_book.specs.Recorded.{Recorded, standing}
use Rattle.vale_book.specs.declared.asking.PortSeen.{PortSeen}
use Rattle.vale_serve.specs.declared.users.User.{User}
use Rattle.vale_serve.specs.Joined.{AreUsersOf, IsOwner}
use Rattle.vale_serve.specs.Users.{is_settled_user}
use Rattle.vale_drive.specs.Winding.{IsNextMade, next_ending}

abbrev pub has_offer : User → Bool
has_offer user = is_some user.sent

-- it has no offer
abbrev pub HasGranted : User → Type 0
HasGranted user = has_offer user ≡ false

-- it has neither an offer nor a lease
abbrev pub IsQuiet : User → Type 0
IsQuiet user = is_settled_user user ≡ true

-- the first port of a session
abbrev pub IsFirstPort : Recorded → ℕ → ℕ → Type 0
IsFirstPort b session id = option_map id_of_port (find (is_port_of session) (standing b).world.ports) ≡ Some id

-- the session of this port comes first
pub record IsPortsTurn (b : Recorded) (users : List User) (id : ℕ) : Type 0 where
  pub user : User
  pub first : slice_get users 0 ≡ Some user
  pub port : IsFirstPort b user.id.0 id

-- the port of this id, seen so, was shut and is to go, in its turn: its session stands at the place
pub record IsToGo (b : Recorded) (all : List User) (id : ℕ) (seen : PortSeen) (place : ℕ) : Type 0 where
  pub users : AreUsersOf b all
  pub quiet : AllByRecursion IsQuiet all
  pub first : IsPortsTurn b all id
  pub shut : open_port (standing b).world.ports id ≡ None
  pub owner : IsOwner all (shutting_port (standing b).world.ports id) seen place

abbrev pub IsGrantTurn : Bool → Recorded → Recorded → List User → Type 0
IsGrantTurn true old new users = IsNextMade old new
IsGrantTurn false old new users = (new ≡ old) × AllByRecursion HasGranted users

abbrev pub IsDoneTurn : Bool → Recorded → Recorded → List User → Type 0
IsDoneTurn true old new users = IsNextMade old new
IsDoneTurn false old new users = (new ≡ old) × AllByRecursion IsQuiet users

abbrev pub IsLastTurn : Bool → Recorded → Recorded → Type 0
IsLastTurn true old new = IsNextMade old new
IsLastTurn false old new = (new ≡ old) × (next_ending (standing new) ≡ None) × ((standing new).world.sessions ≡ [])
