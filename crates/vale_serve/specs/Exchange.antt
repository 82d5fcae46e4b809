-- Buffers of a session go, others come, and offers are made.
use Rattle.std.specs.Prelude.{ℕ, ◌≡◌, ◌≤◌, ◌+◌, List, ◌++◌, length, take, vec_capacity, Vec}
use Rattle.std.specs.declared.alloc.Global.{Global}
use Rattle.nm_region.specs.Buffers.{Buffer}
use Rattle.vale_line.specs.declared.got.Got.{Got}
use Rattle.vale_line.specs.Gots.{buffers_of, frames_in}
use Rattle.vale_book.specs.Offering.{OffersState}
use Rattle.vale_serve.specs.declared.users.User.{User}
use Rattle.vale_serve.specs.Buffers.{AreTaken}
use Rattle.vale_serve.specs.Users.{contents, HasSent}
use Rattle.std.specs.List.Sorted.{IsPermutation, IsNonDecreasingBy}

-- these were taken out of its buffers
pub record HasTakenOut (old : User) (named : List ℕ) (taken : List Buffer) (new : User) : Type 0 where
  pub id : new.id ≡ old.id
  pub leases : new.leases ≡ old.leases
  pub sent : new.sent ≡ old.sent
  pub rooms : new.rooms ≡ old.rooms
  pub bufs : AreTaken old.bufs.items named taken new.bufs.items
  pub capacity : vec_capacity old.bufs ≤ vec_capacity new.bufs

-- it has these too
pub record HasMore (old : User) (more : List Buffer) (new : User) : Type 0 where
  pub id : new.id ≡ old.id
  pub leases : new.leases ≡ old.leases
  pub sent : new.sent ≡ old.sent
  pub rooms : new.rooms ≡ old.rooms
  pub bufs : new.bufs.items ≡ old.bufs.items ++ more

-- it has the buffers of what was given, and what is offered of it, with copies of so many frames
pub record HasRead (old : User) (gots : List Got) (offers : OffersState) (copies : ℕ) (new : User) : Type 0 where
  pub between : User
  pub more : HasMore old (buffers_of gots) between
  pub frames : Vec (Vec ℕ Global) Global
  pub copied : contents frames.items ≡ take copies (frames_in gots)
  pub sent : HasSent between offers frames new

-- there is room for so many buffers more, and for a lease
pub record HasRoomFor (count : ℕ) (user : User) : Type 0 where
  pub bufs : length user.bufs.items + count ≤ vec_capacity user.bufs
  pub lease : length user.leases.items + 1 ≤ vec_capacity user.leases

abbrev pub index_of : Buffer → ℕ
index_of buf = buf.index

-- its buffers rise by index, and it has what it had
pub record HasSorted (old new : User) : Type 0 where
  pub id : new.id ≡ old.id
  pub leases : new.leases ≡ old.leases
  pub sent : new.sent ≡ old.sent
  pub rooms : new.rooms ≡ old.rooms
  pub bufs : IsPermutation old.bufs.items new.bufs.items
  pub rise : IsNonDecreasingBy index_of new.bufs.items
