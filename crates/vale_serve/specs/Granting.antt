-- The grant of the next offer of a session, with its lease filled.
use Rattle.std.specs.Prelude.{true, ◌≡◌, ◌≤◌, List, [], ◌∷◌, ◌++◌, None, vec_capacity, length, drop, slice_get, Option, Some, IfSome, IfNone, option_map}
use Rattle.nm_types.specs.declared.id.PortId.{PortId}
use Rattle.vale_batch.specs.Wants.{Wanted}
use Rattle.vale_line.specs.Leased.{Leased}
use Rattle.vale_entry.specs.declared.entry.Ask.TheVariants.{Grant}
use Rattle.vale_entry.specs.declared.entry.Reply.{Reply}
pub use Rattle.vale_entry.specs.Grant.{given_in}
use Rattle.vale_entry.specs.Legal.{step, reply_of, IsLegal}
use Rattle.vale_port.specs.Kept.{bytes_of}
use Rattle.vale_book.specs.Offering.{OffersStand}
use Rattle.vale_book.specs.Recorded.{Recorded, standing, after_ask, HasRoom}
use Rattle.vale_book.specs.Leases.{IsLeaseBy}
use Rattle.vale_serve.specs.declared.users.Sent.{Sent}
use Rattle.vale_serve.specs.declared.users.User.{User}
use Rattle.vale_serve.specs.Filling.{IsFilledWith}
use Rattle.vale_serve.specs.Users.{contents, next_is}

-- some offers stand still in a legal history, and their frames are at hand
pub record CanGrant (b : Recorded) (sent : Sent) : Type 0 where
  pub legal : IsLegal b.pool b.entries
  pub stand : OffersStand (standing b) sent.offers
  pub some : 1 ≤ length sent.offers.wants
  pub bytes : contents sent.frames.items ≡ bytes_of stand.frames

-- the grant gave a lease, which is filled with the frames that were wanted first
pub record IsLeased (old new : Recorded) (sent : Sent) (lease : Leased) : Type 0 where
  pub given : Leased
  pub want : Wanted
  pub first : slice_get sent.offers.wants 0 ≡ Some want
  pub gives : IsLeaseBy old sent.offers.entry (length new.entries) given
  pub filled : IsFilledWith given want.places (contents sent.frames.items) lease

-- the next offer was granted, and is an offer no more
pub record HasGranted (old new : Recorded) (sent left : Sent) (reply : Reply) (lease : Option Leased) : Type 0 where
  pub to : PortId
  pub first : next_is to.0 sent.offers.wants ≡ true
  pub made : new ≡ after_ask old (Grant sent.offers.entry to)
  pub said : option_map reply_of (step (standing old) (Grant sent.offers.entry to)) ≡ Some reply
  pub room : HasRoom old (Grant sent.offers.entry to)
  pub left_is : left ≡ record sent { offers = record sent.offers { wants = drop 1 sent.offers.wants } }
  pub leased : IfSome lease (IsLeased old new sent)
  pub none : IfNone lease (given_in reply ≡ 0)

abbrev pub listed : Option Leased → List Leased
listed None = []
listed (Some lease) = lease ∷ []

-- the session has a lease more, if there is one
pub record AddsLease (old : User) (lease : Option Leased) (new : User) : Type 0 where
  pub id : new.id ≡ old.id
  pub bufs : new.bufs ≡ old.bufs
  pub sent : new.sent ≡ old.sent
  pub rooms : new.rooms ≡ old.rooms
  pub leases : new.leases.items ≡ old.leases.items ++ listed lease
  pub capacity : vec_capacity new.leases ≡ vec_capacity old.leases
