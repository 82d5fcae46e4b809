-- What an entry's frames are wanted for, and what a grant of it gives.
use Rattle.std.specs.Prelude.{ℕ, ◌≡◌, ◌<◌, ◌^◌, List, length, map, reverse, sum, slice_get, Some}
use Rattle.std.specs.List.{AllByRecursion}
use Rattle.nm_types.specs.Frames.{Frame}
use Rattle.vale_batch.specs.declared.lists.Want.{Want}
use Rattle.vale_batch.specs.Wants.{Wanted, wanted}
use Rattle.vale_line.specs.Leased.{Leased}
use Rattle.vale_entry.specs.World.{Offer, open_port}
use Rattle.vale_entry.specs.Legal.{Standing}
use Rattle.vale_port.specs.Seat.{Seat}
use Rattle.vale_port.specs.Ports.{IsLeaseFor, IsFilledFor}
use Rattle.vale_parts.specs.Offering.{OffersAre, offers_at}
use Rattle.vale_steps.specs.declared.offers.Offers.TheInside.{Inside}
use Rattle.nm_region.specs.Regions.{AreOf}

-- the entry, its session, how many of its frames were short and how many lone, and what is wanted of
-- them still, in the order of the grants
pub record OffersState : Type 0 where
  pub entry : ℕ
  pub session : ℕ
  pub short : ℕ
  pub lone : ℕ
  pub wants : List Wanted

abbrev pub offers_seen : Inside → OffersState
offers_seen o = record { entry = o.entry; session = o.session.0; short = o.short; lone = o.lone; wants = reverse (map wanted o.wants.items) }

abbrev pub slots_wanted : Wanted → ℕ
slots_wanted want = sum want.sizes

abbrev pub slots_in : Want → ℕ
slots_in want = slots_wanted (wanted want)

abbrev pub HasFewFrames : Want → Type 0
HasFewFrames want = length want.sizes < 2 ^ 32

-- there is room for the lease of each, and each is of fewer than 2^32 frames
pub record IsOffers (o : Inside) : Type 0 where
  pub rooms : o.rooms.items ≡ map slots_in o.wants.items
  pub few : AllByRecursion HasFewFrames o.wants.items

abbrev pub IsOfferBy : ℕ → Offer → Type 0
IsOfferBy session offer = offer.session ≡ session

-- these are the offers of the entry that are not granted, of some frames, and all by its session
pub record OffersStand (s : Standing) (o : OffersState) : Type 0 where
  pub frames : List Frame
  pub are : OffersAre s.world o.entry frames o.wants
  pub by : AllByRecursion (IsOfferBy o.session) (offers_at s.world o.entry)

-- a port with what the holdings say of its buffers
pub record SeatAt (s : Standing) (seat : Seat) : Type 0 where
  pub place : ℕ
  pub port_here : slice_get s.world.ports place ≡ Some seat.port
  pub held_here : slice_get s.holdings.ports place ≡ Some seat.held

-- the lease that the grant of an offer gives, as the entry of this number
pub record IsLeaseOf (s : Standing) (region number : ℕ) (offer : Offer) (lease : Leased) : Type 0 where
  pub seat : Seat
  pub at : SeatAt s seat
  pub is_open : open_port s.world.ports offer.to ≡ Some seat.port
  pub is : IsLeaseFor number offer seat lease
  pub region_is : AreOf region lease.empty

-- a lease that is filled with the frames of its lot, in the lot's buffers
pub record IsFilledIn (s : Standing) (lease : Leased) : Type 0 where
  pub seat : Seat
  pub at : SeatAt s seat
  pub to : lease.to ≡ seat.port.id
  pub filled : IsFilledFor seat lease
