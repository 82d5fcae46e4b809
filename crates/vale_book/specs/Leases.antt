-- Leases of a book: what a grant gives, and what a lease that is done must hold.
use Rattle.std.specs.Prelude.{ℕ, Bool, true, false, ◌≡◌, ◌-◌, ◌==◌, List, [], ◌++◌, find, length, map, sum, slice_get, Some}
use Rattle.nm_types.specs.Frames.{Frame, size_of_frames}
use Rattle.nm_region.specs.Buffers.{indices_of, names_of}
use Rattle.vale_line.specs.Gots.{IsCut, buffers_of}
use Rattle.vale_line.specs.Leased.{Leased, buffer_count}
use Rattle.vale_entry.specs.declared.entry.Ask.{Ask}
use Rattle.vale_entry.specs.declared.entry.Ask.TheVariants.{Grant}
use Rattle.vale_entry.specs.declared.entry.Entry.{Entry}
use Rattle.vale_entry.specs.World.{Offer}
use Rattle.vale_entry.specs.Grant.{first_offer}
use Rattle.vale_entry.specs.Delivery.{is_lease}
use Rattle.vale_entry.specs.Legal.{Standing, is_met}
use Rattle.vale_own.specs.Own.{HeldLot, own_of}
use Rattle.vale_port.specs.Ports.{sizes_of}
use Rattle.vale_port.specs.Kept.{bytes_of, kept_gots, world_frames}
use Rattle.nm_region.specs.Regions.{AreOf}
use Rattle.vale_steps.specs.Offering.{OffersState, OffersStand, IsLeaseOf}
use Rattle.vale_own.specs.Recorded.{Recorded, standing}

-- what is offered of these frames
pub record StandOf (s : Standing) (o : OffersState) (frames : List Frame) : Type 0 where
  pub stand : OffersStand s o
  pub frames_are : stand.frames ≡ frames

-- the lease that the grant of an entry's first offer gave, as the entry of this number
abbrev pub IsLeaseBy : Recorded → ℕ → ℕ → Leased → Type 0
IsLeaseBy b origin number lease = (offer : Offer) → first_offer (standing b).world origin ≡ Some offer → IsLeaseOf (standing b) b.region number offer lease

-- the entry of that number is a Grant to this port
abbrev pub grants_to : ℕ → Ask → Bool
grants_to id (Grant origin to) = to.0 == id
grants_to id _ = false

abbrev pub is_grant_to : ℕ → Entry → Bool
is_grant_to id entry = grants_to id entry.ask

abbrev pub WasGranted : List Entry → ℕ → ℕ → Type 0
WasGranted history number id = is_met (is_grant_to id) (slice_get history (number - 1)) ≡ true

abbrev pub is_held_as : ℕ → HeldLot → Bool
is_held_as number held = is_lease number held.0

-- the lease is one of the session's own, which the Grant of its number gave: it has a size for each frame
-- of its lot, and the lot's buffers, and nothing is filled in yet
pub record IsHeldBy (b : Recorded) (session : ℕ) (lease : Leased) : Type 0 where
  pub held : HeldLot
  pub own : find (is_held_as lease.id) (own_of session (standing b)).leases ≡ Some held
  pub granted : WasGranted b.entries lease.id lease.to
  pub sizes : lease.sizes ≡ sizes_of held.0.frames
  pub buffers : indices_of lease.empty ≡ held.1
  pub none : lease.filled ≡ []
  pub slots : buffer_count lease ≡ size_of_frames held.0.frames
  pub region_is : AreOf b.region lease.empty

-- and its lot is the frames at these places among others
pub record IsHeldFor (b : Recorded) (session : ℕ) (lease : Leased) (frames : List (List ℕ)) (places : List ℕ) : Type 0 where
  pub is : IsHeldBy b session lease
  pub frames_are : map (slice_get frames) places ≡ map Some (bytes_of is.held.0.frames)

-- so it is one of some session's own
pub record IsToFill (lease : Leased) (frames : List (List ℕ)) (places : List ℕ) : Type 0 where
  pub book : Recorded
  pub session : ℕ
  pub is : IsHeldFor book session lease frames places

-- a lease that frames were filled in keeps the buffers that it began with: whole frames lie in the first
-- ones, and the others are for the frames that are still to be filled in
pub record KeepsBuffers (start lease : Leased) : Type 0 where
  pub cut : IsCut lease.filled
  pub left : length lease.empty ≡ sum lease.sizes
  pub names : names_of (buffers_of lease.filled ++ lease.empty) ≡ names_of start.empty

-- of the session's own leases this one, which the Grant of its number gave, is filled with the frames of
-- its lot, in the lot's buffers
pub record IsFilledBy (b : Recorded) (session : ℕ) (lease : Leased) : Type 0 where
  pub held : HeldLot
  pub own : find (is_held_as lease.id) (own_of session (standing b)).leases ≡ Some held
  pub granted : WasGranted b.entries lease.id lease.to
  pub filled : world_frames held.0 held.1 ≡ kept_gots lease.filled
