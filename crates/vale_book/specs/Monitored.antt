-- What stands of an entry's frames that are offered to the monitor of a port alone.
use Rattle.std.specs.Prelude.{ℕ, ◌≡◌, List, [], length, Option}
use Rattle.nm_types.specs.Frames.{Frame}
use Rattle.vale_parts.specs.Batches.{wants_monitored}
use Rattle.vale_steps.specs.Offering.{OffersState, OffersStand}
use Rattle.vale_own.specs.Recorded.{Recorded, standing}

-- frames that the last entry brought, offered to a monitor alone
pub record IsOfferedTo (new : Recorded) (session : ℕ) (monitor : Option ℕ) (frames : List Frame) (offers : OffersState) : Type 0 where
  pub entry : offers.entry ≡ length new.entries
  pub session_is : offers.session ≡ session
  pub short : offers.short ≡ 0
  pub lone : offers.lone ≡ 0
  pub wants : offers.wants ≡ wants_monitored monitor frames []
  pub stand : OffersStand (standing new) offers
  pub frames_are : stand.frames ≡ frames
