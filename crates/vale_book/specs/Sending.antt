-- What is offered of a send.
use Rattle.std.specs.Prelude.{◌≡◌, List, length}
use Rattle.nm_types.specs.Frames.{Frame}
use Rattle.vale_steps.specs.Offering.{OffersState, OffersStand}
use Rattle.vale_own.specs.Recorded.{Recorded, standing}

-- what is offered of a send that was made: its frames, as those of the last entry
pub record IsSent (new : Recorded) (frames : List Frame) (offers : OffersState) : Type 0 where
  pub entry : offers.entry ≡ length new.entries
  pub stand : OffersStand (standing new) offers
  pub frames_are : stand.frames ≡ frames
