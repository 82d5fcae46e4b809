-- Laws of a user's own side.
use Rattle.std.specs.Prelude.{ℕ, ◌≡◌, ◌<◌, true, List, [], length, fold, Some, None}
use Rattle.nm_types.specs.declared.id.Side.TheVariants.{Rx}
use Rattle.nm_types.specs.Positions.{IsRing, kernel_count}
use Rattle.nm_types.specs.OwnPorts.{OwnRing, OwnState, Arrival, ring_at, refusal_at}
use Rattle.nm_types.specs.OwnSyncs.{own_after_receive}
use Rattle.nm_port.specs.Receives.{can_receive, own_with_arrival}

-- parts of frames that are published one after another are those of a receive sync that brings all
abbrev pub FramesComeOneByOne : Type 0
FramesComeOneByOne = (id : ℕ) (came : List Arrival) (s : OwnState) → fold (own_with_arrival id) (own_after_receive id [] s) came ≡ own_after_receive id came s

-- while fewer parts came than there are slots for, one more can be published
abbrev pub RoomForFrames : Type 0
RoomForFrames = (id : ℕ) (came : List Arrival) (s : OwnState) (r : OwnRing) → ring_at Rx s id ≡ Some r → IsRing r.ring → refusal_at Rx id s ≡ None
    → length came < kernel_count r.ring.size r.ring.head r.ring.last_tail → can_receive id (own_after_receive id came s) ≡ true
