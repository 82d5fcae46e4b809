-- Laws of the checks of a sync, and of the exchange that an accepted one makes.
use Rattle.std.specs.Prelude.{ℕ, Bool, ◌≡◌, ◌≢◌, nat_eq, true, List, [], length, map, flat_map, Some}
use Rattle.std.specs.List.{IsDistinct}
use Rattle.nm_types.specs.declared.id.Side.{Side}
use Rattle.nm_types.specs.declared.fault.SyncFault.{SyncFault}
use Rattle.nm_types.specs.declared.place.Place.{Place}
use Rattle.nm_types.specs.Positions.{RingState, FitsRing}
use Rattle.nm_types.specs.declared.id.Side.TheVariants.{Tx}
use Rattle.nm_types.specs.Frames.{Frame}
use Rattle.nm_types.specs.Slots.{Pushed, slot_of_pushed, bytes_in_slot, frame_at, pushed_frames}
use Rattle.nm_types.specs.Sendable.{AreSent}
use Rattle.nm_types.specs.Places.{Held, held_at, is_same_place}
use Rattle.nm_types.specs.Exchange.{exchanged, Naming, after_push, EachBufferOnce, EachIsHeld, EachNamed}
use Rattle.nm_types.specs.SyncFaults.{is_check_fault}
use Rattle.nm_types.specs.SyncChecks.{refusal_of, PassesChecks, EachPasses, NamesOnce}

-- a sync that no check refuses has positions that fit, and each of its slots passes
abbrev pub PassedPositionsFit : Type 0
PassedPositionsFit = (side : Side) (whole : Bool) (pool : ℕ) (named : List ℕ) (ring : RingState) (pushed : List Pushed) → PassesChecks side whole pool named ring pushed → FitsRing ring ring.head ring.cur

abbrev pub PassedSlotsPass : Type 0
PassedSlotsPass = (side : Side) (whole : Bool) (pool : ℕ) (named : List ℕ) (ring : RingState) (pushed : List Pushed) → PassesChecks side whole pool named ring pushed → EachPasses side whole pool named [] 0 pushed

-- and where these hold no check refuses
abbrev pub FittingPasses : Type 0
FittingPasses = (side : Side) (whole : Bool) (pool : ℕ) (named : List ℕ) (ring : RingState) (pushed : List Pushed) → FitsRing ring ring.head ring.cur → EachPasses side whole pool named [] 0 pushed → PassesChecks side whole pool named ring pushed

-- slots that pass name buffers of the session, none of them twice
abbrev pub PassedNamesOnce : Type 0
PassedNamesOnce = (side : Side) (whole : Bool) (pool : ℕ) (named : List ℕ) (pushed : List Pushed) → EachPasses side whole pool named [] 0 pushed → NamesOnce named pushed

-- a refusal is one of the nine after which a ring is reset
abbrev pub RefusalsAreChecks : Type 0
RefusalsAreChecks = (side : Side) (whole : Bool) (pool : ℕ) (named : List ℕ) (ring : RingState) (pushed : List Pushed) (fault : SyncFault) → refusal_of side whole pool named ring pushed ≡ Some fault → is_check_fault fault ≡ true

-- an exchange of a place that holds a buffer: the place then holds the buffer named, the place of that
-- one holds the other, and no other place changes
abbrev pub ExchangeBringsNamed : Type 0
ExchangeBringsNamed = (held : List Held) (place : Place) (idx was : ℕ) → held_at held place ≡ Some was → held_at (exchanged held place idx) place ≡ Some idx

abbrev pub ExchangeGivesBack : Type 0
ExchangeGivesBack = (held : List Held) (place other : Place) (idx was : ℕ) → held_at held place ≡ Some was → held_at held other ≡ Some idx
    → held_at (exchanged held place idx) other ≡ Some was

abbrev pub ExchangeLeavesOthers : Type 0
ExchangeLeavesOthers = (held : List Held) (place other : Place) (idx was b : ℕ) → held_at held place ≡ Some was → held_at held other ≡ Some b → b ≢ was → b ≢ idx
    → held_at (exchanged held place idx) other ≡ Some b

abbrev pub ExchangeKeepsOnce : Type 0
ExchangeKeepsOnce = (held : List Held) (place : Place) (idx was : ℕ) → held_at held place ≡ Some was → EachBufferOnce held → EachBufferOnce (exchanged held place idx)

-- after a push whose slots name no buffer twice each pushed place holds the buffer that its slot names
abbrev pub PushedHoldNames : Type 0
PushedHoldNames = (namings : List Naming) (held : List Held) → EachBufferOnce held → EachIsHeld held namings
    → IsDistinct is_same_place (map (λ (n : Naming). n.place) namings) → IsDistinct nat_eq (map (λ (n : Naming). n.idx) namings)
    → EachNamed (after_push held namings) namings

-- the frames of an accepted push are none longer than frames are, take no more slots than are pushed, and
-- are some where slots are pushed
abbrev pub PushedFramesAreSent : Type 0
PushedFramesAreSent = (bytes_of : ℕ → List ℕ) (whole : Bool) (pool : ℕ) (named : List ℕ) (pushed : List Pushed) → EachPasses Tx whole pool named [] 0 pushed
    → AreSent (pushed_frames bytes_of pushed) (length pushed)

-- and they have all bytes of the slots
abbrev pub PushedBytesAreSent : Type 0
PushedBytesAreSent = (bytes_of : ℕ → List ℕ) (whole : Bool) (pool : ℕ) (named : List ℕ) (pushed : List Pushed) → EachPasses Tx whole pool named [] 0 pushed
    → flat_map (λ (f : Frame). f.bytes) (pushed_frames bytes_of pushed) ≡ flat_map (bytes_in_slot bytes_of) (map slot_of_pushed pushed)

-- where each slot is to be a frame, each is one
abbrev pub WholeSlotsAreFrames : Type 0
WholeSlotsAreFrames = (bytes_of : ℕ → List ℕ) (pool : ℕ) (named : List ℕ) (pushed : List Pushed) → EachPasses Tx true pool named [] 0 pushed
    → pushed_frames bytes_of pushed ≡ map (frame_at bytes_of) (map slot_of_pushed pushed)
