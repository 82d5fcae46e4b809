-- Buffers that are taken out of several slots of a port, one after another.
use Rattle.std.specs.Prelude.{ℕ, ◌≡◌, if◌then◌else◌, List, [], ◌∷◌, ◌++◌, length, reverse, Some, None}
use Rattle.nm_types.specs.declared.place.Place.{Place}
use Rattle.nm_types.specs.Places.{is_same_place}
use Rattle.nm_types.specs.Positions.{step_on}
use Rattle.nm_region.specs.Buffers.{Buffer}
use Rattle.nm_hold.specs.declared.taking.SlotRun.{SlotRun}
use Rattle.nm_hold.specs.Holds.{HoldState, slot_on, index_at, buffer_at, with_cell, IsHold}

-- the place of a slot of a run
abbrev pub place_in : SlotRun → ℕ → Place
place_in run k = slot_on run.side run.port (step_on run.size run.first k)

-- a buffer is out of the place in which it stood
pub record IsRemoved (h now : HoldState) (place : Place) (buf : Buffer) : Type 0 where
  pub index : index_at h place ≡ Some buf.index
  pub buffer : buffer_at h buf.index ≡ Some buf
  pub cell : now ≡ with_cell h buf.index None
  pub places : (p : Place) → index_at now p ≡ (if is_same_place place p then None else index_at h p)
  pub hold : IsHold now

-- the buffers in the first slots of a run went out one after another, the last one first
abbrev pub AreRemoved : HoldState → SlotRun → List Buffer → HoldState → Type 0
AreRemoved h run [] now = now ≡ h
AreRemoved h run (buf ∷ before) now = (mid : HoldState) × (AreRemoved h run before mid × IsRemoved mid now (place_in run (length before)) buf)

-- so many buffers went out, and stand behind others in the order in which they went
pub record AreTakenBehind (h : HoldState) (run : SlotRun) (number : ℕ) (now : HoldState) (before after : List Buffer) : Type 0 where
  pub out : List Buffer
  pub joined : after ≡ before ++ out
  pub count : length out ≡ number
  pub removed : AreRemoved h run (reverse out) now
