-- How the rings, the hold and the list of ports of a session's own side are seen: each place has the
-- number of the buffer in it, 0 if it holds none.
use Rattle.std.specs.Prelude.{ℕ, Bool, true, false, ◌≡◌, ◌≤◌, ◌<◌, List, length, map, take, if◌then◌else◌, unwrap_or, slice_index_or, slice_set, ⊤, Result, Ok, Err, Option, Some, None}
use Rattle.nm_types.specs.declared.id.PortId.{PortId}
use Rattle.nm_types.specs.declared.id.Side.{Side}
use Rattle.nm_types.specs.declared.id.Side.TheVariants.{Tx, Rx}
use Rattle.nm_types.specs.declared.place.Place.{Place}
use Rattle.nm_types.specs.declared.place.Place.TheVariants as place
use Rattle.nm_types.specs.Limits.{buffer_bytes}
use Rattle.nm_types.specs.Positions.{is_user_slot, pushed_slots}
use Rattle.nm_types.specs.Slots.{SlotState, Pushed, has_flag, indirect, more_fragments}
use Rattle.nm_types.specs.SyncChecks.{contains_index, seen_of, slot_refusal, refusal_of}
use Rattle.nm_types.specs.declared.refusal.SlotFault.{SlotFault}
use Rattle.nm_types.specs.declared.fault.SyncFault.{SyncFault}
use Rattle.nm_types.specs.SyncFaults.{slot_sync_fault}
use Rattle.nm_hold.specs.Holds.{HoldState, buffers_of, index_at, is_named_at, IsHold}
use Rattle.nm_port.specs.RingSlots.{RingSlots, slot_at}

abbrev pub place_on : Side → PortId → ℕ → Place
place_on Tx port at = place.Tx port at
place_on Rx port at = place.Rx port at

abbrev pub number_at : HoldState → Place → ℕ
number_at h p = unwrap_or (index_at h p) 0

-- what a sync finds pushed at a position
abbrev pub pushed_seen_at : HoldState → PortId → RingSlots → ℕ → Pushed
pushed_seen_at h port r at = record { at = at; slot = slot_at r at; was = number_at h (place_on r.side port at) }

abbrev pub pushed_seen : HoldState → PortId → RingSlots → List Pushed
pushed_seen h port r = map (pushed_seen_at h port r) (pushed_slots r.ring r.ring.head)

-- the named buffers of a hold, for every index that a buffer can have
abbrev pub AreNamed : HoldState → List ℕ → Type 0
AreNamed h named = IsHold h → (idx : ℕ) → 2 ≤ idx → is_named_at h idx ≡ contains_index named idx

-- of each index whether a slot names it
abbrev pub AreMarked : List Bool → List ℕ → Type 0
AreMarked marks names = (idx : ℕ) → idx < length marks → slice_index_or marks idx false ≡ contains_index names idx

-- the marks after a slot was judged: of one that passes they have the buffer that it names
abbrev pub marks_after : Result ⊤ SlotFault → List Bool → ℕ → List Bool
marks_after (Ok _) marks idx = slice_set marks idx true
marks_after (Err fault) marks idx = marks

-- a slot behind slots that name the earlier buffers is judged as a sync judges it
abbrev pub JudgesSlot : Result ⊤ SlotFault → Side → Bool → ℕ → List ℕ → List ℕ → Pushed → Type 0
JudgesSlot (Ok _) side closing pool named earlier pushed = slot_refusal side (seen_of closing pool named earlier pushed) pushed.at pushed.slot ≡ None
JudgesSlot (Err fault) side closing pool named earlier pushed = slot_refusal side (seen_of closing pool named earlier pushed) pushed.at pushed.slot ≡ Some fault

-- slots that are judged in their order, and the first refusal of them
abbrev pub JudgesAll : Result ⊤ SlotFault → Option SyncFault → Type 0
JudgesAll (Ok _) refusal = refusal ≡ None
JudgesAll (Err fault) refusal = refusal ≡ Some (slot_sync_fault fault)

-- no index is marked but those of some first names
abbrev pub AreMarkedOf : List Bool → List ℕ → Type 0
AreMarkedOf marks names = (k : ℕ) × AreMarked marks (take k names)

-- the buffers that pushed slots name
abbrev pub name_at : RingSlots → ℕ → ℕ
name_at r at = (slot_at r at).buf_idx

abbrev pub names_pushed : RingSlots → List ℕ
names_pushed r = map (name_at r) (pushed_slots r.ring r.ring.head)

-- the marks of these names are cleared, and no others
abbrev pub AreCleared : List Bool → List Bool → List ℕ → Type 0
AreCleared marks now names = (idx : ℕ) → idx < length marks → slice_index_or now idx false ≡ (if contains_index names idx then false else slice_index_or marks idx false)

-- a check answers what refuses the sync, if something does
abbrev pub TellsRefusal : Result ⊤ SyncFault → Option SyncFault → Type 0
TellsRefusal (Ok _) refusal = refusal ≡ None
TellsRefusal (Err fault) refusal = refusal ≡ Some fault

-- a check of a port's ring at its own head and cur answers what refuses a sync of it; `whole` says that
-- each of its slots is a frame
abbrev pub TellsCheck : Result ⊤ SyncFault → HoldState → PortId → RingSlots → Bool → Type 0
TellsCheck result h id r whole = (named : List ℕ) → AreNamed h named → TellsRefusal result (refusal_of r.side whole (buffers_of h) named r.ring (pushed_seen h id r))

-- neither the marks nor the length of a transmit slot refuse it
pub record IsPlain (slot : SlotState) : Type 0 where
  pub direct : has_flag indirect slot ≡ false
  pub ends : has_flag more_fragments slot ≡ false
  pub fits : slot.len ≤ buffer_bytes

-- each of the user's slots has a named buffer in its place
abbrev pub HaveNamed : HoldState → PortId → RingSlots → Type 0
HaveNamed h id r = (at : ℕ) → is_user_slot r.ring at ≡ true → (idx : ℕ) × ((index_at h (place_on r.side id at) ≡ Some idx) × (is_named_at h idx ≡ true))
