-- Slots and their flags, after netmap(4), and what a slot has to do with a frame.
use Rattle.std.specs.Prelude.{ℕ, Bool, ◌==◌, ◌≡◌, ◌+◌, ◌*◌, true, if◌then◌else◌, List, [], ◌∷◌, ◌++◌, map, take, Option, Some, None}
use Rattle.std.specs.Int.RustNames.{bit_and}
use Rattle.bitflags.specs.Sets.{without}
use Rattle.nm_types.specs.declared.slot.Slot.{Slot}
use Rattle.nm_types.specs.Frames.{Frame}

-- a slot's record: the buffer it names, the length of the frame there, flags, and an unused address
abbrev pub SlotState : Type 0
SlotState = Slot

abbrev pub buf_changed : ℕ
buf_changed = 1

abbrev pub no_learn : ℕ
no_learn = 8

abbrev pub indirect : ℕ
indirect = 16

abbrev pub more_fragments : ℕ
more_fragments = 32

abbrev pub has_flag : ℕ → SlotState → Bool
has_flag flag slot = bit_and slot.flags flag == flag

abbrev pub HasFlag : ℕ → SlotState → Type 0
HasFlag flag slot = has_flag flag slot ≡ true

-- a pushed slot after its sync was accepted
abbrev pub slot_after_push : SlotState → SlotState
slot_after_push slot = record slot { flags = without 16 slot.flags buf_changed }

-- the bytes of a slot: the first ones of the buffer that it names; and the frame of it alone
abbrev pub bytes_in_slot : (ℕ → List ℕ) → SlotState → List ℕ
bytes_in_slot bytes_of slot = take slot.len (bytes_of slot.buf_idx)

abbrev pub frame_at : (ℕ → List ℕ) → SlotState → Frame
frame_at bytes_of slot = record { bytes = bytes_in_slot bytes_of slot; no_learn = has_flag no_learn slot }

-- a slot whose frame goes on in the next one
abbrev pub goes_on : SlotState → Bool
goes_on slot = has_flag more_fragments slot

-- a frame that began in the slots before, with this slot's bytes; or else one that begins in it
abbrev pub with_slot_bytes : (ℕ → List ℕ) → Option Frame → SlotState → Frame
with_slot_bytes bytes_of None slot = frame_at bytes_of slot
with_slot_bytes bytes_of (Some begun) slot = record begun { bytes = begun.bytes ++ bytes_in_slot bytes_of slot }

-- the frames that end in these slots, where the first one may have begun before them
abbrev pub joined_frames : (ℕ → List ℕ) → Option Frame → List SlotState → List Frame
joined_frames bytes_of begun [] = []
joined_frames bytes_of begun (slot ∷ slots) =
    if goes_on slot then joined_frames bytes_of (Some (with_slot_bytes bytes_of begun slot)) slots
    else with_slot_bytes bytes_of begun slot ∷ joined_frames bytes_of None slots

-- a pushed slot: its position, its contents, and the buffer in its place
pub record Pushed : Type 0 where
  pub at : ℕ
  pub slot : SlotState
  pub was : ℕ

-- the buffers that pushed slots name, and the frames there
abbrev pub pushed_names : List Pushed → List ℕ
pushed_names pushed = map (λ p. p.slot.buf_idx) pushed

abbrev pub slot_of_pushed : Pushed → SlotState
slot_of_pushed p = p.slot

abbrev pub pushed_frames : (ℕ → List ℕ) → List Pushed → List Frame
pushed_frames bytes_of pushed = joined_frames bytes_of None (map slot_of_pushed pushed)

-- the flags of a slot with a part of a received frame: whether it goes on, and in how many slots more
abbrev pub part_flags : ℕ → ℕ
part_flags rest = if rest == 0 then 0 else more_fragments + 256 * rest

-- the slot in which a part of a received frame stands, behind which so many parts follow
abbrev pub published_slot : ℕ → ℕ → ℕ → SlotState
published_slot buffer len rest = record { buf_idx = buffer; len = len; flags = part_flags rest; ptr = 0 }
