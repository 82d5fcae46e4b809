-- Copies of one frame in the parts in which they are put: the ring, and the hold with the buffers.
use Rattle.std.specs.Prelude.{ℕ, zero, suc, true, false, ◌≡◌, ◌≤◌, ◌<◌, if◌then◌else◌, List, length, Option, Some, None}
use Rattle.nm_hold.specs.Standings.{cell_fronted}
use Rattle.nm_hold.specs.Holds.{HoldState, standing_at, places_of, with_cell, is_named_at, IsHold, SamePlaces}
use Rattle.nm_port.specs.RingSlots.{RingSlots, slot_at, head_has_slot}
use Rattle.nm_own.specs.declared.edit.RingEdit.TheVariants.{Frame}
use Rattle.nm_own.specs.Edits.{edited}

-- a ring behind so many frames of a length
abbrev pub ring_behind : ℕ → ℕ → RingSlots → RingSlots
ring_behind zero len r = r
ring_behind (suc count) len r = edited (Frame len) (ring_behind count len r)

-- the buffer that the slot at the head names
abbrev pub named_at_head : RingSlots → ℕ
named_at_head r = (slot_at r r.ring.head).buf_idx

-- bytes are written over the first ones of a buffer, if it is a named one
pub record IsFronted (idx : ℕ) (bytes : List ℕ) (h new : HoldState) : Type 0 where
  pub cell : new ≡ (if is_named_at h idx then with_cell h idx (cell_fronted bytes (standing_at h idx)) else h)
  pub places : SamePlaces (places_of h) (places_of new)
  pub hold : IsHold new

-- each of so many copies finds a slot at the head, and is written to the buffer that it names
abbrev pub AreWritten : ℕ → List ℕ → RingSlots → HoldState → HoldState → Type 0
AreWritten zero bytes r h new = new ≡ h
AreWritten (suc count) bytes r h new =
    (was : HoldState) × AreWritten count bytes r h was × (head_has_slot (ring_behind count (length bytes) r).ring ≡ true)
    × IsFronted (named_at_head (ring_behind count (length bytes) r)) bytes was new

-- Of the copies wanted so many are put; behind them there is no slot, if they are not all.
pub record ArePutIn (wanted count : ℕ) (bytes : List ℕ) (r : RingSlots) (h new : HoldState) : Type 0 where
  pub most : count ≤ wanted
  pub written : AreWritten count bytes r h new
  pub full : count < wanted → head_has_slot (ring_behind count (length bytes) r).ring ≡ false

-- without a ring there are none
abbrev pub ArePutOn : ℕ → ℕ → List ℕ → Option RingSlots → HoldState → HoldState → Type 0
ArePutOn wanted count bytes None h new = (count ≡ 0) × (new ≡ h)
ArePutOn wanted count bytes (Some r) h new = ArePutIn wanted count bytes r h new
