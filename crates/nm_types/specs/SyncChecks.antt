-- The checks of a sync: first of the ring's positions, then of each pushed slot in order. The first
-- refusal is the answer. All of them speak of the places as they are before the sync.
use Rattle.std.specs.Prelude.{ℕ, Bool, true, false, not, ◌&&◌, ◌||◌, ◌==◌, ◌≡◌, ◌≢◌, ◌≤◌, ◌+◌, nat_eq, nat_lt, nat_le, if◌then◌else◌, List, [], ◌∷◌, ◌++◌, length, Option, Some, None, option_map}
use Rattle.std.specs.List.{list_any, list_all, IsDistinct}
use Rattle.nm_types.specs.declared.id.Side.{Side}
use Rattle.nm_types.specs.declared.id.Side.TheVariants.{Tx, Rx}
use Rattle.nm_types.specs.declared.slot.Seen.{Seen}
use Rattle.nm_types.specs.declared.refusal.RingFault.{RingFault}
use Rattle.nm_types.specs.declared.refusal.RingFault.TheVariants.{HeadOut, CurOut}
use Rattle.nm_types.specs.declared.refusal.SlotFault.{SlotFault}
use Rattle.nm_types.specs.declared.refusal.SlotFault.TheVariants.{Indirect, IndexOut, NotHeld, Doubled, Unannounced, LongLen, Fragment}
use Rattle.nm_types.specs.declared.fault.SyncFault.{SyncFault}
use Rattle.nm_types.specs.SyncFaults.{ring_sync_fault, slot_sync_fault}
use Rattle.nm_types.specs.Limits.{buffer_bytes, most_frame_slots}
use Rattle.nm_types.specs.Positions.{RingState, dist}
use Rattle.nm_types.specs.Slots.{SlotState, Pushed, pushed_names, has_flag, HasFlag, goes_on, buf_changed, indirect}

-- a position that is none, or that lies beyond the tail as seen from another position
abbrev pub is_beyond : ℕ → ℕ → ℕ → ℕ → Bool
is_beyond size from to at = nat_le size at || nat_lt (dist size from to) (dist size from at)

abbrev pub ring_refusal : RingState → ℕ → ℕ → Option RingFault
ring_refusal ring head cur =
    if is_beyond ring.size ring.accepted_head ring.last_tail head then Some (HeadOut head ring.accepted_head ring.last_tail)
    else if is_beyond ring.size head ring.last_tail cur then Some (CurOut cur head ring.last_tail)
    else None

abbrev pub is_tx : Side → Bool
is_tx Tx = true
is_tx Rx = false

-- an index of no buffer; `top` is the greatest one of the pool
abbrev pub is_index_out : ℕ → ℕ → Bool
is_index_out top idx = nat_lt idx 2 || nat_lt top idx

abbrev pub is_unannounced : ℕ → SlotState → Bool
is_unannounced was slot = not (slot.buf_idx == was) && not (has_flag buf_changed slot)

abbrev pub slot_refusal : Side → Seen → ℕ → SlotState → Option SlotFault
slot_refusal side seen at slot =
    if is_tx side && has_flag indirect slot then Some (Indirect at)
    else if is_index_out seen.top slot.buf_idx then Some (IndexOut at slot.buf_idx)
    else if not seen.held then Some (NotHeld at slot.buf_idx)
    else if seen.doubled then Some (Doubled at slot.buf_idx)
    else if is_unannounced seen.was slot then Some (Unannounced at slot.buf_idx seen.was)
    else if is_tx side && nat_lt buffer_bytes slot.len then Some (LongLen at slot.len)
    else if is_tx side && (seen.closing && goes_on slot) then Some (Fragment at)
    else None

-- a slot that a sync accepts
pub record PassesSlot (side : Side) (seen : Seen) (slot : SlotState) : Type 0 where
  pub direct : is_tx side ≡ true → has_flag indirect slot ≡ false
  pub least : 2 ≤ slot.buf_idx
  pub most : slot.buf_idx ≤ seen.top
  pub held : seen.held ≡ true
  pub once : seen.doubled ≡ false
  pub announced : slot.buf_idx ≢ seen.was → HasFlag buf_changed slot
  pub fits_buffer : is_tx side ≡ true → slot.len ≤ buffer_bytes
  pub ends : is_tx side ≡ true → seen.closing ≡ true → goes_on slot ≡ false

abbrev pub contains_index : List ℕ → ℕ → Bool
contains_index buffers idx = list_any (λ b. b == idx) buffers

-- a frame must end in a pushed slot, behind so many slots of the same frame and before so many others:
-- where each slot is a frame by itself, as in a pipe, in the last slot pushed, and in the last one that
-- a frame may have
abbrev pub is_closing : Bool → ℕ → ℕ → Bool
is_closing whole begun left = whole || (left == 0 || begun + 1 == most_frame_slots)

-- how many slots of the frame that goes on there are up to and with this slot
abbrev pub begun_after : ℕ → SlotState → ℕ
begun_after begun slot = if goes_on slot then begun + 1 else 0

-- what a sync of a pool of so many buffers knows of a pushed slot, by whether a frame must end in it, the
-- session's named buffers, and those that the slots before it name
abbrev pub seen_of : Bool → ℕ → List ℕ → List ℕ → Pushed → Seen
seen_of closing pool named earlier pushed = record {
  was = pushed.was;
  top = pool + 1;
  held = contains_index named pushed.slot.buf_idx;
  doubled = contains_index earlier pushed.slot.buf_idx;
  closing = closing;
}

-- the first of two refusals
abbrev pub first_refusal : Option SyncFault → Option SyncFault → Option SyncFault
first_refusal (Some fault) later = Some fault
first_refusal None later = later

-- the first refusal of pushed slots, behind slots that name the earlier buffers, of which so many are
-- of the frame that goes on; `whole` says that each slot is a frame
abbrev pub slots_refusal : Side → Bool → ℕ → List ℕ → List ℕ → ℕ → List Pushed → Option SyncFault
slots_refusal side whole pool named earlier begun [] = None
slots_refusal side whole pool named earlier begun (pushed ∷ others) =
    first_refusal (option_map slot_sync_fault (slot_refusal side (seen_of (is_closing whole begun (length others)) pool named earlier pushed) pushed.at pushed.slot))
    (slots_refusal side whole pool named (earlier ++ pushed.slot.buf_idx ∷ []) (begun_after begun pushed.slot) others)

-- the first refusal of a sync at the ring's own head and cur
abbrev pub refusal_of : Side → Bool → ℕ → List ℕ → RingState → List Pushed → Option SyncFault
refusal_of side whole pool named ring pushed =
    first_refusal (option_map ring_sync_fault (ring_refusal ring ring.head ring.cur)) (slots_refusal side whole pool named [] 0 pushed)

abbrev pub PassesChecks : Side → Bool → ℕ → List ℕ → RingState → List Pushed → Type 0
PassesChecks side whole pool named ring pushed = refusal_of side whole pool named ring pushed ≡ None

-- pushed slots each of which is accepted, behind slots that name the earlier buffers, of which so many
-- are of the frame that goes on
abbrev pub EachPasses : Side → Bool → ℕ → List ℕ → List ℕ → ℕ → List Pushed → Type 0
EachPasses side whole pool named earlier begun [] = Unit {0}
EachPasses side whole pool named earlier begun (pushed ∷ others) =
    PassesSlot side (seen_of (is_closing whole begun (length others)) pool named earlier pushed) pushed.slot
    × EachPasses side whole pool named (earlier ++ pushed.slot.buf_idx ∷ []) (begun_after begun pushed.slot) others

-- what accepted slots name: buffers of the session, none of them twice
pub record NamesOnce (named : List ℕ) (pushed : List Pushed) : Type 0 where
  pub distinct : IsDistinct nat_eq (pushed_names pushed)
  pub held : list_all (contains_index named) (pushed_names pushed) ≡ true
