-- the refusal of a ring's positions or of a slot, as a refused sync names it
use Rattle.std.specs.Prelude.{Bool, true, false}
use Rattle.nm_types.specs.declared.refusal.RingFault.{RingFault}
use Rattle.nm_types.specs.declared.refusal.RingFault.TheVariants as ring
use Rattle.nm_types.specs.declared.refusal.SlotFault.{SlotFault}
use Rattle.nm_types.specs.declared.refusal.SlotFault.TheVariants as slot
use Rattle.nm_types.specs.declared.fault.SyncFault.{SyncFault}
use Rattle.nm_types.specs.declared.fault.SyncFault.TheVariants as sync

abbrev pub ring_sync_fault : RingFault → SyncFault
ring_sync_fault (ring.HeadOut head from to) = sync.HeadOut head from to
ring_sync_fault (ring.CurOut cur from to) = sync.CurOut cur from to

abbrev pub slot_sync_fault : SlotFault → SyncFault
slot_sync_fault (slot.Indirect at) = sync.Indirect at
slot_sync_fault (slot.IndexOut at idx) = sync.IndexOut at idx
slot_sync_fault (slot.NotHeld at idx) = sync.NotHeld at idx
slot_sync_fault (slot.Doubled at idx) = sync.Doubled at idx
slot_sync_fault (slot.Unannounced at idx was) = sync.Unannounced at idx was
slot_sync_fault (slot.LongLen at len) = sync.LongLen at len
slot_sync_fault (slot.Fragment at) = sync.Fragment at

-- one of the nine refusals of the checks, after which the ring is reset
abbrev pub is_check_fault : SyncFault → Bool
is_check_fault sync.PeerGone = false
is_check_fault (sync.RecordFull what used want) = false
is_check_fault sync.NoMemory = false
is_check_fault fault = true
