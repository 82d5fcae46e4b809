-- What refuses a sync is one of the checks after which a ring is reset.
use Rattle.std.proofs.Common.{ℕ, Bool, true, ◌≡◌, List, [], ◌∷◌, ◌++◌, length, Option, Some, None, option_map, refl}
use Rattle.nm_types.specs.declared.id.Side.{Side}
use Rattle.nm_types.specs.declared.refusal.RingFault.{RingFault}
use Rattle.nm_types.specs.declared.refusal.RingFault.TheVariants.{HeadOut, CurOut}
use Rattle.nm_types.specs.declared.refusal.SlotFault.{SlotFault}
use Rattle.nm_types.specs.declared.refusal.SlotFault.TheVariants.{Indirect, IndexOut, NotHeld, Doubled, Unannounced, LongLen, Fragment}
use Rattle.nm_types.specs.declared.fault.SyncFault.{SyncFault}
use Rattle.nm_types.specs.SyncFaults.{ring_sync_fault, slot_sync_fault, is_check_fault}
use Rattle.nm_types.specs.Positions.{RingState}
use Rattle.nm_types.specs.Slots.{Pushed}
use Rattle.nm_types.specs.SyncChecks.{ring_refusal, slot_refusal, slots_refusal, refusal_of, first_refusal, is_closing, seen_of, begun_after}

some_check : (this that : SyncFault) → is_check_fault this ≡ true → Some this ≡ Some that → is_check_fault that ≡ true
some_check this that h e = let same : this ≡ that = cc in rw same at h

ring_is_check : (o : Option RingFault) (later : Option SyncFault) (fault : SyncFault) → ((f : SyncFault) → later ≡ Some f → is_check_fault f ≡ true)
    → first_refusal (option_map ring_sync_fault o) later ≡ Some fault → is_check_fault fault ≡ true
ring_is_check None later fault rest e = rest fault e
ring_is_check (Some (HeadOut head from to)) later fault rest e = some_check (ring_sync_fault (HeadOut head from to)) fault refl e
ring_is_check (Some (CurOut cur from to)) later fault rest e = some_check (ring_sync_fault (CurOut cur from to)) fault refl e

slot_is_check : (o : Option SlotFault) (later : Option SyncFault) (fault : SyncFault) → ((f : SyncFault) → later ≡ Some f → is_check_fault f ≡ true)
    → first_refusal (option_map slot_sync_fault o) later ≡ Some fault → is_check_fault fault ≡ true
slot_is_check None later fault rest e = rest fault e
slot_is_check (Some (Indirect at)) later fault rest e = some_check _ fault refl e
slot_is_check (Some (IndexOut at idx)) later fault rest e = some_check _ fault refl e
slot_is_check (Some (NotHeld at idx)) later fault rest e = some_check _ fault refl e
slot_is_check (Some (Doubled at idx)) later fault rest e = some_check _ fault refl e
slot_is_check (Some (Unannounced at idx was)) later fault rest e = some_check _ fault refl e
slot_is_check (Some (LongLen at len)) later fault rest e = some_check _ fault refl e
slot_is_check (Some (Fragment at)) later fault rest e = some_check _ fault refl e

slots_are_checks : (side : Side) (whole : Bool) (pool : ℕ) (named earlier : List ℕ) (begun : ℕ) (pushed : List Pushed) (fault : SyncFault) → slots_refusal side whole pool named earlier begun pushed ≡ Some fault → is_check_fault fault ≡ true
slots_are_checks side whole pool named earlier begun [] fault e = cc
slots_are_checks side whole pool named earlier begun (p ∷ ps) fault e =
    slot_is_check (slot_refusal side (seen_of (is_closing whole begun (length ps)) pool named earlier p) p.at p.slot) (slots_refusal side whole pool named (earlier ++ p.slot.buf_idx ∷ []) (begun_after begun p.slot) ps) fault
    (λ (f : SyncFault) (h : slots_refusal side whole pool named (earlier ++ p.slot.buf_idx ∷ []) (begun_after begun p.slot) ps ≡ Some f). slots_are_checks side whole pool named (earlier ++ p.slot.buf_idx ∷ []) (begun_after begun p.slot) ps f h) e

pub refusal-is_check : (side : Side) (whole : Bool) (pool : ℕ) (named : List ℕ) (ring : RingState) (pushed : List Pushed) (fault : SyncFault)
    → refusal_of side whole pool named ring pushed ≡ Some fault → is_check_fault fault ≡ true
refusal-is_check side whole pool named ring pushed fault e =
    ring_is_check (ring_refusal ring ring.head ring.cur) (slots_refusal side whole pool named [] 0 pushed) fault
    (λ (f : SyncFault) (h : slots_refusal side whole pool named [] 0 pushed ≡ Some f). slots_are_checks side whole pool named [] 0 pushed f h) e
