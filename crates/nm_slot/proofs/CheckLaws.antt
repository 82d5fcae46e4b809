-- The laws of the checks, from those of one slot.
use Rattle.std.proofs.Common.{Bool, true, false, ◌≡◌, [], Option, Some, None, option_map, if◌then◌else◌, refl}
use Rattle.nm_types.specs.declared.refusal.RingFault.{RingFault}
use Rattle.nm_types.specs.Positions.{RingState, FitsRing}
use Rattle.nm_types.specs.SyncFaults.{ring_sync_fault}
use Rattle.nm_types.specs.SyncChecks.{is_beyond, ring_refusal, slots_refusal}
use Rattle.nm_types.proofs.RingChecks.{is_beyond-not, Fits-from_beyond}
use Rattle.nm_types.proofs.SlotChecks.{first_none, later_none, EachPasses-from_none, slots_refusal-passes, NamesOnce-from_passes}
use Rattle.nm_types.proofs.CheckFaults.{refusal-is_check}
use Rattle.nm_types.proofs.JoinedFrames.{passed-sent, passed-bytes, passed-each}
use Rattle.nm_types.proofs.Exchanges.{exchanged_here, exchanged_there, exchanged_stays, EachBufferOnce-exchanged, pushed_hold_names}
use Rattle.nm_slot.specs.Laws.{PassedPositionsFit, PassedSlotsPass, FittingPasses, PassedNamesOnce, RefusalsAreChecks, PushedFramesAreSent, PushedBytesAreSent, WholeSlotsAreFrames, ExchangeBringsNamed, ExchangeGivesBack, ExchangeLeavesOthers, ExchangeKeepsOnce, PushedHoldNames}

none_of_two : {A : Type 0} → (a b : Bool) (x y : A) → (if a then Some x else if b then Some y else None) ≡ None → (a ≡ false) × (b ≡ false)
none_of_two true b x y e = cc
none_of_two false true x y e = cc
none_of_two false false x y e = (refl, refl)

ring_none : (ring : RingState) → option_map ring_sync_fault (ring_refusal ring ring.head ring.cur) ≡ None → FitsRing ring ring.head ring.cur
ring_none ring e =
    let none = none_of_two (is_beyond ring.size ring.accepted_head ring.last_tail ring.head) (is_beyond ring.size ring.head ring.last_tail ring.cur) _ _ (no_fault (ring_refusal ring ring.head ring.cur) e) in
    Fits-from_beyond ring.size ring.accepted_head ring.last_tail ring.head ring.cur none.0 none.1
  where
    no_fault : (o : Option RingFault) → option_map ring_sync_fault o ≡ None → o ≡ None
    no_fault None e = refl
    no_fault (Some fault) e = cc

pub passed_positions_fit : PassedPositionsFit
passed_positions_fit side whole pool named ring pushed passes =
    ring_none ring (first_none (option_map ring_sync_fault (ring_refusal ring ring.head ring.cur)) (slots_refusal side whole pool named [] 0 pushed) passes)

pub passed_slots_pass : PassedSlotsPass
passed_slots_pass side whole pool named ring pushed passes =
    EachPasses-from_none side whole pool named [] 0 pushed (later_none (option_map ring_sync_fault (ring_refusal ring ring.head ring.cur)) (slots_refusal side whole pool named [] 0 pushed) passes)

pub fitting_passes : FittingPasses
fitting_passes side whole pool named ring pushed fits passes =
    let head = is_beyond-not ring.size ring.accepted_head ring.last_tail ring.head fits.head_within fits.head_reach in
    let cur = is_beyond-not ring.size ring.head ring.last_tail ring.cur fits.cur_within fits.cur_reach in
    let slots = slots_refusal-passes side whole pool named [] 0 pushed passes in
    rw (head, cur) slots

pub passed_names_once : PassedNamesOnce
passed_names_once side whole pool named pushed passes = NamesOnce-from_passes side whole pool named [] 0 pushed passes

pub refusals_are_checks : RefusalsAreChecks
refusals_are_checks side whole pool named ring pushed fault e = refusal-is_check side whole pool named ring pushed fault e

pub pushed_frames_are_sent : PushedFramesAreSent
pushed_frames_are_sent bytes_of whole pool named pushed passes = passed-sent bytes_of whole pool named pushed passes

pub pushed_bytes_are_sent : PushedBytesAreSent
pushed_bytes_are_sent bytes_of whole pool named pushed passes = passed-bytes bytes_of whole pool named pushed passes

pub whole_slots_are_frames : WholeSlotsAreFrames
whole_slots_are_frames bytes_of pool named pushed passes = passed-each bytes_of pool named pushed passes

pub ruleset check_laws = (passed_positions_fit, passed_slots_pass, fitting_passes, passed_names_once, refusals_are_checks, pushed_frames_are_sent, pushed_bytes_are_sent, whole_slots_are_frames)

pub exchange_brings_named : ExchangeBringsNamed
exchange_brings_named held place idx was e = exchanged_here held place idx was e

pub exchange_gives_back : ExchangeGivesBack
exchange_gives_back held place other idx was e there = exchanged_there held place other idx was e there

pub exchange_leaves_others : ExchangeLeavesOthers
exchange_leaves_others held place other idx was b e there h k = exchanged_stays held place other idx was b e there h k

pub exchange_keeps_once : ExchangeKeepsOnce
exchange_keeps_once held place idx was e once = EachBufferOnce-exchanged held place idx was e once

pub pushed_places_hold_names : PushedHoldNames
pushed_places_hold_names namings held once all places names = pushed_hold_names namings held once all places names

pub ruleset exchange_laws = (exchange_brings_named, exchange_gives_back, exchange_leaves_others, exchange_keeps_once, pushed_places_hold_names)
