-- What a sync is to the line that it stands in.
use Rattle.std.specs.Prelude.{ℕ, Bool, true, false, ◌≡◌, List, [], ◌∷◌, ◌++◌, filter, Option, Some, None, option_map, option_and_then, Result, Ok, Err, IfOk, IfErr}
use Rattle.nm_types.specs.declared.fault.StepFault.{StepFault}
use Rattle.nm_types.specs.declared.fault.StepFault.TheVariants as steps
use Rattle.nm_types.specs.declared.fault.SyncFault.{SyncFault}
use Rattle.nm_types.specs.declared.fault.SyncFault.TheVariants as faults
use Rattle.nm_types.specs.declared.id.PortId.{PortId}
use Rattle.nm_types.specs.OwnEdits.{with_frame}
use Rattle.nm_types.specs.OwnPorts.{OwnRing, OwnPort, OwnState, port_with_name}
use Rattle.vale_entry.specs.declared.entry.Ask.{Ask}
use Rattle.vale_entry.specs.declared.entry.Reply.{Reply}
use Rattle.vale_entry.specs.declared.entry.Reply.TheVariants as replies
use Rattle.vale_entry.specs.Legal.{kept_ask}
use Rattle.vale_entry.specs.OwnCalls.{tx_call, rx_call}
use Rattle.vale_fabric.specs.declared.settling.Shares.{Shares}
use Rattle.vale_fabric.specs.Fabrics.{Knowing}
use Rattle.nm_user.specs.Sessions.{SessionState, IsThere}
use Rattle.nm_user.specs.Calls.{Made, MadeNone}
use Rattle.nm_user.specs.Syncs.{Synced, HasTx, IsUnsent}
use Rattle.nm_user.specs.Receives.{HasPort}
use Rattle.vale_replay.specs.Edits.{at_port}
use Rattle.vale_replay.specs.Tasks.{Task, SendFrames, fits_to_play, played_before_sync}
use Rattle.vale_replay.specs.Machine.{Machine, call_of_task, is_reset}
use Rattle.vale_player.specs.declared.frames.SyncEnd.{SyncEnd}
use Rattle.vale_player.specs.declared.frames.SyncEnd.TheVariants as ends
use Rattle.vale_player.specs.Users.{HasCome}
use Rattle.vale_player.specs.Lines.{has_failed}
use Rattle.vale_player.specs.Players.{PlayerState, machine_of, DoesLine, DoesOrEnds, Ends, IsStill, StopsAt}

-- the port of a name, if it has a transmit ring
abbrev pub id_beside : OwnPort → OwnRing → PortId
id_beside p r = p.id

abbrev pub id_with_ring : OwnPort → Option PortId
id_with_ring p = option_map (id_beside p) p.tx

abbrev pub sender_named : OwnState → List ℕ → Option PortId
sender_named own name = option_and_then id_with_ring (port_with_name own name)

-- A refusal by a check, and that the other end of a pipe is gone, are entries, by which the user goes
-- on; a full record and want of memory stop it.
abbrev pub sync_end_of : SyncFault → Result SyncEnd StepFault
sync_end_of faults.PeerGone = Ok ends.PeerGone
sync_end_of (faults.RecordFull what used want) = Err (steps.RecordFull what used want)
sync_end_of faults.NoMemory = Err steps.NoMemory
sync_end_of fault = Ok ends.Refused

-- the sync went through, with what settles it
pub record GoesThrough (s t : SessionState) (ask : Ask) : Type 0 where
  pub reply : Reply
  pub shares : Shares
  pub passes : has_failed ask reply ≡ false
  pub synced : Synced s t ask reply shares

-- what came of a sync of this call
abbrev pub CameOf : SessionState → SessionState → Ask → SyncEnd → Type 0
CameOf s t ask ends.Passed = GoesThrough s t ask
CameOf s t ask ends.PeerGone = (is_reset (kept_ask ask) ≡ false) × Made s t ask replies.PeerGone
CameOf s t ask ends.Refused = (is_reset (kept_ask ask) ≡ true) × Made s t ask replies.Made

abbrev pub has_passed : SyncEnd → Bool
has_passed ends.Passed = true
has_passed ends.PeerGone = false
has_passed ends.Refused = false

-- whether there is room behind a sync that no check refused
abbrev pub leaves_room : SyncEnd → Bool → Bool
leaves_room ends.Passed room = room
leaves_room ends.PeerGone room = room
leaves_room ends.Refused room = false

-- of a transmit sync at a port, and of a receive sync
pub record EndsTx (s t : SessionState) (id : ℕ) (end : SyncEnd) : Type 0 where
  pub tx : HasTx s.own id
  pub came : CameOf s t (tx_call s.own tx.port tx.ring) end

pub record EndsRx (s t : SessionState) (id : ℕ) (end : SyncEnd) : Type 0 where
  pub at : HasPort s.own id
  pub came : CameOf s t (rx_call s.own at.port) end

-- no entry was made of a receive sync
pub record RxMadeNone (s t : SessionState) (id : ℕ) (fault : StepFault) : Type 0 where
  pub at : HasPort s.own id
  pub none : MadeNone s t (rx_call s.own at.port) fault

-- what a transmit sync at the port of a name makes of its user
pub record HasSent (p q : PlayerState) (name : List ℕ) (port : PortId) (r : Result SyncEnd StepFault) : Type 0 where
  pub came : IfOk r (EndsTx p.session q.session port.0)
  pub none : IfErr r (IsUnsent p.session q.session port.0)
  pub same : q ≡ record p { session = q.session }
  pub there : IsThere None p.session
  pub stays : IsThere None q.session
  pub named : sender_named q.session.own name ≡ Some port
  pub does : IfOk r (λ (end : SyncEnd). DoesOrEnds p q (SendFrames name ∷ []) (has_passed end))
  pub stops : IfErr r (StopsAt p q (SendFrames name))
  pub still : IsStill p q

-- a frame is put at the port of a name, if its transmit ring has room for it
abbrev pub with_put : List ℕ → List ℕ → PlayerState → PlayerState
with_put name bytes p = record p { session = record p.session { own = at_port name (λ (id : ℕ). with_frame id bytes) p.session.own } }

-- where the user has to do these tasks before it, it has to do those behind it
abbrev pub Leads : PlayerState → PlayerState → List Task → List Task → Type 0
Leads p q before after =
    (rest : List Task) (began : Knowing) (first : Machine)
    → HasCome began first p.session (machine_of p (before ++ rest)) → HasCome began first q.session (machine_of q (after ++ rest))

-- the task needs no call any more, or it has ended its line
pub record NeedsNone (p q : PlayerState) (task : Task) : Type 0 where
  pub stays : Leads p q (task ∷ []) (task ∷ [])
  pub none : call_of_task (machine_of q []) task ≡ None

abbrev pub NeedsNoneOrEnds : PlayerState → PlayerState → Task → Bool → Type 0
NeedsNoneOrEnds p q task true = NeedsNone p q task
NeedsNoneOrEnds p q task false = Ends p q (task ∷ [])

-- frames still to be played, so many of them before the next sync
abbrev pub playing : List ℕ → ℕ → ℕ → List (List ℕ) → List Task
playing name batch left frames = played_before_sync name batch left (filter (fits_to_play name) frames)

-- Behind a frame the user goes on with those left, of which so many come before the next sync; or the
-- line has ended.
abbrev pub PlaysOn : PlayerState → PlayerState → List Task → List ℕ → ℕ → List (List ℕ) → Option ℕ → Type 0
PlaysOn p q before name batch frames (Some left) = Leads p q before (playing name batch left frames)
PlaysOn p q before name batch frames None = DoesLine p q before
