-- Laws of the frames that are saved: what a session finds in its receive rings is what its script's
-- files are to have.
use Rattle.std.specs.Prelude.{ℕ, ◌≡◌, ◌≢◌, ◌≤◌, false, List, [], ◌++◌, length, None, All}
use Rattle.vale_entry.specs.declared.entry.Ask.{Ask}
use Rattle.vale_entry.specs.declared.entry.Entry.{Entry}
use Rattle.vale_entry.specs.declared.entry.Reply.{Reply}
use Rattle.vale_entry.specs.Delivered.{port_at}
use Rattle.vale_entry.specs.Legal.{standing_of, world_of, IsLegal, Follows}
use Rattle.nm_types.specs.declared.fault.StepFault.{StepFault}
use Rattle.nm_types.specs.declared.fault.SyncFault.{SyncFault}
use Rattle.vale_fabric.specs.declared.settling.Shares.{Shares}
use Rattle.nm_user.specs.declared.receiving.Received.{Received}
use Rattle.nm_user.specs.Sessions.{SessionState, IsThere}
use Rattle.nm_user.specs.Calls.{Made, MadeNone}
use Rattle.nm_user.specs.declared.sending.Sent.{Sent}
use Rattle.nm_user.specs.Syncs.{Synced, IsTransmitted, TransmitsNot}
use Rattle.nm_user.specs.Receives.{IsReceived, ReceivesNot}
use Rattle.nm_user.specs.declared.leaving.Detached.{Detached}
use Rattle.nm_user.specs.Leaving.{IsDetached, IsLeft}
use Rattle.vale_fabric.specs.Fabrics.{Knowing}
use Rattle.nm_user.specs.Saving.{frames_from, read_of}
use Rattle.nm_user.specs.PortReads.{reads_at, IsPortOf, ReadsNot}
use Rattle.vale_replay.specs.Saved.{saved_from, saved_in, saved_frames}

-- an entry of another session, or one that is no read of the port, saves nothing of it
abbrev pub OthersSaveNothing : Type 0
OthersSaveNothing =
    (pool : ℕ) (past : List Entry) (entry : Entry) (session id : ℕ) → Follows (standing_of pool past) entry
    → IsPortOf pool past session id → ReadsNot session id entry → saved_in id (world_of pool past) entry ≡ []

-- so what was saved stays over such entries
abbrev pub SavedStay : Type 0
SavedStay =
    (pool : ℕ) (past more : List Entry) (session id : ℕ) → IsLegal pool (past ++ more) → IsPortOf pool past session id
    → All (ReadsNot session id) more → saved_frames pool (past ++ more) id ≡ saved_frames pool past id

-- up to the entry of a port's number nothing of it is saved
abbrev pub SavedBegin : Type 0
SavedBegin = (pool : ℕ) (history : List Entry) (id : ℕ) → length history ≤ id → saved_frames pool history id ≡ []

-- a receive sync adds what its entry reads: what the session then finds from where its ring's tail was on
abbrev pub SavedGrow : Type 0
SavedGrow =
    (s t : SessionState) (id : ℕ) (received : Received) → IsThere None s → IsThere None t → IsReceived s t id received
    → saved_frames t.fixed.pool t.knows.seen id
    ≡ saved_frames s.fixed.pool s.knows.seen id ++ saved_from received.entry 0 (read_of t.fixed.pool t.knows.seen id received.entry)

abbrev pub RingIsSaved : Type 0
RingIsSaved =
    (s t : SessionState) (id : ℕ) (received : Received) → IsThere None s → IsThere None t → (is : IsReceived s t id received)
    → saved_frames t.fixed.pool t.knows.seen id
    ≡ saved_frames s.fixed.pool s.knows.seen id ++ saved_from received.entry 0 (frames_from t.own id is.at.port.rx.ring.tail)

-- no other call of the session adds to what is saved of a port: one of one entry, a sync, and one
-- that was refused
abbrev pub CallsSaveNothing : Type 0
CallsSaveNothing =
    (s t : SessionState) (id : ℕ) (ask : Ask) (reply : Reply) → IsThere None s → IsPortOf s.fixed.pool s.knows.seen s.id id
    → Made s t ask reply → reads_at id ask ≡ false
    → saved_frames t.fixed.pool t.knows.seen id ≡ saved_frames s.fixed.pool s.knows.seen id

abbrev pub SyncsSaveNothing : Type 0
SyncsSaveNothing =
    (s t : SessionState) (id : ℕ) (ask : Ask) (reply : Reply) (shares : Shares) → IsThere None s → IsThere None t
    → IsPortOf s.fixed.pool s.knows.seen s.id id → Synced s t ask reply shares → reads_at id ask ≡ false
    → saved_frames t.fixed.pool t.knows.seen id ≡ saved_frames s.fixed.pool s.knows.seen id

abbrev pub RefusedSaveNothing : Type 0
RefusedSaveNothing =
    (s t : SessionState) (id : ℕ) (ask : Ask) (fault : StepFault) → IsThere None s
    → IsPortOf s.fixed.pool s.knows.seen s.id id → MadeNone s t ask fault
    → saved_frames t.fixed.pool t.knows.seen id ≡ saved_frames s.fixed.pool s.knows.seen id

-- such a call adds nothing, where the session is there before and behind it
abbrev pub AddsNothing : (SessionState → SessionState → Type 0) → Type 0
AddsNothing Call =
    (s t : SessionState) (id : ℕ) → IsThere None s → IsThere None t → IsPortOf s.fixed.pool s.knows.seen s.id id → Call s t
    → saved_frames t.fixed.pool t.knows.seen id ≡ saved_frames s.fixed.pool s.knows.seen id

-- nor does the closing of a port, or the closing of all ports and leaving
abbrev pub DetachSavesNothing : Type 0
DetachSavesNothing = (closed : ℕ) (detached : Detached) → AddsNothing (λ (s t : SessionState). IsDetached s t closed detached)

abbrev pub LeavingSavesNothing : Type 0
LeavingSavesNothing =
    (s : SessionState) (w : Knowing) (id : ℕ) → IsThere None s
    → IsPortOf s.fixed.pool s.knows.seen s.id id → IsLeft s w
    → saved_frames s.fixed.pool w.seen id ≡ saved_frames s.fixed.pool s.knows.seen id

-- The port of an id has gone: it is no port's any more. Nobody then adds to what was saved of it.
pub record HasGone (pool : ℕ) (history : List Entry) (id : ℕ) : Type 0 where
  pub given : id ≤ length history
  pub none : port_at (world_of pool history).ports id ≡ None

abbrev pub GoneSaveNothing : Type 0
GoneSaveNothing =
    (pool : ℕ) (past more : List Entry) (id : ℕ) → IsLegal pool (past ++ more) → HasGone pool past id
    → saved_frames pool (past ++ more) id ≡ saved_frames pool past id

-- so it is with the ports of a session that has left
abbrev pub LeftPortsAreGone : Type 0
LeftPortsAreGone =
    (s : SessionState) (w : Knowing) (id : ℕ) → IsThere None s
    → IsPortOf s.fixed.pool s.knows.seen s.id id → IsLeft s w → HasGone s.fixed.pool w.seen id

-- A session's syncs but for a receive sync of the port itself: one of another port, a transmit sync, and
-- those that fail.
abbrev pub OtherReceivesSaveNothing : Type 0
OtherReceivesSaveNothing =
    (s t : SessionState) (id other : ℕ) (received : Received) → IsThere None s → IsThere None t
    → IsPortOf s.fixed.pool s.knows.seen s.id id → other ≢ id → IsReceived s t other received
    → saved_frames t.fixed.pool t.knows.seen id ≡ saved_frames s.fixed.pool s.knows.seen id

abbrev pub TransmitsSaveNothing : Type 0
TransmitsSaveNothing = (at : ℕ) (sent : Sent) → AddsNothing (λ (s t : SessionState). IsTransmitted s t at sent)

abbrev pub FailedReceivesSaveNothing : Type 0
FailedReceivesSaveNothing =
    (s t : SessionState) (id at : ℕ) (fault : SyncFault) → IsThere None s
    → IsPortOf s.fixed.pool s.knows.seen s.id id → ReceivesNot s t at fault
    → saved_frames t.fixed.pool t.knows.seen id ≡ saved_frames s.fixed.pool s.knows.seen id

abbrev pub FailedTransmitsSaveNothing : Type 0
FailedTransmitsSaveNothing =
    (s t : SessionState) (id at : ℕ) (fault : SyncFault) → IsThere None s
    → IsPortOf s.fixed.pool s.knows.seen s.id id → TransmitsNot s t at fault
    → saved_frames t.fixed.pool t.knows.seen id ≡ saved_frames s.fixed.pool s.knows.seen id
