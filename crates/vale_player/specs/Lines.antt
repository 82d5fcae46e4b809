-- What a session does of its user's lines, whatever they say behind that.
use Rattle.std.specs.Prelude.{ℕ, Bool, true, false, not, ◌≡◌, ◌||◌, if◌then◌else◌, List, [], ◌∷◌, ◌++◌, Option, Some, None, length}
use Rattle.nm_types.specs.OwnPorts.{OwnPort, port_with_name}
use Rattle.nm_types.specs.OwnEdits.{has_room, with_frame}
use Rattle.vale_entry.specs.declared.entry.Ask.{Ask}
use Rattle.vale_entry.specs.declared.entry.Reply.{Reply}
use Rattle.vale_entry.specs.Legal.{kept_ask}
use Rattle.vale_script.specs.declared.script.Act.{Act}
use Rattle.vale_fabric.specs.declared.settling.Shares.{Shares}
use Rattle.vale_fabric.specs.Fabrics.{Knowing}
use Rattle.nm_user.specs.Sessions.{SessionState, IsThere}
use Rattle.nm_user.specs.Calls.{Made}
use Rattle.nm_user.specs.Syncs.{Synced}
use Rattle.nm_user.specs.declared.leaving.Detached.{Detached}
use Rattle.nm_user.specs.Leaving.{IsDetached}
use Rattle.vale_replay.specs.Edits.{changed_by}
use Rattle.vale_replay.specs.Tasks.{Task, OpenPort, PutFrame, SendFrames, TakeFrames, ChangeOwn, SaveFrames, WatchPort, ReadCounts, ShutPort, FinishPort, EndLine, lines_left}
use Rattle.vale_replay.specs.Machine.{Machine, Save, call_of_task, has_room_at, is_reset, is_peer_gone, saves_with}
use Rattle.vale_player.specs.Users.{HasCome}

-- the session's user of this number, which saves these files and still has this to do
abbrev pub user_with : ℕ → List Save → SessionState → List Task → Machine
user_with number saves s tasks =
    record { number = number; session = Some (record { 0 = s.id }); own = s.own; saves = saves; tasks = tasks }

-- where the user had one thing to do, it then has another
abbrev pub GoesTo : ℕ → List Save → SessionState → SessionState → List Task → List Task → Type 0
GoesTo number saves s t before after =
    (began : Knowing) (first : Machine) → HasCome began first s (user_with number saves s before) → HasCome began first t (user_with number saves t after)

-- the session does these tasks
abbrev pub DoesTasks : ℕ → List Save → SessionState → SessionState → List Task → Type 0
DoesTasks number saves s t tasks = (rest : List Task) → GoesTo number saves s t (tasks ++ rest) rest

-- with them the line ends
abbrev pub EndsLine : ℕ → List Save → SessionState → SessionState → List Task → Type 0
EndsLine number saves s t tasks = (rest : List Task) → GoesTo number saves s t (tasks ++ rest) (lines_left rest)

-- a user that is there makes this call for the task
abbrev pub TaskCalls : ℕ → List Save → SessionState → Task → Ask → Type 0
TaskCalls number saves s task ask = call_of_task (user_with number saves s []) task ≡ Some ask

-- a task that its call does
abbrev pub is_single : Task → Bool
is_single (OpenPort name tx rx extra) = true
is_single (TakeFrames name) = true
is_single (WatchPort monitor target sides) = true
is_single (ReadCounts name) = true
is_single _ = false

-- the name of the port at which a task makes its call
abbrev pub port_of_task : Task → Option (List ℕ)
port_of_task (PutFrame name bytes) = Some name
port_of_task (SendFrames name) = Some name
port_of_task (TakeFrames name) = Some name
port_of_task (WatchPort monitor target sides) = Some monitor
port_of_task (ReadCounts name) = Some name
port_of_task (ShutPort name) = Some name
port_of_task (FinishPort name) = Some name
port_of_task _ = None

-- a sync that was refused, or found that the other end of a pipe is gone
abbrev pub has_failed : Ask → Reply → Bool
has_failed ask reply = is_reset (kept_ask ask) || is_peer_gone reply

-- The laws.

-- a line that makes no call
abbrev pub OwnActsAreDone : Type 0
OwnActsAreDone =
    (number : ℕ) (saves : List Save) (s : SessionState) (act : Act)
    → DoesTasks number saves s (record s { own = changed_by act s.own }) (ChangeOwn act ∷ [])

-- a frame that is put where the ring has room for it
abbrev pub FramesArePut : Type 0
FramesArePut =
    (number : ℕ) (saves : List Save) (s : SessionState) (name bytes : List ℕ) (p : OwnPort)
    → IsThere None s → port_with_name s.own name ≡ Some p → has_room s.own p.id.0 (length bytes) ≡ true
    → DoesTasks number saves s (record s { own = with_frame p.id.0 bytes s.own }) (PutFrame name bytes ∷ [])

-- a call that made one entry
abbrev pub CallsAreDone : Type 0
CallsAreDone =
    (number : ℕ) (saves : List Save) (s t : SessionState) (task : Task) (ask : Ask) (reply : Reply)
    → IsThere None s → IsThere None t → is_single task ≡ true → TaskCalls number saves s task ask → Made s t ask reply
    → DoesTasks number saves s t (task ∷ [])

-- a receive sync, with what settles it
abbrev pub ReceivesAreDone : Type 0
ReceivesAreDone =
    (number : ℕ) (saves : List Save) (s t : SessionState) (name : List ℕ) (ask : Ask) (reply : Reply) (shares : Shares)
    → IsThere None s → IsThere None t → TaskCalls number saves s (TakeFrames name) ask → Synced s t ask reply shares
    → DoesTasks number saves s t (TakeFrames name ∷ [])

-- a transmit sync, with what settles it
abbrev pub SendsAreDone : Type 0
SendsAreDone =
    (number : ℕ) (saves : List Save) (s t : SessionState) (name : List ℕ) (ask : Ask) (reply : Reply) (shares : Shares)
    → IsThere None s → IsThere None t → TaskCalls number saves s (SendFrames name) ask → has_failed ask reply ≡ false → Synced s t ask reply shares
    → DoesTasks number saves s t (SendFrames name ∷ [])

-- and one that failed ends its line
abbrev pub FailedSendsEnd : Type 0
FailedSendsEnd =
    (number : ℕ) (saves : List Save) (s t : SessionState) (name : List ℕ) (ask : Ask) (reply : Reply)
    → IsThere None s → IsThere None t → TaskCalls number saves s (SendFrames name) ask → has_failed ask reply ≡ true → Made s t ask reply
    → EndsLine number saves s t (SendFrames name ∷ [])

-- a frame for which there was no room is still to be put if the sync was not refused and made some
abbrev pub behind_sync : SessionState → Ask → List ℕ → List ℕ → List Task → List Task
behind_sync t ask name bytes rest =
    if is_reset (kept_ask ask) || not (has_room_at t.own name bytes) then lines_left rest else PutFrame name bytes ∷ rest

abbrev pub PutsSync : Type 0
PutsSync =
    (number : ℕ) (saves : List Save) (s t : SessionState) (name bytes : List ℕ) (ask : Ask) (reply : Reply) (shares : Shares) (rest : List Task)
    → IsThere None s → IsThere None t → TaskCalls number saves s (PutFrame name bytes) ask → Synced s t ask reply shares
    → GoesTo number saves s t (PutFrame name bytes ∷ rest) (behind_sync t ask name bytes rest)

abbrev pub PutsCall : Type 0
PutsCall =
    (number : ℕ) (saves : List Save) (s t : SessionState) (name bytes : List ℕ) (ask : Ask) (reply : Reply) (rest : List Task)
    → IsThere None s → IsThere None t → TaskCalls number saves s (PutFrame name bytes) ask → Made s t ask reply
    → GoesTo number saves s t (PutFrame name bytes ∷ rest) (behind_sync t ask name bytes rest)

-- a port that is closed
abbrev pub DetachesAreDone : Type 0
DetachesAreDone =
    (number : ℕ) (saves : List Save) (s t : SessionState) (name : List ℕ) (id : ℕ) (told : Detached)
    → IsThere None s → IsThere None t → (detached : IsDetached s t id told) → port_with_name s.own name ≡ Some detached.at.port
    → DoesTasks number saves s t (ShutPort name ∷ FinishPort name ∷ [])

-- what a user does at a port that it does not have is nothing
abbrev pub PortlessTasksPass : Type 0
PortlessTasksPass =
    (number : ℕ) (saves : List Save) (s : SessionState) (name : List ℕ) (task : Task)
    → port_of_task task ≡ Some name → port_with_name s.own name ≡ None
    → DoesTasks number saves s s (task ∷ [])

-- a file into which a port's frames go
abbrev pub FilesAreSaved : Type 0
FilesAreSaved =
    (number : ℕ) (saves : List Save) (s : SessionState) (name file : List ℕ) (rest : List Task) (began : Knowing) (first : Machine)
    → HasCome began first s (user_with number saves s (SaveFrames name file ∷ rest))
    → HasCome began first s (user_with number (saves_with file saves (port_with_name s.own name)) s rest)

abbrev pub LinesEnd : Type 0
LinesEnd = (number : ℕ) (saves : List Save) (s : SessionState) → DoesTasks number saves s s (EndLine ∷ [])
