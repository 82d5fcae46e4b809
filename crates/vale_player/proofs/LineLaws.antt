-- What a session does of its user's lines, task by task.
use Rattle.std.proofs.Common.{ℕ, ◌≡◌, Bool, true, false, cond, List, [], ◌∷◌, length, Option, Some, None, option_map, refl, sym, ◌∙◌, ap, subst}
use Rattle.std.specs.Prelude.{option_and_then}
use Rattle.std.specs.Option.{option_map_or}
use Rattle.nm_types.specs.declared.id.Side.TheVariants.{Tx}
use Rattle.nm_types.specs.OwnPorts.{OwnPort, OwnState, port_with_name, ring_on}
use Rattle.nm_types.specs.OwnEdits.{has_slots, with_frame}
use Rattle.nm_types.specs.Parts.{slots_of_bytes}
use Rattle.vale_entry.specs.declared.entry.Ask.{Ask}
use Rattle.vale_entry.specs.declared.entry.Ask.TheVariants.{Shut, Watch, Stat}
use Rattle.vale_entry.specs.declared.entry.Entry.{Entry}
use Rattle.vale_entry.specs.OwnCalls.{rx_call, finish_call}
use Rattle.vale_fabric.specs.Fabrics.{entry_by}
use Rattle.nm_user.specs.Sessions.{SessionState}
use Rattle.vale_replay.specs.Edits.{change_found}
use Rattle.vale_replay.specs.Tasks.{Task, Arrive, OpenPort, PutFrame, SendFrames, TakeFrames, ChangeOwn, SaveFrames, WatchPort, ReadCounts, ShutPort, FinishPort, Depart, EndLine, lines_left}
use Rattle.vale_replay.specs.Machine.{Machine, Save, put_call, send_call, call_of_task, call_of_tasks, after_task, with_tasks}
use Rattle.vale_player.specs.Users.{HasCome}
use Rattle.vale_player.specs.Lines.{user_with, GoesTo, TaskCalls, is_single, behind_sync, OwnActsAreDone, FramesArePut, CallsAreDone, ReceivesAreDone, SendsAreDone, FailedSendsEnd, PutsSync, PutsCall, DetachesAreDone, PortlessTasksPass, FilesAreSaved, LinesEnd}
use Rattle.vale_player.proofs.Detaching.{detach-turns}
use Rattle.vale_replay.proofs.Parts.{call-same}
use Rattle.vale_player.proofs.Stays.{task-done}
use Rattle.vale_player.proofs.Syncs.{sync-turns}
use Rattle.vale_replay.proofs.PutRooms.{no-room-call}
use Rattle.vale_replay.proofs.TurnSides.{by-id}
use Rattle.vale_player.proofs.Turns.{call-turn}

-- ---- without a call

pub own-acts : OwnActsAreDone
own-acts number saves s act rest began first come = task-done s began first (user_with number saves s (ChangeOwn act ∷ rest)) (ChangeOwn act) rest come refl refl

pub frames-put : FramesArePut
frames-put number saves s name bytes p here named room rest began first come =
    let now = user_with number saves s (PutFrame name bytes ∷ rest) in
    let has : option_map_or (has_slots (slots_of_bytes bytes)) p.tx false ≡ true =
    sym (ap (λ (o : Option OwnPort). option_map_or (has_slots (slots_of_bytes bytes)) (option_and_then (ring_on Tx) o) false) (by-id s.own name p here.side.sound named)) ∙ room in
    let none : option_and_then (put_call s.own bytes) (port_with_name s.own name) ≡ None = ap (option_and_then (put_call s.own bytes)) named ∙ no-room-call s.own bytes p p.tx has in
    let put : change_found (λ (id : ℕ). with_frame id bytes) s.own (port_with_name s.own name) ≡ with_frame p.id.0 bytes s.own = ap (change_found (λ (id : ℕ). with_frame id bytes) s.own) named in
    subst (λ (o : OwnState). HasCome began first (record s { own = o }) (user_with number saves (record s { own = o }) rest)) put
    (task-done s began first now (PutFrame name bytes) rest come refl none)

pub lines-end : LinesEnd
lines-end number saves s rest began first come = task-done s began first (user_with number saves s (EndLine ∷ rest)) EndLine rest come refl refl

pub files-saved : FilesAreSaved
files-saved number saves s name file rest began first come = task-done s began first (user_with number saves s (SaveFrames name file ∷ rest)) (SaveFrames name file) rest come refl refl

-- a task that needs no call and does nothing
pass : (number : ℕ) (saves : List Save) (s : SessionState) (task : Task) (rest : List Task) → call_of_task (user_with number saves s (task ∷ rest)) task ≡ None
    → after_task task (user_with number saves s (task ∷ rest)) ≡ user_with number saves s (task ∷ rest) → GoesTo number saves s s (task ∷ rest) rest
pass number saves s task rest none same began first come =
    subst (λ (m : Machine). HasCome began first (record s { own = m.own }) (record m { tasks = rest })) same
    (task-done s began first (user_with number saves s (task ∷ rest)) task rest come refl none)

none-at : (own : OwnState) (n name : List ℕ) → Some n ≡ Some name → port_with_name own name ≡ None → port_with_name own n ≡ None
none-at own n name is none = let same : n ≡ name = cc is in ap (port_with_name own) same ∙ none

pub tasks-pass : PortlessTasksPass
tasks-pass number saves s name Arrive is none rest = absurd cc
tasks-pass number saves s name (OpenPort n tx rx extra) is none rest = absurd cc
tasks-pass number saves s name (PutFrame n bytes) is none rest =
    let gone = none-at s.own n name is none in
    pass number saves s (PutFrame n bytes) rest (ap (option_and_then (put_call s.own bytes)) gone)
    (ap (λ (found : Option OwnPort). record (user_with number saves s (PutFrame n bytes ∷ rest)) { own = change_found (λ (id : ℕ). with_frame id bytes) s.own found }) gone)
tasks-pass number saves s name (SendFrames n) is none rest = pass number saves s (SendFrames n) rest (ap (option_and_then (send_call s.own)) (none-at s.own n name is none)) refl
tasks-pass number saves s name (TakeFrames n) is none rest = pass number saves s (TakeFrames n) rest (ap (option_map (rx_call s.own)) (none-at s.own n name is none)) refl
tasks-pass number saves s name (ChangeOwn act) is none rest = absurd cc
tasks-pass number saves s name (SaveFrames n file) is none rest = absurd cc
tasks-pass number saves s name (WatchPort n target sides) is none rest =
    pass number saves s (WatchPort n target sides) rest (ap (option_map (λ (p : OwnPort). Watch p.id target sides)) (none-at s.own n name is none)) refl
tasks-pass number saves s name (ReadCounts n) is none rest = pass number saves s (ReadCounts n) rest (ap (option_map (λ (p : OwnPort). Stat p.id)) (none-at s.own n name is none)) refl
tasks-pass number saves s name (ShutPort n) is none rest = pass number saves s (ShutPort n) rest (ap (option_map (λ (p : OwnPort). Shut p.id)) (none-at s.own n name is none)) refl
tasks-pass number saves s name (FinishPort n) is none rest = pass number saves s (FinishPort n) rest (ap (option_map (finish_call s.own)) (none-at s.own n name is none)) refl
tasks-pass number saves s name Depart is none rest = absurd cc
tasks-pass number saves s name EndLine is none rest = absurd cc

-- ---- with a call

-- the user behind its call, once its session's number is the new one's
behind-as : (number : ℕ) (saves : List Save) (s t : SessionState) (rest : List Task) → t.id ≡ s.id
    → record (user_with number saves s []) { own = t.own; tasks = rest } ≡ user_with number saves t rest
behind-as number saves s t rest id = ap (λ (n : ℕ). record (user_with number saves t rest) { session = Some (record { 0 = n }) }) (sym id)

calls : (number : ℕ) (saves : List Save) (s : SessionState) (task : Task) (rest : List Task) (ask : Ask) → TaskCalls number saves s task ask
    → call_of_tasks (user_with number saves s (task ∷ rest)) (task ∷ rest) ≡ Some ask
calls number saves s task rest ask call = call-same (user_with number saves s []) (task ∷ rest) task ∙ call

with-single : (n : ℕ) (e : Entry) (user : Machine) (task : Task) (rest : List Task) → is_single task ≡ true → with_tasks n e user (task ∷ rest) ≡ record user { tasks = rest }
with-single n e user Arrive rest one = absurd cc
with-single n e user (OpenPort name tx rx extra) rest one = refl
with-single n e user (PutFrame name bytes) rest one = absurd cc
with-single n e user (SendFrames name) rest one = absurd cc
with-single n e user (TakeFrames name) rest one = refl
with-single n e user (ChangeOwn act) rest one = absurd cc
with-single n e user (SaveFrames name file) rest one = absurd cc
with-single n e user (WatchPort monitor target sides) rest one = refl
with-single n e user (ReadCounts name) rest one = refl
with-single n e user (ShutPort name) rest one = absurd cc
with-single n e user (FinishPort name) rest one = absurd cc
with-single n e user Depart rest one = absurd cc
with-single n e user EndLine rest one = absurd cc

pub calls-done : CallsAreDone
calls-done number saves s t task ask reply here there one call made rest began first come =
    let now = user_with number saves s (task ∷ rest) in
    let n = length t.knows.seen in
    subst (HasCome began first t) (with-single n (entry_by t.id ask reply) (record now { own = t.own }) task rest one ∙ behind-as number saves s t rest made.id)
    (call-turn s t began first now ask reply here there come (calls number saves s task rest ask call) made)

pub receives-done : ReceivesAreDone
receives-done number saves s t name ask reply shares here there call k rest began first come =
    let now = user_with number saves s (TakeFrames name ∷ rest) in
    subst (HasCome began first t) (behind-as number saves s t rest k.id)
    (sync-turns s t began first now ask reply shares here there come refl (calls number saves s (TakeFrames name) rest ask call) k)

pub sends-done : SendsAreDone
sends-done number saves s t name ask reply shares here there call passes k rest began first come =
    let now = user_with number saves s (SendFrames name ∷ rest) in
    subst (HasCome began first t) (ap (λ (b : Bool). record now { own = t.own; tasks = cond b (lines_left rest) rest }) passes ∙ behind-as number saves s t rest k.id)
    (sync-turns s t began first now ask reply shares here there come refl (calls number saves s (SendFrames name) rest ask call) k)

pub failed-sends : FailedSendsEnd
failed-sends number saves s t name ask reply here there call fails made rest began first come =
    let now = user_with number saves s (SendFrames name ∷ rest) in
    subst (HasCome began first t) (ap (λ (b : Bool). record now { own = t.own; tasks = cond b (lines_left rest) rest }) fails ∙ behind-as number saves s t (lines_left rest) made.id)
    (call-turn s t began first now ask reply here there come (calls number saves s (SendFrames name) rest ask call) made)

pub puts-sync : PutsSync
puts-sync number saves s t name bytes ask reply shares rest here there call k began first come =
    subst (HasCome began first t) (behind-as number saves s t (behind_sync t ask name bytes rest) k.id)
    (sync-turns s t began first (user_with number saves s (PutFrame name bytes ∷ rest)) ask reply shares here there come refl (calls number saves s (PutFrame name bytes) rest ask call) k)

pub puts-call : PutsCall
puts-call number saves s t name bytes ask reply rest here there call made began first come =
    subst (HasCome began first t) (behind-as number saves s t (behind_sync t ask name bytes rest) made.id)
    (call-turn s t began first (user_with number saves s (PutFrame name bytes ∷ rest)) ask reply here there come (calls number saves s (PutFrame name bytes) rest ask call) made)

pub detaches-done : DetachesAreDone
detaches-done number saves s t name id told here there d named rest began first come =
    subst (HasCome began first t) (behind-as number saves s t rest d.id_is)
    (detach-turns s t began first (user_with number saves s (ShutPort name ∷ FinishPort name ∷ rest)) name rest id told here there come refl d named)
