-- A user of a script at work, as a session of a fabric, and what it does of its lines.
use Rattle.std.specs.Prelude.{ℕ, Bool, true, false, ◌≡◌, List, [], ◌∷◌, ◌++◌, Option, Some, None, Result, OnOk, IfErr}
use Rattle.nm_types.specs.declared.fault.StepFault.{StepFault}
use Rattle.nm_types.specs.OwnPorts.{port_with_name}
use Rattle.vale_entry.specs.declared.entry.Ask.{Ask}
use Rattle.vale_fabric.specs.declared.fabric.Fabric.{Fabric}
use Rattle.vale_fabric.specs.Fabrics.{Knowing, fixed_in}
use Rattle.nm_user.specs.Sessions.{SessionState, IsThere}
use Rattle.nm_user.specs.Calls.{MadeNone}
use Rattle.vale_script.specs.declared.script.Act.{Act}
use Rattle.vale_script.specs.declared.script.Line.{Line}
use Rattle.vale_replay.specs.Edits.{changed_by}
use Rattle.vale_replay.specs.Replay.{acts_of, has_line}
use Rattle.vale_replay.specs.Tasks.{Task, Arrive, EndLine, lines_left, tasks_of_lines}
use Rattle.vale_replay.specs.Machine.{Machine, Save, new_machine, resting, saves_with}
use Rattle.vale_player.specs.Users.{HasCome, HasStopped}
use Rattle.vale_player.specs.Lines.{user_with, TaskCalls}

-- its number, its session, the files into which its ports' frames go, and the names of the ports whose
-- frames are kept
pub record PlayerState : Type 0 where
  pub number : ℕ
  pub session : SessionState
  pub saves : List Save
  pub names : List (List ℕ)

-- what it has on its own side is changed by a line that makes no call
abbrev pub with_act : Act → PlayerState → PlayerState
with_act act p = record p { session = record p.session { own = changed_by act p.session.own } }

-- a port's frames go into a file, if it has the port
abbrev pub with_save : List ℕ → List ℕ → PlayerState → PlayerState
with_save name file p = record p { saves = saves_with file p.saves (port_with_name p.session.own name) }

-- its machine, which still has this to do
abbrev pub machine_of : PlayerState → List Task → Machine
machine_of p tasks = user_with p.number p.saves p.session tasks

-- It does these tasks: where its user has come to them, it then comes to what is behind them.
abbrev pub Does : PlayerState → PlayerState → List Task → Type 0
Does p q tasks =
    (rest : List Task) (began : Knowing) (first : Machine)
    → HasCome began first p.session (machine_of p (tasks ++ rest)) → HasCome began first q.session (machine_of q rest)

-- The line ends early: what is left of it is not done.
abbrev pub Ends : PlayerState → PlayerState → List Task → Type 0
Ends p q tasks =
    (rest : List Task) (began : Knowing) (first : Machine)
    → HasCome began first p.session (machine_of p (tasks ++ rest)) → HasCome began first q.session (machine_of q (lines_left rest))

-- whether the line goes on behind them
abbrev pub DoesOrEnds : PlayerState → PlayerState → List Task → Bool → Type 0
DoesOrEnds p q tasks true = Does p q tasks
DoesOrEnds p q tasks false = Ends p q tasks

-- The line is done, early or not.
abbrev pub DoesLine : PlayerState → PlayerState → List Task → Type 0
DoesLine p q tasks = Does p q (tasks ++ EndLine ∷ [])

-- It has come no further than this task, whose call made no entry.
pub record StopsAt (p q : PlayerState) (task : Task) (fault : StepFault) : Type 0 where
  pub ask : Ask
  pub calls : TaskCalls p.number p.saves p.session task ask
  pub none : MadeNone p.session q.session ask fault
  pub same : q ≡ record p { session = q.session }

-- Somewhere in these tasks it has stopped.
abbrev pub Stops : PlayerState → PlayerState → List Task → StepFault → Type 0
Stops p q tasks fault =
    (rest : List Task) (began : Knowing) (first : Machine)
    → HasCome began first p.session (machine_of p (tasks ++ rest)) → HasStopped q.session.fixed began q.session.knows first fault

-- It is the same user, on the same fabric, and the frames of the same ports are kept.
pub record IsStill (p q : PlayerState) : Type 0 where
  pub number : q.number ≡ p.number
  pub names : q.names ≡ p.names
  pub fabric : q.session.fabric ≡ p.session.fabric
  pub fixed : q.session.fixed ≡ p.session.fixed

-- It was there, and has made the call of this task or has stopped at it.
pub record HasCalled (p q : PlayerState) (task : Task) (result : Result (Unit {0}) StepFault) : Type 0 where
  pub does : OnOk result (Does p q (task ∷ []))
  pub stops : IfErr result (StopsAt p q task)
  pub still : IsStill p q
  pub there : IsThere None p.session

-- It has come on this fabric, by the entry of its Enter.
pub record HasEntered (fabric : Fabric) (began : Knowing) (number : ℕ) (p : PlayerState) : Type 0 where
  pub number_is : p.number ≡ number
  pub fabric_is : p.session.fabric ≡ fabric
  pub fixed_is : p.session.fixed ≡ fixed_in fabric
  pub saves : p.saves ≡ []
  pub comes : (rest : List Task)
      → HasCome began (resting (record (new_machine (fixed_in fabric).pool number) { tasks = Arrive ∷ rest })) p.session (machine_of p rest)

-- It does its own lines of a block, and then this fault has stopped it, or none has; one without lines
-- stays as it is.
pub record RunsLines (records : List ℕ → List (List ℕ)) (lines : List Line) (p q : PlayerState) (stop : Option StepFault) : Type 0 where
  pub still : IsStill p q
  pub does : stop ≡ None → Does p q (tasks_of_lines records (acts_of lines p.number))
  pub stops : (fault : StepFault) → stop ≡ Some fault → Stops p q (tasks_of_lines records (acts_of lines p.number)) fault
  pub idle : has_line lines p.number ≡ false → (q ≡ p) × (stop ≡ None)
