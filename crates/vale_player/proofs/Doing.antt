-- Tasks of a line one after another, and where they stop.
use Rattle.std.proofs.Common.{◌≡◌, Bool, true, false, List, [], ◌∷◌, ◌++◌, Some, None, refl, ◌∙◌, subst, append_assoc}
use Rattle.nm_types.specs.declared.fault.StepFault.{StepFault}
use Rattle.vale_fabric.specs.Fabrics.{Knowing}
use Rattle.nm_user.specs.Sessions.{IsThere}
use Rattle.vale_replay.specs.Tasks.{Task, EndLine, lines_left}
use Rattle.vale_replay.specs.Machine.{Machine, call_of_tasks}
use Rattle.vale_player.specs.Users.{HasCome}
use Rattle.vale_player.specs.Lines.{user_with}
use Rattle.vale_player.specs.Players.{PlayerState, machine_of, Does, Ends, DoesOrEnds, DoesLine, Stops, StopsAt, IsStill}
use Rattle.vale_player.proofs.LineLaws.{lines-end}
use Rattle.vale_replay.proofs.Parts.{call-same}
use Rattle.vale_player.proofs.Stays.{refused-stops}

-- ---- the same user

pub still-self : (p : PlayerState) → IsStill p p
still-self p = record { number = refl; names = refl; fabric = refl; fixed = refl }

pub still-then : {p q r : PlayerState} → IsStill p q → IsStill q r → IsStill p r
still-then one two = record { number = two.number ∙ one.number; names = two.names ∙ one.names; fabric = two.fabric ∙ one.fabric; fixed = two.fixed ∙ one.fixed }

-- ---- tasks and tasks behind them

-- no line ends in these tasks
abbrev pub HasNoEnd : List Task → Type 0
HasNoEnd tasks = (rest : List Task) → lines_left (tasks ++ rest) ≡ lines_left rest

-- where a user has come, its tasks put together in another way
regroup : {began : Knowing} {first : Machine} (p : PlayerState) (one other : List Task) → one ≡ other → HasCome began first p.session (machine_of p one) → HasCome began first p.session (machine_of p other)
regroup {began} {first} p one other same come = subst (λ (tasks : List Task). HasCome began first p.session (machine_of p tasks)) same come

module _ (p q r : PlayerState) (tasks more : List Task) where
  pub does-then : Does p q tasks → Does q r more → Does p r (tasks ++ more)
  does-then one two rest began first come =
      two rest began first (one (more ++ rest) began first (regroup p ((tasks ++ more) ++ rest) (tasks ++ (more ++ rest)) (append_assoc tasks more rest) come))

  pub does-ends : Does p q tasks → Ends q r more → Ends p r (tasks ++ more)
  does-ends one two rest began first come =
      two rest began first (one (more ++ rest) began first (regroup p ((tasks ++ more) ++ rest) (tasks ++ (more ++ rest)) (append_assoc tasks more rest) come))

  pub does-stops : (fault : StepFault) → Does p q tasks → Stops q r more fault → Stops p r (tasks ++ more) fault
  does-stops fault one two rest began first come =
      two rest began first (one (more ++ rest) began first (regroup p ((tasks ++ more) ++ rest) (tasks ++ (more ++ rest)) (append_assoc tasks more rest) come))

module _ (p q : PlayerState) (tasks more : List Task) where
  -- what ends a line before tasks of it ends it with them
  pub ends-more : Ends p q tasks → HasNoEnd more → Ends p q (tasks ++ more)
  ends-more ends none rest began first come =
      regroup q (lines_left (more ++ rest)) (lines_left rest) (none rest)
      (ends (more ++ rest) began first (regroup p ((tasks ++ more) ++ rest) (tasks ++ (more ++ rest)) (append_assoc tasks more rest) come))

  pub stops-more : (fault : StepFault) → Stops p q tasks fault → Stops p q (tasks ++ more) fault
  stops-more fault stops rest began first come =
      stops (more ++ rest) began first (regroup p ((tasks ++ more) ++ rest) (tasks ++ (more ++ rest)) (append_assoc tasks more rest) come)

pub does-none : (p : PlayerState) → Does p p []
does-none p rest began first come = come

-- ---- lines

module _ (p q : PlayerState) (tasks : List Task) where
  at-end : (rest : List Task) → (tasks ++ EndLine ∷ []) ++ rest ≡ tasks ++ EndLine ∷ rest
  at-end rest = append_assoc tasks (EndLine ∷ []) rest

  -- a line whose tasks are done is done
  pub does-line : Does p q tasks → DoesLine p q tasks
  does-line does rest began first come =
      lines-end q.number q.saves q.session rest began first (does (EndLine ∷ rest) began first (regroup p ((tasks ++ EndLine ∷ []) ++ rest) (tasks ++ EndLine ∷ rest) (at-end rest) come))

  -- and so is one that has ended early
  pub ends-line : Ends p q tasks → DoesLine p q tasks
  ends-line ends rest began first come =
      lines-end q.number q.saves q.session rest began first (ends (EndLine ∷ rest) began first (regroup p ((tasks ++ EndLine ∷ []) ++ rest) (tasks ++ EndLine ∷ rest) (at-end rest) come))

  pub either-line : (goes : Bool) → DoesOrEnds p q tasks goes → DoesLine p q tasks
  either-line true does = does-line does
  either-line false ends = ends-line ends

  -- one that stops in its tasks stops in its line
  pub stops-line : (fault : StepFault) → Stops p q tasks fault → Stops p q (tasks ++ EndLine ∷ []) fault
  stops-line fault stops = stops-more p q tasks (EndLine ∷ []) fault stops

-- ---- a task whose call made no entry

pub stops-at : (p q : PlayerState) (task : Task) (more : List Task) (fault : StepFault) → IsThere None p.session → StopsAt p q task fault → Stops p q (task ∷ more) fault
stops-at p q task more fault here at rest began first come =
    let now = machine_of p (task ∷ more ++ rest) in
    let call : call_of_tasks now now.tasks ≡ Some at.ask = call-same (user_with p.number p.saves p.session []) (task ∷ more ++ rest) task ∙ at.calls in
    refused-stops p.session q.session began first now at.ask fault here come call at.none
