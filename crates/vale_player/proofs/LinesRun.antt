-- A user does its own lines of a block, or has none in it.
use Rattle.std.proofs.Common.{◌≡◌, ℕ, Bool, true, false, List, [], ◌∷◌, ◌++◌, Some, None, ◌==◌, ◌||◌, cond, filter, map, refl, sym, ap, ◌∙◌, subst}
use Rattle.nm_types.specs.declared.fault.StepFault.{StepFault}
use Rattle.vale_script.specs.declared.script.Line.{Line}
use Rattle.vale_replay.specs.Tasks.{Task, tasks_of_lines}
use Rattle.vale_replay.specs.Replay.{act_of, acts_of, has_line, is_of_user}
use Rattle.vale_player.specs.Players.{PlayerState, Does, IsStill, RunsLines, Stops, machine_of}
use Rattle.vale_player.specs.Users.{HasCome}

pub none-of : (lines : List Line) (number : ℕ) → has_line lines number ≡ false → acts_of lines number ≡ []
none-of [] number none = refl
none-of (line ∷ lines) number none = by (line.user == number) refl (none-of lines number)
  where
    by : (b : Bool) → (line.user == number) ≡ b → (has_line lines number ≡ false → acts_of lines number ≡ []) → acts_of (line ∷ lines) number ≡ []
    by true e rest = let clash : true ≡ false = ap (λ (b : Bool). b || has_line lines number) (sym e) ∙ none in absurd cc
    by false e rest =
        let left : List Line = filter (is_of_user number) lines in
        ap (λ (b : Bool). map act_of (cond b (line ∷ left) left)) e ∙ rest (ap (λ (b : Bool). b || has_line lines number) (sym e) ∙ none)

module _ (records : List ℕ → List (List ℕ)) (lines : List Line) where
  pub runs-none : (p : PlayerState) → has_line lines p.number ≡ false → RunsLines records lines p p None
  runs-none p none =
      let no-acts : acts_of lines p.number ≡ [] = none-of lines p.number none in
      let no-tasks : tasks_of_lines records (acts_of lines p.number) ≡ [] = ap (tasks_of_lines records) no-acts in
      record {
        still = record { number = refl; names = refl; fabric = refl; fixed = refl };
        does = λ is rest began first come. subst (λ (ts : List Task). HasCome began first p.session (machine_of p (ts ++ rest))) no-tasks come;
        stops = λ fault is. absurd cc;
        idle = λ is. (refl, refl);
      }

  pub runs-done : (p q : PlayerState) → has_line lines p.number ≡ true → IsStill p q → Does p q (tasks_of_lines records (acts_of lines p.number)) → RunsLines records lines p q None
  runs-done p q has still does = record {
    still = still;
    does = λ is. does;
    stops = λ fault is. absurd cc;
    idle = λ none. absurd cc;
  }

  pub runs-stopped : (p q : PlayerState) (fault : StepFault) → has_line lines p.number ≡ true → IsStill p q → Stops p q (tasks_of_lines records (acts_of lines p.number)) fault → RunsLines records lines p q (Some fault)
  runs-stopped p q fault has still stops = record {
    still = still;
    does = λ is. absurd cc;
    stops = λ other is. let same : fault ≡ other = cc in subst (λ (f : StepFault). Stops p q (tasks_of_lines records (acts_of lines p.number)) f) same stops;
    idle = λ none. absurd cc;
  }
