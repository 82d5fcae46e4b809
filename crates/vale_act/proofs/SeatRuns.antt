-- A user does its own lines of a block, and the fault that stops it is kept at its seat.
use Rattle.std.proofs.Common.{◌≡◌, ℕ, List, Option, refl, sym, subst}
use Rattle.nm_types.specs.declared.fault.StepFault.{StepFault}
use Rattle.vale_script.specs.declared.script.Line.{Line}
use Rattle.vale_player.specs.Players.{PlayerState, RunsLines}
use Rattle.vale_act.specs.Seats.{HasRun}
use Rattle.vale_act.specs.declared.seat.Seat.{Seat}
use Rattle.vale_act.specs.declared.seat.Seat.TheVariants.{There}

module _ (records : List ℕ → List (List ℕ)) (lines : List Line) where
  pub has-run : (before : Seat) (p q r : PlayerState) (fault other stop : Option StepFault) → before ≡ There p fault → There q fault ≡ There r other → RunsLines records lines p q stop → HasRun records lines before (There r stop)
  has-run before p q r fault other stop was same runs =
      let is : q ≡ r = cc in
      subst (λ (b : Seat). HasRun records lines b (There r stop)) (sym was) (r, (stop, (refl, subst (λ (x : PlayerState). RunsLines records lines p x stop) is runs)))
