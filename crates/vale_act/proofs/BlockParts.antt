-- A block changes no pass's part, and no user's fabric.
use Rattle.std.proofs.Common.{◌≡◌, ℕ, zero, suc, List, [], ◌∷◌, ◌++◌, map, length, slice_get, Option, Some, None, refl, sym, ap, ◌∙◌, subst, arith}
use Rattle.std.specs.Prelude.{flat_map}
use Rattle.std.proofs.lemmas.List.{map-append}
use Rattle.nm_turn.specs.declared.view.Share.{Share}
use Rattle.nm_turn.specs.Rule.{part_of}
use Rattle.vale_fabric.specs.declared.fabric.Fabric.{Fabric}
use Rattle.vale_fabric.specs.Fabrics.{Knowing}
use Rattle.vale_script.specs.declared.script.Line.{Line}
use Rattle.vale_replay.specs.Machine.{Machine, resting}
use Rattle.vale_replay.specs.Tasks.{Task, tasks_of_lines}
use Rattle.vale_replay.specs.Replay.{acts_of}
use Rattle.nm_types.specs.declared.fault.StepFault.{StepFault}
use Rattle.vale_player.specs.Players.{PlayerState, Does, RunsLines, Stops, machine_of}
use Rattle.vale_player.specs.Users.{HasCome}
use Rattle.vale_act.specs.Units.{IsOn, knows_at}
use Rattle.vale_act.specs.Seats.{AllOn, AreEach, HasRun, IsHeld, MeetAll, TellAll}
use Rattle.vale_act.specs.declared.seat.Seat.{Seat}
use Rattle.vale_act.specs.declared.seat.Seat.TheVariants.{Away, There, Gone}
use Rattle.vale_act.proofs.Held.{held-as}
use Rattle.vale_player.proofs.Stays.{user-begins}
use Rattle.vale_act.proofs.BlockRuns.{there-too}

-- where each seat's parts are the same, all are
parts-each : (befores afters : List Seat) → length afters ≡ length befores
    → ((place : ℕ) (before after : Seat) → slice_get befores place ≡ Some before → slice_get afters place ≡ Some after → map part_of (knows_at after) ≡ map part_of (knows_at before))
    → map part_of (flat_map knows_at afters) ≡ map part_of (flat_map knows_at befores)
parts-each [] [] len each = refl
parts-each [] (after ∷ afters) len each = absurd (omega (arith, len))
parts-each (before ∷ befores) [] len each = absurd (omega (arith, len))
parts-each (before ∷ befores) (after ∷ afters) len each =
    let rest = parts-each befores afters (omega (arith, len)) (λ place b a one two. each (suc place) b a one two) in
    let here = each 0 before after refl refl in
    map-append part_of (knows_at after) (flat_map knows_at afters)
    ∙ (ap (λ (ps : List Share). ps ++ map part_of (flat_map knows_at afters)) here ∙ ap (λ (ps : List Share). map part_of (knows_at before) ++ ps) rest)
    ∙ sym (map-append part_of (knows_at before) (flat_map knows_at befores))

begun : (p : PlayerState) (tasks : List Task) → HasCome p.session.knows (resting (machine_of p (tasks ++ []))) p.session (machine_of p (tasks ++ []))
begun p tasks = user-begins p.session (machine_of p (tasks ++ [])) (record { session = refl; own = refl })

-- what a user does leaves its part
pub does-part : (p q : PlayerState) (tasks : List Task) → Does p q tasks → q.session.knows.part ≡ p.session.knows.part
does-part p q tasks does = (does [] p.session.knows (resting (machine_of p (tasks ++ []))) (begun p tasks)).works.part

pub stops-part : (p q : PlayerState) (tasks : List Task) (fault : StepFault) → Stops p q tasks fault → q.session.knows.part ≡ p.session.knows.part
stops-part p q tasks fault stops = (stops [] p.session.knows (resting (machine_of p (tasks ++ []))) (begun p tasks)).works.part

module _ (records : List ℕ → List (List ℕ)) (lines : List Line) where
  runs-part : (p q : PlayerState) (stop : Option StepFault) → RunsLines records lines p q stop → q.session.knows.part ≡ p.session.knows.part
  runs-part p q None runs = does-part p q (tasks_of_lines records (acts_of lines p.number)) (runs.does refl)
  runs-part p q (Some fault) runs = stops-part p q (tasks_of_lines records (acts_of lines p.number)) fault (runs.stops fault refl)

  run-part : (before after : Seat) → HasRun records lines before after → map part_of (knows_at after) ≡ map part_of (knows_at before)
  run-part Away after run = ap (λ (s : Seat). map part_of (knows_at s)) run
  run-part (Gone saves) after run = ap (λ (s : Seat). map part_of (knows_at s)) run
  run-part (There p fault) after run =
      ap (λ (s : Seat). map part_of (knows_at s)) run.1.1.0 ∙ ap (λ (x : Share). x ∷ []) (runs-part p run.0 run.1.0 run.1.1.1)

  run-on : (fabric : Fabric) (before after : Seat) → HasRun records lines before after → IsOn fabric before → IsOn fabric after
  run-on fabric Away after run on = subst (IsOn fabric) (sym run) tt
  run-on fabric (Gone saves) after run on = subst (IsOn fabric) (sym run) tt
  run-on fabric (There p fault) after run on = subst (IsOn fabric) (sym run.1.1.0) (run.1.1.1.still.fabric ∙ on.0, run.1.1.1.still.fixed ∙ on.1)

  pub ran-on : (fabric : Fabric) (mets rans : List Seat) → AllOn fabric mets → AreEach (λ place. HasRun records lines) mets rans → AllOn fabric rans
  ran-on fabric mets rans on ran place after at =
      let before = there-too rans mets place after (sym ran.len) at in
      run-on fabric before.0 after (ran.each place before.0 after before.1 at) (on place before.0 before.1)

  pub block-held : (v m w : Knowing) (befores mets rans afters : List Seat) → MeetAll v m befores mets → AreEach (λ place. HasRun records lines) mets rans → TellAll m w rans afters
      → IsHeld v (flat_map knows_at befores) → IsHeld w (flat_map knows_at afters)
  block-held v m w befores mets rans afters met ran told h =
      told.held (held-as m (flat_map knows_at mets) (flat_map knows_at rans) (parts-each mets rans ran.len (λ place before after one two. run-part before after (ran.each place before after one two))) (met.held h))
