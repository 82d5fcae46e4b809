-- What lines, blocks and the end of a script make of the sessions that can leave.
use Rattle.std.proofs.Common.{◌≡◌, ℕ, List, [], ◌∷◌, slice_get, slice_set, Option, Some, None, Result, Ok, Err, refl, sym, subst}
use mathlib.Core.List.{IsPrefix}
use Rattle.nm_turn.specs.Numbered.{numbered}
use Rattle.nm_turn.specs.Passes.{Knows, joined_view}
use Rattle.nm_types.specs.declared.fault.StepFault.{StepFault}
use Rattle.nm_user.specs.Leaving.{IsLeft}
use Rattle.nm_user.specs.Sessions.{IsThere}
use Rattle.vale_entry.specs.Legal.{IsLegal}
use Rattle.vale_fabric.specs.declared.fabric.Fabric.{Fabric}
use Rattle.vale_fabric.specs.declared.kept.Fixed.{Fixed}
use Rattle.vale_fabric.specs.Fabrics.{Knowing}
use Rattle.vale_fabric.specs.Roots.{root_of}
use Rattle.vale_replay.specs.Replay.{acts_of}
use Rattle.vale_replay.specs.Tasks.{tasks_of_lines}
use Rattle.vale_script.specs.declared.script.Act.{Act}
use Rattle.vale_script.specs.declared.script.Line.{Line}
use Rattle.vale_act.specs.declared.seat.Seat.{Seat}
use Rattle.vale_act.specs.declared.seat.Seat.TheVariants.{Away, There, Gone}
use Rattle.vale_player.specs.Players.{PlayerState}
use Rattle.vale_act.specs.Seats.{ActsLine, AreEach, AreNew, Comes, ComesNot, HasActed, HasMet, HasRun, HasTold, Meets, MeetAll, Tells, TellAll}
use Rattle.vale_act.specs.Leaving.{AllHaveLeft, CanAllLeave, CanStillLeave, ComesAlone, ComesAloneAt, EachLeaves, SeatStillLeaves}
use Rattle.vale_act.proofs.BlockRuns.{there-too}
use Rattle.vale_act.proofs.DepartingHistory.{all-leave}
use Rattle.vale_act.proofs.DepartingPasses.{learned-leaves, nobody-came}
use Rattle.vale_act.proofs.DepartingPlayers.{doer-alone, entered-alone, leaver-leaves, runner-alone, stopped-alone}
use Rattle.vale_act.proofs.DepartingSeats.{forked-alone, learner-alone, seat-leaves, seats-leave}
use Rattle.vale_act.proofs.DepartingTurns.{lines-keep}
use Rattle.vale_act.proofs.Alone.{same-begins}

-- ---- one seat

met-alone : (v : Knowing) (before after : Seat) → HasMet v before after → ComesAloneAt before → ComesAloneAt after
met-alone v Away after met alone = subst ComesAloneAt (sym met) tt
met-alone v (Gone saves) after met alone = subst ComesAloneAt (sym met) tt
met-alone v (There p fault) after met alone =
    subst ComesAloneAt (sym met.1.0) (learner-alone p met.0 met.1.1.same met.1.1.mine met.1.1.seen alone)

told-alone : (w : Knowing) (before after : Seat) → HasTold w before after → ComesAloneAt before → ComesAloneAt after
told-alone w Away after told alone = subst ComesAloneAt (sym told) tt
told-alone w (Gone saves) after told alone = subst ComesAloneAt (sym told) tt
told-alone w (There p fault) after told alone =
    subst ComesAloneAt (sym told.1.0) (forked-alone p told.0 told.1.1.same alone)

-- the main pass has seen no less, and made nothing
main-leaves : (v w : Knowing) → w.mine ≡ v.mine → IsPrefix v.seen w.seen → EachLeaves v → EachLeaves w
main-leaves v w mine begins each = learned-leaves v w mine begins each

pub meets-leaving : (v w : Knowing) (before after : Seat) → Meets v w before after → SeatStillLeaves v w before after
meets-leaving v w before after meets each alone =
    (main-leaves v w meets.mine (same-begins v w meets.seen) each, met-alone v before after meets.seat alone)

pub tells-leaving : (v w : Knowing) (before after : Seat) → Tells v w before after → SeatStillLeaves v w before after
tells-leaving v w before after tells each alone =
    (main-leaves v w tells.mine tells.begins each, told-alone w before after tells.seat alone)

module _ (records : List ℕ → List (List ℕ)) where
  acts-alone : (act : Act) (p q : PlayerState) (done : Result (Unit {0}) StepFault) → ActsLine records act p q done → IsThere None q.session → ComesAlone p.session → ComesAlone q.session
  acts-alone act p q (Ok x) acts there alone = doer-alone p q (tasks_of_lines records (act ∷ [])) there ((lines-keep records).lines (act ∷ [])) acts.does alone
  acts-alone act p q (Err fault) acts there alone = stopped-alone p q (tasks_of_lines records (act ∷ [])) fault there ((lines-keep records).lines (act ∷ [])) acts.stops alone

  acted-alone : (act : Act) (done : Result (Unit {0}) StepFault) (w : Knowing) (before after later : Seat)
      → HasActed records act done before after → HasTold w after later → ComesAloneAt before → ComesAloneAt after
  acted-alone act done w Away after later acted told alone = subst ComesAloneAt (sym acted.0) tt
  acted-alone act done w (Gone saves) after later acted told alone = subst ComesAloneAt (sym acted.0) tt
  acted-alone act done w (There p fault) after later acted told alone =
      let said = subst (λ (s : Seat). HasTold w s later) acted.1.0 told in
      subst ComesAloneAt (sym acted.1.0) (acts-alone act p acted.0 done acted.1.1 said.1.1.there alone)

  run-alone : (lines : List Line) (w : Knowing) (before after later : Seat)
      → HasRun records lines before after → HasTold w after later → ComesAloneAt before → ComesAloneAt after
  run-alone lines w Away after later run told alone = subst ComesAloneAt (sym run) tt
  run-alone lines w (Gone saves) after later run told alone = subst ComesAloneAt (sym run) tt
  run-alone lines w (There p fault) after later run told alone =
      let runs = run.1.1.1 in
      let said = subst (λ (s : Seat). HasTold w s later) run.1.1.0 told in
      subst ComesAloneAt (sym run.1.1.0)
      (runner-alone p run.0 (tasks_of_lines records (acts_of lines p.number)) run.1.0 said.1.1.there ((lines-keep records).lines (acts_of lines p.number)) runs.does runs.stops alone)

  -- a line of a user that is there, or is not
  pub line-leaving : (act : Act) (done : Result (Unit {0}) StepFault) (v m w : Knowing) (before met acted after : Seat)
      → Meets v m before met → HasActed records act done met acted → Tells m w acted after → SeatStillLeaves v w before after
  line-leaving act done v m w before met acted after meets acts tells each alone =
      let first = meets-leaving v m before met meets each alone in
      tells-leaving m w acted after tells first.0 (acted-alone act done w met acted after acts tells.seat first.1)

  -- the lines of a block
  pub block-leaving : (lines : List Line) (v m w : Knowing) (befores mets rans afters : List Seat)
      → MeetAll v m befores mets → AreEach (λ place. HasRun records lines) mets rans → TellAll m w rans afters → CanStillLeave v w befores afters
  block-leaving lines v m w befores mets rans afters met ran told can =
      let meets : CanAllLeave m mets =
      seats-leave v m befores mets met.seats.len (main-leaves v m met.mine (same-begins v m met.seen) can.each)
      (λ place before after one two alone. met-alone v before after (met.seats.each place before after one two) alone) can in
      let runs : CanAllLeave m rans =
      seats-leave m m mets rans ran.len meets.each (λ place before after one two alone.
      let later = there-too rans afters place after told.seats.len two in
      run-alone lines w before after later.0 (ran.each place before after one two) (told.seats.each place after later.0 two later.1) alone) meets in
      seats-leave m w rans afters told.seats.len (main-leaves m w told.mine told.begins runs.each)
      (λ place before after one two alone. told-alone w before after (told.seats.each place before after one two) alone) runs

-- ---- a user comes, or does not

pub comes-leaving : (fabric : Fabric) (number : ℕ) (v m w : Knowing) (p : PlayerState) (before after : Seat) → Comes fabric number v m p → Tells m w (There p None) after → SeatStillLeaves v w before after
comes-leaving fabric number v m w p before after comes tells each alone =
    tells-leaving m w (There p None) after tells (main-leaves v m comes.mine (same-begins v m comes.seen) each) (entered-alone fabric comes.began number p comes.began_mine comes.entered)

pub stays-leaving : (fixed : Fixed) (number : ℕ) (v w : Knowing) (fault : StepFault) (seat : Seat) → ComesNot fixed number v w fault → SeatStillLeaves v w seat seat
stays-leaving fixed number v w fault seat comes each alone = (main-leaves v w comes.mine comes.begins each, alone)

-- ---- a user leaves

pub absent-leaving : (v m : Knowing) (before met after : Seat) → Meets v m before met → ComesAloneAt after → SeatStillLeaves v m before after
absent-leaving v m before met after meets new each alone = ((meets-leaving v m before met meets each alone).0, new)

pub leaver-leaving : (v m w left : Knowing) (before met after : Seat) (p : PlayerState) (fault : Option StepFault) → Meets v m before met → met ≡ There p fault → ComesAloneAt after
    → IsLeft p.session left → w ≡ joined_view m left → Knows root_of w.seen m.seen m.mine × Knows root_of w.seen left.seen left.mine → SeatStillLeaves v w before after
leaver-leaving v m w left before met after p fault meets is new went joined known each alone =
    let first = meets-leaving v m before met meets each alone in
    let own : ComesAlone p.session = subst ComesAloneAt is first.1 in
    (leaver-leaves p.session left m w joined known went own first.0, new)

-- ---- all seats

pub seat-leaving : (v w : Knowing) (seats : List Seat) (place : ℕ) (before after : Seat) → slice_get seats place ≡ Some before → SeatStillLeaves v w before after → CanStillLeave v w seats (slice_set seats place after)
seat-leaving v w seats place before after here keeps can =
    let both = keeps can.each (can.alone place before here) in
    seat-leaves v w seats place after both.0 both.1 can

pub new-leaving : (count : ℕ) (main : Knowing) (seats : List Seat) → main.mine ≡ [] → AreNew count seats → CanAllLeave main seats
new-leaving count main seats none new = record {
  each = nobody-came main none;
  alone = λ place seat at. subst ComesAloneAt (sym (new.away place seat at)) tt;
}

-- ---- the end

pub ends-empty : (pool own : ℕ) (w : Knowing) → own ≡ pool → IsLegal pool w.seen → w.mine ≡ numbered 1 w.seen → EachLeaves w → AllHaveLeft own w.seen
ends-empty pool own w same legal mine each =
    subst (λ (n : ℕ). AllHaveLeft n w.seen) (sym same) (all-leave pool w.seen w legal (record { all_seen = refl; all_mine = mine }) each)
