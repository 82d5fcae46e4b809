-- A block, from what each user makes of its lines in it.
use Rattle.std.proofs.Common.{◌≡◌, Result, Ok, Err, OnOk, IfErr, ℕ, ◌+◌, ◌<◌, ◌≤◌, Bool, true, false, List, [], ◌∷◌, length, slice_get, Option, Some, None, refl, sym, ap, ◌∙◌, subst, arith}
use Rattle.std.specs.List.{AllByRecursion}
use Rattle.std.proofs.lemmas.Option.{slice_get_within, slice_get-get_or}
use Rattle.std.specs.Prelude.{get_or}
use mathlib.Core.List.{IsPrefix}
use Rattle.nm_types.specs.declared.fault.StepFault.{StepFault}
use Rattle.nm_types.specs.declared.fault.StepFault.TheVariants.{RecordFull, NoMemory}
use Rattle.nm_types.specs.declared.fault.Part.{Part}
use Rattle.nm_turn.specs.Passes.{kept_view}
use Rattle.vale_entry.specs.declared.entry.Ask.{Ask}
use Rattle.vale_entry.specs.declared.entry.Entry.{Entry}
use Rattle.vale_fabric.specs.declared.fabric.Fabric.{Fabric}
use Rattle.vale_fabric.specs.declared.kept.Fixed.{Fixed}
use Rattle.vale_fabric.specs.Fabrics.{Knowing, fixed_in}
use Rattle.vale_script.specs.declared.script.Line.{Line}
use Rattle.vale_script.specs.declared.script.Unit.TheVariants as parts
use Rattle.vale_replay.specs.Tasks.{tasks_of_lines}
use Rattle.vale_replay.specs.Replay.{acts_of, has_line, shares_of}
use Rattle.vale_player.specs.Players.{PlayerState, Does, RunsLines, Stops}
use Rattle.vale_act.specs.Units.{IsOn, PlaysBlockAt, PlaysUnit, ReplaysBlockAt, StopsBlockAt, IsFullInLines, IsInBlock, IsSame, StaysAt}
use Rattle.vale_act.specs.Seats.{AllAre, AllOn, AreEach, AreSeated, IsDeedLine, IsFirstFault, IsSeated, IsUnitStop, HasLearned, HasMet, HasNoFault, HasRun, HasSaid, HasTold, MeetAll, TellAll, fault_at, with_knows}
use Rattle.vale_act.specs.declared.seat.Seat.{Seat}
use Rattle.vale_act.specs.declared.seat.Seat.TheVariants.{Away, There, Gone}
use Rattle.vale_act.proofs.AllSeats.{some-is}
use Rattle.vale_act.proofs.DeedTasks.{lines-need}
use Rattle.vale_act.proofs.SharesBlock.{block-unit, block-stops}
use Rattle.vale_act.proofs.SharesEach.{block-of-each, stop-of-each}
use Rattle.vale_act.proofs.SharesLines.{absent-of-block, idle-of-block, play-replays, player-plays, player-stops, player-full}

-- what a block makes of a seat
pub record SeatRuns (fixed : Fixed) (records : List ℕ → List (List ℕ)) (lines : List Line) (v w : Knowing) (number : ℕ) (before after : Seat) : Type 0 where
  pub plays : fault_at after ≡ None → PlaysBlockAt fixed.pool number records lines v w before after
  pub replays : ReplaysBlockAt fixed.pool number records lines v w before after
  pub full : (what : Part) (used want : ℕ) → fault_at after ≡ Some (RecordFull what used want) → (count : ℕ) × IsFullInLines fixed number records lines count (RecordFull what used want) v w before after
  pub seat : IsSeated number after

module _ (fabric : Fabric) (records : List ℕ → List (List ℕ)) (lines : List Line) (v w : Knowing) (begins : IsPrefix v.seen w.seen) (deeds : AllByRecursion IsDeedLine lines) where
  abbrev fixed : Fixed
  fixed = fixed_in fabric

  abbrev Runs : ℕ → Seat → Seat → Type 0
  Runs number before after = SeatRuns fixed records lines v w number before after

  played : (number : ℕ) (before after : Seat) → fault_at after ≡ None → IsSeated number after → PlaysBlockAt fixed.pool number records lines v w before after → Runs number before after
  played number before after none seat plays = record {
    plays = λ is. plays;
    replays = play-replays fixed.pool number records lines v w before after plays;
    full = λ what used want is. absurd cc;
    seat = seat;
  }

  absent : (number : ℕ) → Runs number Away Away
  absent number = played number Away Away refl tt (absent-of-block fixed.pool number records lines v w (lines-need records lines number deeds) begins)

  module _ (number : ℕ) (p p1 q p3 : PlayerState) (fault : Option StepFault) (is-number : p.number ≡ number) (is-fixed : p.session.fixed ≡ fixed) (learned : HasLearned v p p1) (said : HasSaid w q p3) where
    met-number : p1.number ≡ number
    met-number = ap (λ (x : PlayerState). x.number) learned.same ∙ is-number

    told-knows : p3.session.knows ≡ kept_view q.session.knows
    told-knows = ap (λ (x : PlayerState). x.session.knows) said.same

    told-same : IsSame q p3
    told-same = said.same ∙ ap (λ (k : Knowing). with_knows k q) (sym told-knows)

    told-mine : p3.session.knows.mine ≡ q.session.knows.mine
    told-mine = ap (λ (k : Knowing). k.mine) told-knows

    in-block : has_line lines number ≡ true → IsInBlock number lines p p1 q p3 v w
    in-block has = record {
      number_is = is-number;
      has = has;
      same = learned.same;
      met_mine = learned.mine;
      parts = told-same;
      parted_mine = told-mine;
      low = learned.news;
      high = said.seen;
    }

    module _ (stop : Option StepFault) (runs : RunsLines records lines p1 q stop) where
      ran-fixed : q.session.fixed ≡ fixed
      ran-fixed = runs.still.fixed ∙ (ap (λ (x : PlayerState). x.session.fixed) learned.same ∙ is-fixed)

      ran-number : p3.number ≡ number
      ran-number = ap (λ (x : PlayerState). x.number) said.same ∙ (runs.still.number ∙ met-number)

      idles : has_line lines number ≡ false → Runs number (There p fault) (There p3 stop)
      idles none =
          let idle = runs.idle (ap (has_line lines) met-number ∙ none) in
          let same : IsSame p p3 = told-same ∙ (ap (λ (x : PlayerState). with_knows p3.session.knows x) idle.0 ∙ ap (λ (x : PlayerState). with_knows p3.session.knows x) learned.same) in
          let mine : p3.session.knows.mine ≡ p.session.knows.mine = told-mine ∙ (ap (λ (x : PlayerState). x.session.knows.mine) idle.0 ∙ learned.mine) in
          played number (There p fault) (There p3 stop) idle.1 ran-number
          (idle-of-block fixed.pool number records lines v w (There p fault) (There p3 stop) none (same, mine))

    works : has_line lines number ≡ true → (stop : Option StepFault) → RunsLines records lines p1 q stop → Runs number (There p fault) (There p3 stop)
    works has None runs =
        played number (There p fault) (There p3 None) refl (ran-number None runs)
        (player-plays fixed.pool number records lines p p1 q p3 v w fault None (in-block has) runs.still said.there (ap (λ (f : Fixed). f.pool) (ran-fixed None runs))
        (subst (λ (n : ℕ). Does p1 q (tasks_of_lines records (acts_of lines n))) met-number (runs.does refl)))
    works has (Some stop) runs =
        let stops : Stops p1 q (tasks_of_lines records (acts_of lines number)) stop = subst (λ (n : ℕ). Stops p1 q (tasks_of_lines records (acts_of lines n)) stop) met-number (runs.stops stop refl) in
        record {
          plays = λ is. absurd cc;
          replays = player-stops fixed.pool number records lines p p1 q p3 v w fault (Some stop) stop (in-block has) (ap (λ (f : Fixed). f.pool) (ran-fixed (Some stop) runs)) stops;
          full = λ what used want is.
              let same : stop ≡ RecordFull what used want = cc in (
                length q.session.knows.seen,
                player-full fixed number records lines p p1 q p3 v w fault (Some stop) what used want (in-block has) (ran-fixed (Some stop) runs)
                    (subst (λ (f : StepFault). Stops p1 q (tasks_of_lines records (acts_of lines number)) f) same stops),
              );
          seat = ran-number (Some stop) runs;
        }

    seat-there : (stop : Option StepFault) → RunsLines records lines p1 q stop → Runs number (There p fault) (There p3 stop)
    seat-there stop runs = by (has_line lines number) refl
      where
        by : (b : Bool) → has_line lines number ≡ b → Runs number (There p fault) (There p3 stop)
        by true has = works has stop runs
        by false none = idles stop runs none

  seat-runs : (number : ℕ) (before mt rn after : Seat) → IsSeated number before → IsOn fabric before → HasMet v before mt → HasRun records lines mt rn → HasTold w rn after → Runs number before after
  seat-runs number Away mt rn after seat on met run told =
      let ran : rn ≡ Away = subst (λ (s : Seat). HasRun records lines s rn) met run in
      let is : after ≡ Away = subst (λ (s : Seat). HasTold w s after) ran told in
      subst (λ (s : Seat). Runs number Away s) (sym is) (absent number)
  seat-runs number (Gone saves) mt rn after seat on met run told = absurd seat
  seat-runs number (There p fault) mt rn after seat on met run told =
      let p1 = met.0 in
      let ran = subst (λ (s : Seat). HasRun records lines s rn) met.1.0 run in
      let q = ran.0 in
      let stop = ran.1.0 in
      let said = subst (λ (s : Seat). HasTold w s after) ran.1.1.0 told in
      let p3 = said.0 in
      subst (λ (s : Seat). Runs number (There p fault) s) (sym said.1.0) (seat-there number p p1 q p3 fault seat on.1 met.1.1 said.1.1 stop ran.1.1.1)

-- an element that stands in a list as long as another
pub there-too : {X : Type 0} (xs ys : List X) (k : ℕ) (x : X) → length ys ≡ length xs → slice_get xs k ≡ Some x → (y : X) × (slice_get ys k ≡ Some y)
there-too xs ys k x len at =
    let within = slice_get_within xs k x at in
    (get_or ys k x, slice_get-get_or ys k x (omega (arith, len, within)))

module _ (fabric : Fabric) (records : List ℕ → List (List ℕ)) (lines : List Line) (v m w : Knowing) (befores mets rans afters : List Seat)
    (met : MeetAll v m befores mets) (ran : AreEach (λ place. HasRun records lines) mets rans) (told : TellAll m w rans afters)
    (on : AllOn fabric befores) (seated : AreSeated befores) (deeds : AllByRecursion IsDeedLine lines) where
  pub block-begins : IsPrefix v.seen w.seen
  block-begins = subst (λ (l : List Entry). IsPrefix l w.seen) met.seen told.begins

  block-mine : w.mine ≡ v.mine
  block-mine = told.mine ∙ met.mine

  pub block-length : length afters ≡ length befores
  block-length = told.seats.len ∙ (ran.len ∙ met.seats.len)

  at-place : (place : ℕ) (before after : Seat) → slice_get befores place ≡ Some before → slice_get afters place ≡ Some after → SeatRuns (fixed_in fabric) records lines v w (place + 1) before after
  at-place place before after one two =
      let mt = there-too befores mets place before met.seats.len one in
      let rn = there-too mets rans place mt.0 ran.len mt.1 in
      seat-runs fabric records lines v w block-begins deeds (place + 1) before mt.0 rn.0 after (seated place before one) (on place before one)
      (met.seats.each place before mt.0 one mt.1) (ran.each place mt.0 rn.0 mt.1 rn.1) (told.seats.each place rn.0 after rn.1 two)

  pub block-seated : AreSeated afters
  block-seated place after two =
      let one = there-too afters befores place after (sym block-length) two in
      (at-place place one.0 after one.1 two).seat

  pub block-plays : AllAre (λ place. HasNoFault) afters → PlaysUnit (fixed_in fabric).pool (shares_of records (length befores) (parts.Block lines)) v w befores afters
  block-plays none =
      block-unit (fixed_in fabric).pool records lines v w befores afters block-begins block-mine
      (block-of-each (fixed_in fabric).pool records lines v w befores afters block-length (λ place before after one two. (at-place place before after one two).plays (none place after two)))

  abbrev StopsBlockAtOf : Fixed → ℕ → Ask → ℕ → Seat → Seat → Type 0
  StopsBlockAtOf fixed count call at before after = StopsBlockAt fixed.pool (at + 1) records lines count call v w before after

  pub block-stopped : (fault : StepFault) → IsFirstFault afters fault → IsUnitStop (fixed_in fabric) (shares_of records (length befores) (parts.Block lines)) v w befores afters fault
  block-stopped NoMemory first = tt
  block-stopped (RecordFull what used want) first =
      let fixed = fixed_in fabric in
      let at = first.place in
      let one = there-too afters befores at first.seat (sym block-length) first.here in
      let full = (at-place at one.0 first.seat one.1 first.here).full what used want first.fault_is in
      let count = full.0 in
      let stops = full.1 in
      let within = slice_get_within befores at one.0 one.1 in
      let here : (before after : Seat) → slice_get befores at ≡ Some before → slice_get afters at ≡ Some after → StopsBlockAtOf fixed count stops.call at before after = λ before after b a.
      subst (λ (x : Seat). StopsBlockAtOf fixed count stops.call at x after) (some-is one.0 before (sym one.1 ∙ b))
      (subst (λ (x : Seat). StopsBlockAtOf fixed count stops.call at one.0 x) (some-is first.seat after (sym first.here ∙ a)) stops.stops) in
      record {
        user = at + 1;
        count = count;
        call = stops.call;
        stops = block-stops fixed records lines at count stops.call (RecordFull what used want) v w befores afters block-begins block-mine
            (stop-of-each fixed.pool records lines at count stops.call v w befores afters block-length within
            (λ place before after b a less. (at-place place before after b a).plays (first.none_before place after less a))
            here
            (λ place before after b a above. (at-place place before after b a).replays))
            stops.forward stops.seen stops.refusal;
      }

-- what a result tells
pub if-ok : {X E : Type 0} {P Q : Type 0} (r : Result X E) → OnOk r P → (P → Q) → OnOk r Q
if-ok (Ok x) p f = f p
if-ok (Err e) p f = tt

pub if-err : {X E : Type 0} {P Q : E → Type 0} (r : Result X E) → IfErr r P → ((e : E) → P e → Q e) → IfErr r Q
if-err (Ok x) p f = tt
if-err (Err e) p f = f e p
