-- What a player does of its lines, one behind another.
use Rattle.std.proofs.Common.{ℕ, ◌≡◌, ◌==◌, Bool, true, false, cond, List, [], ◌∷◌, ◌++◌, map, filter, length, get_or, drop, Result, Ok, Err, IfErr, inl, inr, ◌⊎◌, suc, ◌+◌, ◌<◌, ◌≤◌, add-one, refl, sym, ◌∙◌, ap, subst}
use Rattle.std.specs.Prelude.{OnOk}
use Rattle.std.proofs.lemmas.List.{drop_all}
use Rattle.std.proofs.Math.Seq.{drop-cons}
use Rattle.nm_types.specs.Frames.{Frame}
use Rattle.nm_types.specs.declared.id.Mac.{Mac}
use Rattle.nm_types.specs.declared.id.Sides.{Sides}
use Rattle.nm_types.specs.declared.fault.StepFault.{StepFault}
use Rattle.vale_script.specs.declared.script.Act.{Act}
use Rattle.vale_script.specs.declared.script.Act.TheVariants as acts
use Rattle.vale_script.specs.declared.script.Line.{Line}
use Rattle.vale_replay.specs.Tasks.{Task, Arrive, TakeFrames, ChangeOwn, SaveFrames, EndLine, tasks_of, tasks_of_line, tasks_of_lines}
use Rattle.vale_replay.specs.Replay.{acts_of, act_of, is_of_user}
use Rattle.vale_player.specs.Lines.{user_with}
use Rattle.vale_player.specs.Players.{PlayerState, with_act, with_save, Does, DoesLine, HasCalled, Stops, IsStill}
use Rattle.vale_player.specs.Deeds.{IsOnRings, receive_tasks}
use Rattle.vale_player.proofs.Doing.{still-self, still-then, does-then, does-stops, stops-more, does-line, does-none, stops-at}
use Rattle.vale_player.proofs.LineLaws.{own-acts, files-saved}
use Rattle.vale_player.proofs.Stays.{task-done}

-- ---- single tasks

-- a user that is there need not come
pub arrived : (p : PlayerState) → Does p p (Arrive ∷ [])
arrived p rest began first come = task-done p.session began first (user_with p.number p.saves p.session (Arrive ∷ rest)) Arrive rest come refl refl

pub changed : (p : PlayerState) (act : Act) → Does p (with_act act p) (ChangeOwn act ∷ [])
changed p act rest began first come = own-acts p.number p.saves p.session act rest began first come

pub saved : (p : PlayerState) (name file : List ℕ) → Does p (with_save name file p) (SaveFrames name file ∷ [])
saved p name file rest began first come = files-saved p.number p.saves p.session name file rest began first come

-- ---- a line

-- what a line makes of its user, by what it answers
pub record IsDone (p q : PlayerState) (tasks : List Task) (r : Result (Unit {0}) StepFault) : Type 0 where
  pub does : OnOk r (DoesLine p q tasks)
  pub stops : IfErr r (Stops p q tasks)
  pub still : IsStill p q

-- a call that makes one entry, or none
pub single-done : (p q : PlayerState) (task : Task) (r : Result (Unit {0}) StepFault) → HasCalled p q task r → IsDone p q (task ∷ []) r
single-done p q task (Ok x) call = record { does = does-line p q (task ∷ []) call.does; stops = tt; still = call.still }
single-done p q task (Err fault) call = record { does = tt; stops = stops-at p q task [] fault call.there call.stops; still = call.still }

-- one that changes the user's own side first
pub change-then : (p q : PlayerState) (act : Act) (task : Task) (r : Result (Unit {0}) StepFault) → HasCalled (with_act act p) q task r → IsDone p q (ChangeOwn act ∷ task ∷ []) r
change-then p q act task (Ok x) call = record {
  does = does-line p q (ChangeOwn act ∷ task ∷ []) (does-then p (with_act act p) q (ChangeOwn act ∷ []) (task ∷ []) (changed p act) call.does);
  stops = tt;
  still = record { number = call.still.number; names = call.still.names; fabric = call.still.fabric; fixed = call.still.fixed };
}
change-then p q act task (Err fault) call = record {
  does = tt;
  stops = does-stops p (with_act act p) q (ChangeOwn act ∷ []) (task ∷ []) fault (changed p act) (stops-at (with_act act p) q task [] fault call.there call.stops);
  still = record { number = call.still.number; names = call.still.names; fabric = call.still.fabric; fixed = call.still.fixed };
}

-- a line is done, or stops, as its act says
module _ (records : List ℕ → List (List ℕ)) (p q : PlayerState) (act arm : Act) (r : Result (Unit {0}) StepFault) (is : act ≡ arm) where
  pub does-as : OnOk r (DoesLine p q (tasks_of records arm)) → OnOk r (DoesLine p q (tasks_of records act))
  does-as done = subst (λ (a : Act). OnOk r (DoesLine p q (tasks_of records a))) (sym is) done

  pub stops-as : IfErr r (Stops p q (tasks_of records arm)) → IfErr r (Stops p q (tasks_of records act))
  stops-as stops = subst (λ (a : Act). IfErr r (Stops p q (tasks_of records a))) (sym is) stops

  pub done-as : IsDone p q (tasks_of records arm) r → IsDone p q (tasks_of records act) r
  done-as done = subst (λ (a : Act). IsDone p q (tasks_of records a) r) (sym is) done

-- one that does nothing to a port is done on its rings
pub on-rings : (act : Act)
    → (act ≡ acts.Enter → ⊥)
    → ((name : List ℕ) (tx : ℕ) (rx : ℕ) (extra : ℕ) → act ≡ acts.Open name tx rx extra → ⊥)
    → ((monitor : List ℕ) (target : List ℕ) (sides : Sides) → act ≡ acts.Watch monitor target sides → ⊥)
    → ((name : List ℕ) → act ≡ acts.Stat name → ⊥)
    → ((name : List ℕ) (file : List ℕ) → act ≡ acts.Save name file → ⊥)
    → ((name : List ℕ) → act ≡ acts.Close name → ⊥)
    → IsOnRings act
on-rings acts.Enter e o w s v c = absurd (e refl)
on-rings (acts.Open name tx rx extra) e o w s v c = absurd (o name tx rx extra refl)
on-rings (acts.Watch monitor target sides) e o w s v c = absurd (w monitor target sides refl)
on-rings (acts.Stat name) e o w s v c = absurd (s name refl)
on-rings (acts.Save name file) e o w s v c = absurd (v name file refl)
on-rings (acts.Close name) e o w s v c = absurd (c name refl)
on-rings _ e o w s v c = tt

-- and one on rings that moves no frames makes no call
pub change-only : (records : List ℕ → List (List ℕ)) (act : Act) → IsOnRings act
    → ((name : List ℕ) (count : ℕ) (to : Mac) (from : Mac) (len : ℕ) (fill : ℕ) → act ≡ acts.Put name count to from len fill → ⊥)
    → ((name : List ℕ) (frame : Frame) → act ≡ acts.Hex name frame → ⊥)
    → ((name : List ℕ) (file : List ℕ) (batch : ℕ) → act ≡ acts.Play name file batch → ⊥)
    → ((name : List ℕ) → act ≡ acts.Tx name → ⊥)
    → ((name : List ℕ) (keep : Bool) → act ≡ acts.Rx name keep → ⊥)
    → tasks_of records act ≡ ChangeOwn act ∷ []
change-only records acts.Enter on u h y t r = absurd on
change-only records (acts.Open name tx rx extra) on u h y t r = absurd on
change-only records (acts.Put name count to from len fill) on u h y t r = absurd (u name count to from len fill refl)
change-only records (acts.Hex name frame) on u h y t r = absurd (h name frame refl)
change-only records (acts.Play name file batch) on u h y t r = absurd (y name file batch refl)
change-only records (acts.Tx name) on u h y t r = absurd (t name refl)
change-only records (acts.Rx name keep) on u h y t r = absurd (r name keep refl)
change-only records (acts.Watch monitor target sides) on u h y t r = absurd on
change-only records (acts.Stat name) on u h y t r = absurd on
change-only records (acts.Save name file) on u h y t r = absurd on
change-only records (acts.Close name) on u h y t r = absurd on
change-only records _ on u h y t r = refl

-- what a line makes that gives all frames back before its sync, unless it keeps them
pub received : (p mid q : PlayerState) (name : List ℕ) (keep : Bool) (r : Result (Unit {0}) StepFault)
    → ((keep ≡ true) × (mid ≡ p)) ⊎ ((keep ≡ false) × (mid ≡ with_act (acts.Rx name false) p))
    → HasCalled mid q (TakeFrames name) r → IsDone p q (receive_tasks name keep) r
received p mid q name true r (inl way) call = subst (λ (x : PlayerState). IsDone x q (TakeFrames name ∷ []) r) way.1 (single-done mid q (TakeFrames name) r call)
received p mid q name true r (inr way) call = absurd (let differ = way.0 in cc)
received p mid q name false r (inl way) call = absurd (let differ = way.0 in cc)
received p mid q name false r (inr way) call =
    change-then p q (acts.Rx name false) (TakeFrames name) r (subst (λ (x : PlayerState). HasCalled x q (TakeFrames name) r) way.1 call)

-- ---- the lines of a block

abbrev pub block_tasks : (List ℕ → List (List ℕ)) → List Line → ℕ → List Task
block_tasks records lines number = tasks_of_lines records (acts_of lines number)

-- what is left of them does what all of them do
pub record AreLeft (records : List ℕ → List (List ℕ)) (number : ℕ) (p q : PlayerState) (left all : List Line) : Type 0 where
  pub does : (r : PlayerState) → Does q r (block_tasks records left number) → Does p r (block_tasks records all number)
  pub stops : (r : PlayerState) (fault : StepFault) → Stops q r (block_tasks records left number) fault → Stops p r (block_tasks records all number) fault
  pub still : IsStill p q

pub all-left : (records : List ℕ → List (List ℕ)) (number : ℕ) (p : PlayerState) (all : List Line) → AreLeft records number p p all all
all-left records number p all = record { does = λ r does. does; stops = λ r fault stops. stops; still = still-self p }

own-line : (records : List ℕ → List (List ℕ)) (number : ℕ) (line : Line) (left : List Line) → (line.user == number) ≡ true
    → block_tasks records (line ∷ left) number ≡ tasks_of_line records line.act ++ block_tasks records left number
own-line records number line left own =
    ap (λ (b : Bool). tasks_of_lines records (map act_of (cond b (line ∷ filter (is_of_user number) left) (filter (is_of_user number) left)))) own

others-line : (records : List ℕ → List (List ℕ)) (number : ℕ) (line : Line) (left : List Line) → (line.user == number) ≡ false
    → block_tasks records (line ∷ left) number ≡ block_tasks records left number
others-line records number line left other =
    ap (λ (b : Bool). tasks_of_lines records (map act_of (cond b (line ∷ filter (is_of_user number) left) (filter (is_of_user number) left)))) other

module _ (records : List ℕ → List (List ℕ)) (number : ℕ) (p q : PlayerState) (line : Line) (left all : List Line) (before : AreLeft records number p q (line ∷ left) all) where
  pub left-others : (line.user == number) ≡ false → AreLeft records number p q left all
  left-others other =
      let same = others-line records number line left other in
      record {
        does = λ r does. before.does r (subst (Does q r) (sym same) does);
        stops = λ r fault stops. before.stops r fault (subst (λ (tasks : List Task). Stops q r tasks fault) (sym same) stops);
        still = before.still;
      }

  module _ (own : (line.user == number) ≡ true) where
    pub left-own : (now : PlayerState) → DoesLine q now (tasks_of records line.act) → IsStill q now → AreLeft records number p now left all
    left-own now done still =
        let same = own-line records number line left own in
        record {
          does = λ r does. before.does r (subst (Does q r) (sym same) (does-then q now r (tasks_of_line records line.act) (block_tasks records left number) done does));
          stops = λ r fault stops. before.stops r fault (subst (λ (tasks : List Task). Stops q r tasks fault) (sym same) (does-stops q now r (tasks_of_line records line.act) (block_tasks records left number) fault done stops));
          still = still-then before.still still;
        }

    pub stops-own : (now : PlayerState) (fault : StepFault) → Stops q now (tasks_of records line.act) fault → Stops p now (block_tasks records all number) fault
    stops-own now fault stops =
        let same = own-line records number line left own in
        before.stops now fault (subst (λ (tasks : List Task). Stops q now tasks fault) (sym same)
        (stops-more q now (tasks_of_line records line.act) (block_tasks records left number) fault (stops-more q now (tasks_of records line.act) (EndLine ∷ []) fault stops)))

-- ---- the loop over them

pub next-left : (lines : List Line) (i : ℕ) (line : Line) → i < length lines → line ≡ get_or lines i line → drop i lines ≡ line ∷ drop (i + 1) lines
next-left lines i line within is = rw add-one (drop-cons lines i line within ∙ ap (λ (l : Line). l ∷ drop (suc i) lines) (sym is))

pub left-from : (records : List ℕ → List (List ℕ)) (number : ℕ) (p q : PlayerState) (lines : List Line) (i : ℕ) (line : Line) → i < length lines → line ≡ get_or lines i line
    → AreLeft records number p q (drop i lines) lines → AreLeft records number p q (line ∷ drop (i + 1) lines) lines
left-from records number p q lines i line within is left = subst (λ (rest : List Line). AreLeft records number p q rest lines) (next-left lines i line within is) left

pub lines-done : (records : List ℕ → List (List ℕ)) (number : ℕ) (p q : PlayerState) (lines : List Line) (i : ℕ) → length lines ≤ i → AreLeft records number p q (drop i lines) lines
    → Does p q (block_tasks records lines number)
lines-done records number p q lines i past left =
    left.does q (subst (λ (rest : List Line). Does q q (block_tasks records rest number)) (sym (drop_all i lines past)) (does-none q))
