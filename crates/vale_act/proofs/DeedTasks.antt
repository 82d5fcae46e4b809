-- Lines with which nobody comes have tasks for a user that is there.
use Rattle.std.proofs.Common.{◌≡◌, ℕ, zero, suc, Bool, true, false, ◌==◌, ◌-◌, if◌then◌else◌, List, [], ◌∷◌, ◌++◌, map, filter, replicate, refl, sym, subst}
use Rattle.std.specs.List.{AllByRecursion}
use Rattle.vale_entry.proofs.Each.{each-append}
use Rattle.vale_script.specs.declared.script.Act.{Act}
use Rattle.vale_script.specs.declared.script.Act.TheVariants as acts
use Rattle.vale_script.specs.declared.script.Line.{Line}
use Rattle.vale_replay.specs.Tasks.{Task, PutFrame, SendFrames, EndLine, fits_to_play, frame_of_put, played_before_sync, tasks_of, tasks_of_line, tasks_of_lines}
use Rattle.vale_replay.specs.Replay.{acts_of, act_of, is_of_user}
use Rattle.vale_player.specs.Laws.{NeedsSession}
use Rattle.vale_act.specs.Seats.{IsDeed, IsDeedLine}

abbrev All : List Task → Type 0
All tasks = AllByRecursion NeedsSession tasks

all-same : (n : ℕ) (task : Task) → NeedsSession task → All (replicate n task)
all-same zero task needs = tt
all-same (suc n) task needs = (needs, all-same n task needs)

frames-need : (name : List ℕ) (batch left : ℕ) (frames : List (List ℕ)) → All (played_before_sync name batch left frames)
frames-need name batch left [] = by (left == batch)
  where
    by : (b : Bool) → All (if b then [] else SendFrames name ∷ [])
    by true = tt
    by false = (tt, tt)
frames-need name batch left (bytes ∷ frames) = by (left == 1) (frames-need name batch batch frames) (frames-need name batch (left - 1) frames)
  where
    by : (b : Bool) → All (played_before_sync name batch batch frames) → All (played_before_sync name batch (left - 1) frames)
        → All (if b then PutFrame name bytes ∷ SendFrames name ∷ played_before_sync name batch batch frames else PutFrame name bytes ∷ played_before_sync name batch (left - 1) frames)
    by true first next = (tt, (tt, first))
    by false first next = (tt, next)

module _ (records : List ℕ → List (List ℕ)) where
  pub act-needs : (act : Act) → IsDeed act → All (tasks_of records act)
  act-needs acts.Enter deed = absurd deed
  act-needs (acts.Put name count to from len fill) deed = all-same count (PutFrame name (frame_of_put to from len fill)) tt
  act-needs (acts.Play name file batch) deed = frames-need name batch batch (filter (fits_to_play name) (records file))
  act-needs (acts.Rx name false) deed = (tt, (tt, tt))
  act-needs (acts.Close name) deed = (tt, (tt, tt))
  act-needs _ deed = (tt, tt)

  pub acts-need : (list : List Act) → AllByRecursion IsDeed list → All (tasks_of_lines records list)
  acts-need [] deeds = tt
  acts-need (act ∷ list) deeds = each-append NeedsSession (tasks_of_line records act) (tasks_of_lines records list) (each-append NeedsSession (tasks_of records act) (EndLine ∷ []) (act-needs act deeds.0) (tt, tt)) (acts-need list deeds.1)

  own-deeds : (lines : List Line) (number : ℕ) → AllByRecursion IsDeedLine lines → AllByRecursion IsDeed (acts_of lines number)
  own-deeds [] number deeds = tt
  own-deeds (line ∷ lines) number deeds = by (is_of_user number line) (own-deeds lines number deeds.1)
    where
      by : (b : Bool) → AllByRecursion IsDeed (acts_of lines number) → AllByRecursion IsDeed (map act_of (if b then line ∷ filter (is_of_user number) lines else filter (is_of_user number) lines))
      by true rest = (deeds.0, rest)
      by false rest = rest

  pub lines-need : (lines : List Line) (number : ℕ) → AllByRecursion IsDeedLine lines → All (tasks_of_lines records (acts_of lines number))
  lines-need lines number deeds = acts-need (acts_of lines number) (own-deeds lines number deeds)
