-- What users at work, and those that have nothing to do, make of a block.
use Rattle.std.proofs.Common.{ℕ, ◌+◌, ◌≡◌, ◌⊎◌, Bool, true, false, List, [], ◌∷◌, ◌++◌, Option, Some, None, refl, sym, ◌∙◌, ap, subst, arith}
use Rattle.std.specs.Prelude.{option_and_then}
use Rattle.std.specs.Option.{option_or}
use Rattle.nm_types.specs.declared.id.SessionId.{SessionId}
use Rattle.nm_types.specs.declared.fault.StepFault.{StepFault}
use Rattle.nm_types.specs.declared.fault.StepFault.TheVariants.{RecordFull}
use Rattle.nm_turn.specs.Numbered.{numbers}
use Rattle.vale_entry.specs.declared.entry.Entry.{Entry}
use Rattle.vale_entry.specs.Legal.{standing_of}
use Rattle.vale_fabric.specs.Fabrics.{Knowing}
use Rattle.vale_replay.specs.Tasks.{Task, tasks_of_lines}
use Rattle.vale_replay.specs.Machine.{Machine, call_of_tasks, next_call, resting, settling_call}
use Rattle.vale_replay.specs.Replay.{PlaysUser, has_line, times_among}
use Rattle.vale_act.specs.declared.seat.Seat.{Seat}
use Rattle.vale_act.specs.declared.seat.Seat.TheVariants.{Away, There, Gone}
use Rattle.vale_player.specs.Players.{PlayerState, machine_of}
use Rattle.vale_player.proofs.LinesRun.{none-of}
use Rattle.vale_act.specs.Units.{HasMade, IsFullAt, IsUserAt, StaysAt, StopsInWork, WorksAt, knows_at, lines_tasks, times_made, PlayerPlaysLines, PlayerStopsInLines, PlayerIsFullInLines, WorkIsOfBlock, StopIsOfBlock, FullStopIsOfBlock, IdleIsOfBlock, AbsentIsOfBlock, PlayIsReplay}
use Rattle.vale_act.proofs.SharesPasses.{made-added}
use Rattle.vale_act.proofs.SharesWork.{absent-at, full-stop-at, stop-at, work-at}

-- ---- users that have lines

made-at : (n : ℕ) (before after : Seat) (began knows : Knowing) (added : List (ℕ × Entry)) → HasMade before began → HasMade after knows → knows.mine ≡ began.mine ++ added
    → times_made n (knows_at after) ≡ times_made n (knows_at before) + times_among n (numbers added ∷ [])
made-at n before after began knows added old new mine =
    let one = old n in
    let two = new n in
    let more = made-added n began knows added [] mine in
    omega (arith, one, two, more)

has-no : {X : Type 0} (b : Bool) → b ≡ true → b ≡ false → X
has-no b one other = let clash : true ≡ false = sym one ∙ other in absurd cc

pub work-of-block : WorkIsOfBlock
work-of-block pool number records lines began knows main next before after has old new works = record {
  plays = works.plays;
  made = λ n. made-at n before after began knows works.plays.added old new works.mine;
  idle = λ none. has-no (has_line lines number) has none;
}

pub stop-of-block : StopIsOfBlock
stop-of-block pool number records lines began knows main next before after has old new stops = record {
  replays = stops.replays;
  made = λ n. made-at n before after began knows stops.replays.added old new stops.mine;
  idle = λ none. has-no (has_line lines number) has none;
}

pub full-stop-of-block : FullStopIsOfBlock
full-stop-of-block fixed number records lines fault began knows main next before after has old new full = record {
  there = has;
  stops = full.stops;
  made = λ n. made-at n before after began knows full.stops.replays.added old new full.mine;
}

pub play-replays : PlayIsReplay
play-replays pool number records lines main next before after plays = record {
  replays = record {
    added = plays.plays.added;
    replays = λ user at. let went = plays.plays.plays user at in (went.0, went.1.0.replays);
    inside = plays.plays.inside;
  };
  made = plays.made;
  idle = λ none. (plays.idle none).0;
}

-- ---- users that have none

-- before all entries a user that has nothing to do needs no call
owes-first : (pool : ℕ) (session : Option SessionId) → option_or (option_and_then (settling_call (standing_of pool []).world) session) None ≡ None
owes-first pool None = refl
owes-first pool (Some x) = refl

needs-first : (pool : ℕ) (user : Machine) → user.tasks ≡ [] → next_call (standing_of pool []).world user ≡ None
needs-first pool user none =
    ap (λ (ts : List Task). option_or (option_and_then (settling_call (standing_of pool []).world) user.session) (call_of_tasks user ts)) none ∙ owes-first pool user.session

plays-none : (pool : ℕ) (history : List Entry) (user : Machine) → user.tasks ≡ [] → PlaysUser pool history (record user { tasks = [] }) [] user
plays-none pool history user none = record {
  replays = record { rise = omega arith; turns = ap (λ (ts : List Task). record user { tasks = ts }) none };
  no_task = none;
  ended = needs-first pool user none;
}

-- the user of a seat has nothing to do
no-task : (pool number : ℕ) (seat : Seat) (user : Machine) → IsUserAt pool number seat user → user.tasks ≡ []
no-task pool number Away user at = ap (λ (m : Machine). m.tasks) at
no-task pool number (There p fault) user at = ap (λ (m : Machine). m.tasks) at.1
no-task pool number (Gone saves) user at = at.1.1

-- one that stays is the user of its seat still
still-user : (pool number : ℕ) (before after : Seat) (user : Machine) → StaysAt before after → IsUserAt pool number before user → IsUserAt pool number after user
still-user pool number Away after user same at = subst (λ (s : Seat). IsUserAt pool number s user) (sym same) at
still-user pool number (There p fault) Away user same at = absurd same
still-user pool number (There p fault) (There q later) user same at =
    (ap (λ (x : PlayerState). x.number) same.0 ∙ at.0, at.1 ∙ sym (ap (λ (x : PlayerState). machine_of x []) same.0))
still-user pool number (There p fault) (Gone saves) user same at = absurd same
still-user pool number (Gone saves) after user same at = subst (λ (s : Seat). IsUserAt pool number s user) (sym same) at

still-made : (n : ℕ) (before after : Seat) → StaysAt before after → times_made n (knows_at after) ≡ times_made n (knows_at before)
still-made n Away after same = ap (λ (s : Seat). times_made n (knows_at s)) same
still-made n (There p fault) Away same = absurd same
still-made n (There p fault) (There q later) same = ap (λ (l : List (ℕ × Entry)). times_among n (numbers l ∷ [])) same.1
still-made n (There p fault) (Gone saves) same = absurd same
still-made n (Gone saves) after same = ap (λ (s : Seat). times_made n (knows_at s)) same

pub idle-of-block : IdleIsOfBlock
idle-of-block pool number records lines main next before after none stays = record {
  plays = record {
    added = [];
    plays = λ user at.
        let left : lines_tasks records lines number user ≡ [] = ap (tasks_of_lines records) (none-of lines number none) in
        let same : resting (record user { tasks = lines_tasks records lines number user }) ≡ record user { tasks = [] } = ap (λ (ts : List Task). resting (record user { tasks = ts })) left in
        (user, (subst (λ (m : Machine). PlaysUser pool next.seen m [] user) (sym same) (plays-none pool next.seen user (no-task pool number before user at)), still-user pool number before after user stays at));
    inside = tt;
  };
  made = λ n. let same = still-made n before after stays in omega (arith, same);
  idle = λ nothing. (refl, λ user at. still-user pool number before after user stays at);
}

pub absent-of-block : AbsentIsOfBlock
absent-of-block pool number records lines main next needs begins =
    let absent = absent-at pool number (lines_tasks records lines number) main next needs begins in
    record {
      plays = absent.0;
      made = λ n. let nothing : times_among n (numbers absent.0.added ∷ []) ≡ 0 = ap (λ (l : List (ℕ × Entry)). times_among n (numbers l ∷ [])) absent.1 in omega (arith, nothing);
      idle = λ nothing. (absent.1, λ user at. at);
    }

-- ---- players in a block

same-made : (p : PlayerState) (fault : Option StepFault) (v : Knowing) → v.mine ≡ p.session.knows.mine → HasMade (There p fault) v
same-made p fault v mine n = ap (λ (l : List (ℕ × Entry)). times_among n (numbers l ∷ [])) (sym mine)

pub player-plays : PlayerPlaysLines
player-plays pool number records lines p met q parted main next fault later here still there of does =
    let works : WorksAt pool p.number (lines_tasks records lines number) met.session.knows q.session.knows main next (There p fault) (There parted later) =
    work-at pool (lines_tasks records lines number) p met q parted main next fault later here.same here.parts still there of does here.low here.high in
    work-of-block pool number records lines met.session.knows q.session.knows main next (There p fault) (There parted later) here.has
    (same-made p fault met.session.knows here.met_mine) (same-made parted later q.session.knows (sym here.parted_mine))
    (subst (λ (n : ℕ). WorksAt pool n (lines_tasks records lines number) met.session.knows q.session.knows main next (There p fault) (There parted later)) here.number_is works)

pub player-stops : PlayerStopsInLines
player-stops pool number records lines p met q parted main next fault later stop here of stops =
    let stopped : StopsInWork pool p.number (lines_tasks records lines number) met.session.knows q.session.knows main next (There p fault) (There parted later) =
    stop-at pool (lines_tasks records lines number) p met q main next fault stop (There parted later) here.same of stops here.low here.high in
    stop-of-block pool number records lines met.session.knows q.session.knows main next (There p fault) (There parted later) here.has
    (same-made p fault met.session.knows here.met_mine) (same-made parted later q.session.knows (sym here.parted_mine))
    (subst (λ (n : ℕ). StopsInWork pool n (lines_tasks records lines number) met.session.knows q.session.knows main next (There p fault) (There parted later)) here.number_is stopped)

pub player-full : PlayerIsFullInLines
player-full fixed number records lines p met q parted main next fault later what used want here of stops =
    let full : IsFullAt fixed number (lines_tasks records lines number) (RecordFull what used want) met.session.knows q.session.knows main next (There p fault) (There parted later) =
    subst (λ (n : ℕ). IsFullAt fixed n (lines_tasks records lines number) (RecordFull what used want) met.session.knows q.session.knows main next (There p fault) (There parted later)) here.number_is
    (full-stop-at fixed (lines_tasks records lines number) p met q main next fault what used want (There parted later) here.same of stops here.low here.high) in
    record {
      call = full.call;
      stops = full-stop-of-block fixed number records lines (RecordFull what used want) met.session.knows q.session.knows main next (There p fault) (There parted later) here.has
          (same-made p fault met.session.knows here.met_mine) (same-made parted later q.session.knows (sym here.parted_mine)) full;
      forward = full.forward;
      seen = full.seen;
      refusal = full.refusal;
    }
