-- Where a session's user is without an entry: at its beginning, behind a task that needs none, where more
-- was seen, where its call was refused, which may stop it, and at its end.
use Rattle.std.proofs.Common.{ℕ, ◌≡◌, inl, inr, true, List, [], length, take, drop, Some, None, refl, sym, ◌∙◌, ap, subst, arith, le_refl, take-append-drop, append-nil}
use Rattle.std.proofs.lemmas.List.{take-append-le, take_all}
use mathlib.Core.List.{IsPrefix}
use Rattle.nm_types.specs.declared.fault.StepFault.{StepFault}
use Rattle.nm_types.specs.declared.fault.StepFault.TheVariants.{RecordFull, NoMemory}
use Rattle.nm_turn.specs.Numbered.{numbers}
use Rattle.nm_turn.proofs.Prefixes.{prefix_self, prefix_trans, prefix_length}
use Rattle.vale_entry.specs.declared.entry.Ask.{Ask}
use Rattle.vale_entry.specs.declared.entry.Entry.{Entry}
use Rattle.vale_entry.specs.Laws.{Rise}
use Rattle.vale_entry.specs.Legal.{IsLegal, standing_of}
use Rattle.vale_own.specs.Own.{own_of, is_settled_own}
use Rattle.vale_own.proofs.OwnKept.{legal-split}
use Rattle.vale_book.specs.Recorded.{IsRefusal}
use Rattle.vale_fabric.specs.declared.kept.Fixed.{Fixed}
use Rattle.vale_fabric.specs.Fabrics.{Knowing, seen_in}
use Rattle.nm_user.specs.Sessions.{SessionState, IsThere}
use Rattle.nm_user.specs.Calls.{IsRefused}
use Rattle.nm_user.proofs.After.{there-still}
use Rattle.vale_replay.specs.Machine.{Machine, at_rest, call_of_tasks, next_call, resting}
use Rattle.vale_replay.specs.Replay.{TakesTurns, last_of}
use Rattle.vale_replay.specs.Stops.{StopsUser}
use Rattle.vale_replay.proofs.Numbers.{rise-cut, rise-within}
use Rattle.vale_replay.proofs.Sessions.{after-same}
use Rattle.vale_player.specs.Users.{Works, HasCome, HasStopped, IsStopBy}
use Rattle.vale_player.specs.Laws.{UserBegins, TaskIsDone, SeesMore, RefusedStays, RefusedStops, MemoryStops, UserHasPlayed}
use Rattle.vale_player.proofs.Resting.{passes, rests}
use Rattle.vale_player.proofs.Settled.{task-next}
use Rattle.vale_player.proofs.Working.{last-within, longer-replays, replays-of}

pub user-begins : UserBegins
user-begins s user is = record {
  user = is;
  works = record {
    added = [];
    mine = sym (append-nil s.knows.mine);
    begins = prefix_self s.knows.seen;
    part = refl;
    rise = le_refl (length s.knows.seen);
    turns = refl;
  };
  settled = refl;
}

works-as : {pool : ℕ} {began knows : Knowing} {first after other : Machine} → after ≡ other → Works pool began knows first after → Works pool began knows first other
works-as {pool} {began} {knows} {first} {after} {other} same works = record {
  added = works.added;
  mine = works.mine;
  begins = works.begins;
  part = works.part;
  rise = works.rise;
  turns = subst (TakesTurns pool knows.seen first (numbers works.added)) same works.turns;
}

pub task-done : TaskIsDone
unfolding works-as
task-done s began first now task rest come has none = record {
  user = record { session = (after-same task now).session ∙ come.user.session; own = refl };
  works = works-as (sym (passes now task rest has none)) come.works;
  settled = come.settled;
}

pub sees-more : SeesMore
sees-more s more began first now begins mine part come =
    let pool = s.fixed.pool in
    let works = come.works in
    let last = last_of (numbers works.added) in
    let within = last-within works in
    let long = prefix_length s.knows.seen more.seen begins in
    let r = works.rise in
    let same : take last s.knows.seen ≡ take last more.seen = sym (take-append-le last s.knows.seen begins.0 within) ∙ ap (take last) begins.1 in
    let high : Rise (length began.seen) (numbers works.added) (length more.seen) =
    rise-cut (length began.seen) (numbers works.added) (length s.knows.seen) (length more.seen) r (let top = rise-within (length began.seen) (numbers works.added) (length s.knows.seen) r in omega (arith, top, long)) in
    record {
      user = record { session = come.user.session; own = come.user.own };
      works = record {
        added = works.added;
        mine = mine ∙ works.mine;
        begins = prefix_trans began.seen s.knows.seen more.seen works.begins begins;
        part = part ∙ works.part;
        rise = high;
        turns = (longer-replays pool s.knows.seen more.seen first (numbers works.added) (resting now) begins (replays-of works)).turns;
      };
      settled = subst (λ (h : List Entry). is_settled_own (own_of s.id (standing_of pool h)) ≡ true) same come.settled;
    }

-- a refused call has seen as much and more
pub record SawMore (v w : Knowing) : Type 0 where
  pub begins : IsPrefix v.seen w.seen
  pub mine : w.mine ≡ v.mine
  pub part : w.part ≡ v.part

pub saw-more : (fixed : Fixed) (v w : Knowing) (ask : Ask) (fault : StepFault) → IsRefused fixed v w ask fault → SawMore v w
saw-more fixed v w ask fault (inl same) = subst (SawMore v) (sym same.0) (record { begins = prefix_self v.seen; mine = refl; part = refl })
saw-more fixed v w ask fault (inr full) = record { begins = full.none.told.begins; mine = full.none.told.mine ∙ append-nil v.mine; part = full.none.told.part }

pub refused-stays : RefusedStays
refused-stays s t began first now ask fault come none =
    let saw = saw-more s.fixed s.knows t.knows ask fault none.refused in
    subst (λ (z : SessionState). HasCome began first z now) (sym none.same) (sees-more s t.knows began first now saw.begins saw.mine saw.part come)

-- ---- stops

-- a fault that refuses the next call in all that was seen
pub stop-by : (fixed : Fixed) (knows : Knowing) (ns : List ℕ) (after : Machine) (ask : Ask) (fault : StepFault) → StopsUser fixed.pool knows.seen (length knows.seen) ask ns after
    → IsRefusal (seen_in fixed knows) ask fault → IsStopBy fixed knows ns after fault
stop-by fixed knows ns after ask (RecordFull what used want) stops full = record { call = ask; stops = stops; refusal = full }
stop-by fixed knows ns after ask NoMemory stops full = tt

-- a user whose next task needs a call comes to that call in all that its session has seen
comes-to : (s : SessionState) (began : Knowing) (first now : Machine) (ask : Ask) → IsThere None s → (come : HasCome began first s now) → call_of_tasks now now.tasks ≡ Some ask
    → StopsUser s.fixed.pool s.knows.seen (length s.knows.seen) ask (numbers come.works.added) (resting now)
comes-to s began first now ask here come call =
    let pool = s.fixed.pool in
    let h = s.knows.seen in
    let whole : take (length h) h ≡ h = take_all (length h) h (le_refl (length h)) in
    record {
      seen = last-within come.works;
      called = ap (λ (es : List Entry). next_call (standing_of pool es).world (resting now)) whole
          ∙ (ap (next_call (standing_of pool h).world) (rests now ask call) ∙ (task-next pool h s.id now here.legal here.settled come.user.session ∙ call));
    }

pub refused-stops : RefusedStops
refused-stops s t began first now ask fault here come call none =
    let w = t.knows in
    let saw = saw-more s.fixed s.knows w ask fault none.refused in
    let more : HasCome began first (record s { knows = w }) now = sees-more s w began first now saw.begins saw.mine saw.part come in
    subst (λ (z : SessionState). HasStopped z.fixed began z.knows first fault) (sym none.same) (record {
      after = resting now;
      works = more.works;
      stop = by more none.refused;
    })
  where
    by : (more : HasCome began first (record s { knows = t.knows }) now) → IsRefused s.fixed s.knows t.knows ask fault → IsStopBy s.fixed t.knows (numbers more.works.added) (resting now) fault
    by more (inl same) = subst (IsStopBy s.fixed t.knows (numbers more.works.added) (resting now)) (sym same.1) tt
    by more (inr full) =
        stop-by s.fixed t.knows (numbers more.works.added) (resting now) ask fault (comes-to (record s { knows = t.knows }) began first now ask (there-still here full.none) more call) full.refusal

pub memory-stops : MemoryStops
memory-stops s began first now come = record { after = resting now; works = come.works; stop = tt }

-- ---- the end

-- a user without a task
idle : (user : Machine) → user.tasks ≡ [] → resting user ≡ record user { tasks = [] }
idle user none = ap (at_rest user) none

pub user-played : UserHasPlayed
user-played s began first now here come none =
    let pool = s.fixed.pool in
    let last = last_of (numbers come.works.added) in
    let past = take last s.knows.seen in
    let legal : IsLegal pool past = (legal-split pool past (drop last s.knows.seen) (subst (IsLegal pool) (sym (take-append-drop last s.knows.seen)) here.legal)).0 in
    record {
      works = come.works;
      plays = record {
        replays = replays-of come.works;
        no_task = ap (λ (m : Machine). m.tasks) (idle now none);
        ended = ap (next_call (standing_of pool past).world) (idle now none) ∙ task-next pool past s.id (record now { tasks = [] }) legal come.settled come.user.session;
      };
    }
