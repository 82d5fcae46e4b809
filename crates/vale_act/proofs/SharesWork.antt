-- What a user at work makes of its seat.
use Rattle.std.proofs.Common.{ℕ, ◌≤◌, ◌≡◌, List, [], ◌∷◌, ◌++◌, length, Option, None, refl, sym, ◌∙◌, ap, subst, arith, append-nil, length-append}
use Rattle.std.specs.List.{AllByRecursion}
use mathlib.Core.List.{IsPrefix}
use Rattle.nm_types.specs.declared.fault.StepFault.{StepFault}
use Rattle.nm_types.specs.declared.fault.StepFault.TheVariants.{RecordFull}
use Rattle.nm_types.specs.declared.fault.Part.{Part}
use Rattle.nm_turn.specs.Numbered.{numbers}
use Rattle.nm_turn.proofs.Prefixes.{prefix_length, prefix_self}
use Rattle.vale_entry.specs.declared.entry.Entry.{Entry}
use Rattle.vale_book.specs.Recorded.{IsRefusal}
use Rattle.vale_fabric.specs.declared.kept.Fixed.{Fixed}
use Rattle.vale_fabric.specs.Fabrics.{Knowing, fixed_in, record_in}
use Rattle.vale_replay.specs.Tasks.{Task, Arrive, EndLine}
use Rattle.vale_replay.specs.Machine.{Machine, closing_tasks, new_machine, resting}
use Rattle.vale_replay.specs.Replay.{PlaysUser, ReplaysUser}
use Rattle.vale_replay.specs.Joined.{IsWithin}
use Rattle.vale_act.specs.declared.seat.Seat.{Seat}
use Rattle.vale_act.specs.declared.seat.Seat.TheVariants.{Away, There, Gone}
use Rattle.vale_player.specs.Players.{PlayerState, machine_of}
use Rattle.vale_act.specs.Units.{IsFullAt, IsSame, IsUserAt, StopsInWork, WorksAt, WorkIsAt, StopIsAt, FullStopIsAt, AbsentIsAt, EnteringIsAt, ComingIsAt, EnterStopIsAt, FullEnterStopIsAt, LeavingIsAt}
use Rattle.vale_player.specs.Users.{HasCome, HasStopped, HasWorked, IsRefusedCall}
use Rattle.vale_player.proofs.Working.{begins-cut}
use Rattle.vale_player.proofs.Keeping.{work-kept, stop-kept, call-kept, work-within}
use Rattle.vale_player.proofs.Stays.{user-begins, user-played}
use Rattle.vale_player.proofs.LineLaws.{lines-end}
use Rattle.vale_player.proofs.Closing.{closing-played}
use Rattle.vale_player.proofs.Absent.{absent-passes, enter-stops}

-- ---- a seat's user at its beginning

-- whatever user the seat's is, it begins its tasks here
abbrev BeginsAt : ℕ → ℕ → (Machine → List Task) → Seat → Machine → Type 0
BeginsAt pool number tasks seat first = (user : Machine) → IsUserAt pool number seat user → resting (record user { tasks = tasks user }) ≡ first

begins-there : (pool : ℕ) (tasks : Machine → List Task) (p met : PlayerState) (fault : Option StepFault) → IsSame p met
    → BeginsAt pool p.number tasks (There p fault) (resting (machine_of met (tasks (machine_of p []))))
begins-there pool tasks p met fault same user at =
    ap (λ (m : Machine). resting (record m { tasks = tasks m })) at.1
    ∙ ap (λ (x : PlayerState). resting (machine_of x (tasks (machine_of p [])))) (sym same)

begins-away : (pool number : ℕ) (tasks : Machine → List Task) (all : List Task) → tasks (new_machine pool number) ≡ all
    → BeginsAt pool number tasks Away (resting (record (new_machine pool number) { tasks = all }))
begins-away pool number tasks all has user at =
    ap (λ (m : Machine). resting (record m { tasks = tasks m })) at
    ∙ ap (λ (ts : List Task). resting (record (new_machine pool number) { tasks = ts })) has

-- ---- its work

wider : (first low last high : ℕ) (ns : List ℕ) → first ≤ low → high ≤ last → AllByRecursion (IsWithin low high) ns → AllByRecursion (IsWithin first last) ns
wider first low last high [] down up all = tt
wider first low last high (n ∷ ns) down up all =
    let above = all.0.0 in
    let below = all.0.1 in
    ((omega (arith, down, above), omega (arith, up, below)), wider first low last high ns down up all.1)

works-at : (pool number : ℕ) (tasks : Machine → List Task) (began knows main next : Knowing) (before after : Seat) (first last : Machine)
    → BeginsAt pool number tasks before first → IsUserAt pool number after last → HasWorked pool began knows first last
    → IsPrefix main.seen began.seen → IsPrefix knows.seen next.seen
    → WorksAt pool number tasks began knows main next before after
works-at pool number tasks began knows main next before after first last begins at worked low high =
    let ns = numbers worked.works.added in
    record {
      plays = record {
        added = worked.works.added;
        plays = λ user is. (last, (subst (λ (m : Machine). PlaysUser pool next.seen m ns last) (sym (begins user is)) (work-kept pool began knows first last next.seen high worked), at));
        inside = wider (length main.seen) (length began.seen) (length next.seen) (length knows.seen) ns (prefix_length main.seen began.seen low) (prefix_length knows.seen next.seen high)
            (work-within pool began knows first last worked.works);
      };
      mine = worked.works.mine;
    }

stops-at : (fixed : Fixed) (number : ℕ) (tasks : Machine → List Task) (began knows main next : Knowing) (before after : Seat) (first : Machine) (stop : StepFault)
    → BeginsAt fixed.pool number tasks before first → HasStopped fixed began knows first stop
    → IsPrefix main.seen began.seen → IsPrefix knows.seen next.seen
    → StopsInWork fixed.pool number tasks began knows main next before after
stops-at fixed number tasks began knows main next before after first stop begins stopped low high =
    let ns = numbers stopped.works.added in
    record {
      replays = record {
        added = stopped.works.added;
        replays = λ user is. (stopped.after, subst (λ (m : Machine). ReplaysUser fixed.pool next.seen m ns stopped.after) (sym (begins user is)) (stop-kept fixed began knows first stop next.seen high stopped));
        inside = wider (length main.seen) (length began.seen) (length next.seen) (length knows.seen) ns (prefix_length main.seen began.seen low) (prefix_length knows.seen next.seen high)
            (work-within fixed.pool began knows first stopped.after stopped.works);
      };
      mine = stopped.works.mine;
    }

full-at : (fixed : Fixed) (number : ℕ) (tasks : Machine → List Task) (began knows main next : Knowing) (before after : Seat) (first : Machine) (what : Part) (used want : ℕ)
    → BeginsAt fixed.pool number tasks before first → HasStopped fixed began knows first (RecordFull what used want)
    → IsPrefix main.seen began.seen → IsPrefix knows.seen next.seen
    → IsFullAt fixed number tasks (RecordFull what used want) began knows main next before after
unfolding stops-at
full-at fixed number tasks began knows main next before after first what used want begins stopped low high =
    let stop = RecordFull what used want in
    let stays = stops-at fixed number tasks began knows main next before after first stop begins stopped low high in
    let refused : IsRefusedCall fixed knows (numbers stopped.works.added) stopped.after stop = stopped.stop in
    record {
      call = refused.call;
      stops = record {
        replays = stays.replays;
        stops = λ user is. call-kept fixed knows (numbers stopped.works.added) stopped.after stop next.seen high refused;
      };
      mine = stays.mine;
      forward = (let before = prefix_length main.seen began.seen low in let later = prefix_length began.seen knows.seen stopped.works.begins in omega (arith, before, later));
      seen = prefix_length knows.seen next.seen high;
      refusal = subst (λ (h : List Entry). IsRefusal (record_in fixed h) refused.call stop) (sym (begins-cut knows.seen next.seen high)) refused.refusal;
    }

-- ---- a user that is there

-- where it has come with nothing behind its tasks
come-begun : (p : PlayerState) (all : List Task) → HasCome p.session.knows (resting (machine_of p all)) p.session (machine_of p (all ++ []))
come-begun p all =
    subst (λ (ts : List Task). HasCome p.session.knows (resting (machine_of p all)) p.session (machine_of p ts)) (sym (append-nil all))
    (user-begins p.session (machine_of p all) (record { session = refl; own = refl }))

at-parted : (pool number : ℕ) (q parted : PlayerState) (later : Option StepFault) → q.number ≡ number → IsSame q parted → IsUserAt pool number (There parted later) (machine_of q [])
at-parted pool number q parted later is same =
    (ap (λ (x : PlayerState). x.number) same ∙ is, sym (ap (λ (x : PlayerState). machine_of x []) same))

pub work-at : WorkIsAt
work-at pool tasks p met q parted main next fault later same other still here of does low high =
    let all = tasks (machine_of p []) in
    let first = resting (machine_of met all) in
    let come : HasCome met.session.knows first q.session (machine_of q []) = does [] met.session.knows first (come-begun met all) in
    let worked : HasWorked pool met.session.knows q.session.knows first (machine_of q []) =
    subst (λ (n : ℕ). HasWorked n met.session.knows q.session.knows first (machine_of q [])) of (user-played q.session met.session.knows first (machine_of q []) here come refl) in
    let number : q.number ≡ p.number = still.number ∙ ap (λ (x : PlayerState). x.number) same in
    works-at pool p.number tasks met.session.knows q.session.knows main next (There p fault) (There parted later) first (machine_of q [])
    (begins-there pool tasks p met fault same) (at-parted pool p.number q parted later number other) worked low high

pub stop-at : StopIsAt
stop-at pool tasks p met q main next fault stop after same of stops low high =
    let all = tasks (machine_of p []) in
    let first = resting (machine_of met all) in
    let fixed = q.session.fixed in
    subst (λ (n : ℕ). StopsInWork n p.number tasks met.session.knows q.session.knows main next (There p fault) after) of
    (stops-at fixed p.number tasks met.session.knows q.session.knows main next (There p fault) after first stop
    (begins-there fixed.pool tasks p met fault same) (stops [] met.session.knows first (come-begun met all)) low high)

pub full-stop-at : FullStopIsAt
full-stop-at fixed tasks p met q main next fault what used want after same of stops low high =
    let all = tasks (machine_of p []) in
    let first = resting (machine_of met all) in
    let stop = RecordFull what used want in
    let stopped : HasStopped fixed met.session.knows q.session.knows first stop =
    subst (λ (f : Fixed). HasStopped f met.session.knows q.session.knows first stop) of (stops [] met.session.knows first (come-begun met all)) in
    full-at fixed p.number tasks met.session.knows q.session.knows main next (There p fault) after first what used want
    (begins-there fixed.pool tasks p met fault same) stopped low high

-- one that leaves
pub leaving-at : LeavingIsAt
leaving-at pool p met left main next fault saves same here of saved leaves low high =
    let all = closing_tasks (machine_of p []) in
    let now = machine_of met all in
    let first = resting now in
    let closing : closing_tasks (machine_of p []) ≡ closing_tasks now = ap (λ (x : PlayerState). closing_tasks (machine_of x [])) (sym same) in
    let begun : HasCome met.session.knows first met.session now = user-begins met.session now (record { session = refl; own = refl }) in
    let last = record now { session = None; own = leaves.last.own; tasks = [] } in
    let worked : HasWorked pool met.session.knows left first last =
    subst (λ (n : ℕ). HasWorked n met.session.knows left first last) of (closing-played met.session left met.session.knows first now here begun closing leaves) in
    let held : met.saves ≡ saves.items = ap (λ (x : PlayerState). x.saves) same ∙ sym saved in
    works-at pool p.number closing_tasks met.session.knows left main next (There p fault) (Gone saves) first last
    (begins-there pool closing_tasks p met fault same) (refl, (held, refl)) worked low high

-- ---- a user that is not there

pub none-added : {X : Type 0} (xs ys : List X) → xs ≡ xs ++ ys → ys ≡ []
none-added xs [] e = refl
none-added xs (y ∷ ys) e = let all = length-append xs (y ∷ ys) in let same = ap length e in absurd (omega (arith, all, same))

pub absent-at : AbsentIsAt
absent-at pool number tasks main next needs begins =
    let all = tasks (new_machine pool number) in
    let user = record (new_machine pool number) { tasks = all } in
    let worked = absent-passes pool main user refl refl needs in
    let works = works-at pool number tasks main main main next Away Away (resting user) (new_machine pool number)
    (begins-away pool number tasks all refl) refl worked (prefix_self main.seen) begins in
    (works.plays, none-added main.mine works.plays.added works.mine)

pub entering-at : EnteringIsAt
entering-at fabric number tasks rest p q parted began main next later has entered same still here does low high =
    let pool = (fixed_in fabric).pool in
    let first = resting (record (new_machine pool number) { tasks = Arrive ∷ rest }) in
    let begun : HasCome began first p.session (machine_of p (rest ++ [])) =
    subst (λ (ts : List Task). HasCome began (resting (record (new_machine pool number) { tasks = Arrive ∷ ts })) p.session (machine_of p (rest ++ []))) (append-nil rest) (entered.comes (rest ++ [])) in
    let come : HasCome began first q.session (machine_of q []) = does [] began first begun in
    let of : q.session.fixed.pool ≡ pool = ap (λ (f : Fixed). f.pool) (still.fixed ∙ entered.fixed_is) in
    let worked : HasWorked pool began q.session.knows first (machine_of q []) =
    subst (λ (n : ℕ). HasWorked n began q.session.knows first (machine_of q [])) of (user-played q.session began first (machine_of q []) here come refl) in
    works-at pool number tasks began q.session.knows main next Away (There parted later) first (machine_of q [])
    (begins-away pool number tasks (Arrive ∷ rest) has) (at-parted pool number q parted later (still.number ∙ entered.number_is) same) worked low high

pub coming-at : ComingIsAt
coming-at fabric number tasks p parted began main next later has entered same here low high =
    entering-at fabric number tasks (EndLine ∷ []) p p parted began main next later has entered same (record { number = refl; names = refl; fabric = refl; fixed = refl }) here
    (lines-end p.number p.saves p.session) low high

pub enter-stop-at : EnterStopIsAt
enter-stop-at fixed number tasks rest began knows main next stop after has refused low high =
    let user = record (new_machine fixed.pool number) { tasks = Arrive ∷ rest } in
    stops-at fixed number tasks began knows main next Away after (resting user) stop
    (begins-away fixed.pool number tasks (Arrive ∷ rest) has) (enter-stops fixed began knows user rest stop refl refl refused) low high

pub full-enter-stop-at : FullEnterStopIsAt
full-enter-stop-at fixed number tasks rest began knows main next what used want after has refused low high =
    let user = record (new_machine fixed.pool number) { tasks = Arrive ∷ rest } in
    full-at fixed number tasks began knows main next Away after (resting user) what used want
    (begins-away fixed.pool number tasks (Arrive ∷ rest) has) (enter-stops fixed began knows user rest (RecordFull what used want) refl refl refused) low high
