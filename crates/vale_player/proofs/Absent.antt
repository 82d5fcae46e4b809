-- A user that has no session: it stops at its Enter, or has nothing to do.
use Rattle.std.proofs.Common.{ℕ, ◌≡◌, inl, inr, List, [], ◌∷◌, find, length, take, Option, Some, None, option_map, refl, sym, ◌∙◌, ap, subst, arith, le_refl, append-nil}
use Rattle.std.specs.Prelude.{bytes_eq, option_and_then}
use Rattle.std.specs.List.{AllByRecursion}
use Rattle.std.specs.Option.{option_or}
use Rattle.nm_types.specs.declared.id.SessionId.{SessionId}
use Rattle.nm_types.specs.OwnPorts.{OwnPort, OwnState, port_with_name}
use Rattle.nm_types.specs.OwnEdits.{with_frame}
use Rattle.nm_turn.proofs.Prefixes.{prefix_length, prefix_self}
use Rattle.vale_entry.specs.declared.entry.Ask.TheVariants.{Enter, Open, Watch, Stat, Shut, Leave}
use Rattle.vale_entry.specs.declared.entry.Entry.{Entry}
use Rattle.vale_entry.specs.Legal.{world_of}
use Rattle.vale_entry.specs.OwnCalls.{rx_call, finish_call}
use Rattle.vale_script.specs.declared.script.Act.{Act}
use Rattle.vale_script.specs.declared.script.Act.TheVariants as acts
use Rattle.nm_user.specs.Calls.{IsRefused}
use Rattle.vale_replay.specs.Edits.{change_found, changed_by}
use Rattle.vale_replay.specs.Tasks.{Task, Arrive, OpenPort, PutFrame, SendFrames, TakeFrames, ChangeOwn, SaveFrames, WatchPort, ReadCounts, ShutPort, FinishPort, Depart, EndLine}
use Rattle.vale_replay.specs.Machine.{Machine, after_task, at_rest, call_of_task, call_of_tasks, enter_call, next_call, put_call, resting, saves_with, send_call, settling_call}
use Rattle.vale_replay.specs.Stops.{StopsUser}
use Rattle.vale_player.specs.Acts.{ActsNowhere}
use Rattle.vale_player.specs.Laws.{AbsentPasses, EnterStops, NeedsSession}
use Rattle.vale_player.specs.Users.{Works, IsStopBy}
use Rattle.vale_player.proofs.NamedActs.{unnamed-acts}
use Rattle.vale_player.proofs.Resting.{passes-at, rests}
use Rattle.vale_player.proofs.Stays.{saw-more, stop-by}
use Rattle.vale_player.proofs.Working.{replays-of}

-- a user without a session needs the call of its next task
next-alone : (pool : ℕ) (history : List Entry) (user : Machine) → user.session ≡ None → next_call (world_of pool history) user ≡ call_of_tasks user user.tasks
next-alone pool history user none = ap (λ (x : Option SessionId). option_or (option_and_then (settling_call (world_of pool history)) x) (call_of_tasks user user.tasks)) none

pub enter-stops : EnterStops
enter-stops fixed began knows user rest fault none has refused =
    let ask = Enter user.number in
    let saw = saw-more fixed began knows ask fault refused in
    record {
      after = resting user;
      works = record {
        added = [];
        mine = saw.mine ∙ sym (append-nil began.mine);
        begins = saw.begins;
        part = saw.part;
        rise = prefix_length began.seen knows.seen saw.begins;
        turns = refl;
      };
      stop = by refused;
    }
  where
    call : call_of_tasks user user.tasks ≡ Some (Enter user.number)
    call = ap (call_of_tasks user) has ∙ ap (enter_call user.number) none

    comes : StopsUser fixed.pool knows.seen (length knows.seen) (Enter user.number) [] (resting user)
    comes =
        let past = take (length knows.seen) knows.seen in
        record {
          seen = omega arith;
          called = ap (next_call (world_of fixed.pool past)) (rests user (Enter user.number) call) ∙ (next-alone fixed.pool past user none ∙ call);
        }

    by : IsRefused fixed began knows (Enter user.number) fault → IsStopBy fixed knows [] (resting user) fault
    by (inl same) = subst (IsStopBy fixed knows [] (resting user)) (sym same.1) tt
    by (inr full) = stop-by fixed knows [] (resting user) (Enter user.number) fault comes full.refusal

-- ---- one that is not there

module _ (user : Machine) (none : user.session ≡ None) (ports : user.own.ports ≡ []) where
  unnamed : (name : List ℕ) → port_with_name user.own name ≡ None
  unnamed name = ap (find (λ (p : OwnPort). bytes_eq name p.name)) ports

  uncalled : (task : Task) → NeedsSession task → call_of_task user task ≡ None
  uncalled Arrive needs = absurd needs
  uncalled (OpenPort name tx rx extra) needs = ap (option_map (λ (session : SessionId). Open session name tx rx extra)) none
  uncalled (PutFrame name bytes) needs = ap (option_and_then (put_call user.own bytes)) (unnamed name)
  uncalled (SendFrames name) needs = ap (option_and_then (send_call user.own)) (unnamed name)
  uncalled (TakeFrames name) needs = ap (option_map (rx_call user.own)) (unnamed name)
  uncalled (ChangeOwn act) needs = refl
  uncalled (SaveFrames name file) needs = refl
  uncalled (WatchPort monitor target sides) needs = ap (option_map (λ (p : OwnPort). Watch p.id target sides)) (unnamed monitor)
  uncalled (ReadCounts name) needs = ap (option_map (λ (p : OwnPort). Stat p.id)) (unnamed name)
  uncalled (ShutPort name) needs = ap (option_map (λ (p : OwnPort). Shut p.id)) (unnamed name)
  uncalled (FinishPort name) needs = ap (option_map (finish_call user.own)) (unnamed name)
  uncalled Depart needs = ap (option_map Leave) none
  uncalled EndLine needs = refl

  acts-nowhere : (name : List ℕ) → ActsNowhere user.own name
  acts-nowhere name = unnamed-acts user.own name (unnamed name)

  unchanged : (act : Act) → changed_by act user.own ≡ user.own
  unchanged (acts.Rx name keep) = (acts-nowhere name).back keep
  unchanged (acts.Fwd from to count) = (acts-nowhere from).forward to count
  unchanged (acts.Poke name side slot field value) = (acts-nowhere name).poke side slot field value
  unchanged (acts.Move name side head cur) = (acts-nowhere name).move side head cur
  unchanged (acts.Swap name side slot other other_side other_slot quiet) = (acts-nowhere name).swap other side other_side slot other_slot quiet
  unchanged (acts.Extra name i j) = (acts-nowhere name).extra i j
  unchanged _ = refl

  still : (task : Task) → after_task task user ≡ user
  still (PutFrame name bytes) = ap (λ (found : Option OwnPort). record user { own = change_found (λ (id : ℕ). with_frame id bytes) user.own found }) (unnamed name)
  still (ChangeOwn act) = ap (λ (own : OwnState). record user { own = own }) (unchanged act)
  still (SaveFrames name file) = ap (λ (found : Option OwnPort). record user { saves = saves_with file user.saves found }) (unnamed name)
  still _ = refl

  idle-at : (tasks : List Task) → AllByRecursion NeedsSession tasks → at_rest user tasks ≡ record user { tasks = [] }
  idle-at [] needs = refl
  idle-at (task ∷ rest) needs = passes-at user task rest (uncalled task needs.0) ∙ (ap (λ (m : Machine). at_rest m rest) (still task) ∙ idle-at rest needs.1)

pub absent-passes : AbsentPasses
absent-passes pool knows user none own needs =
    let idle = idle-at user none (ap (λ (o : OwnState). o.ports) own) user.tasks needs in
    let done : Machine = record user { tasks = [] } in
    let works : Works pool knows knows (resting user) done = record {
      added = [];
      mine = sym (append-nil knows.mine);
      begins = prefix_self knows.seen;
      part = refl;
      rise = le_refl (length knows.seen);
      turns = sym idle;
    } in
    record { works = works; plays = record { replays = replays-of works; no_task = refl; ended = next-alone pool (take 0 knows.seen) done none } }
