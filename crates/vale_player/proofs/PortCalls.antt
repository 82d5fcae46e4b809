-- Calls of a user that make one entry, and its refusals.
use Rattle.std.proofs.Common.{ℕ, ◌≡◌, true, false, List, [], ◌∷◌, Option, Some, None, option_map, Result, Ok, Err, IfOk, IfErr, IsSome, refl, sym, ◌∙◌, ap, subst}
use Rattle.std.specs.Prelude.{OnOk, bytes_eq}
use Rattle.std.specs.Option.{option_map_or}
use Rattle.std.proofs.lemmas.Slice.Eq.{bytes_eq-Decides}
use Rattle.std.proofs.lemmas.Option.{same_Some}
use Rattle.nm_types.specs.declared.fault.OpenFault.{OpenFault}
use Rattle.nm_types.specs.declared.fault.OpenFault.TheVariants as opens
use Rattle.nm_types.specs.declared.fault.WatchFault.{WatchFault}
use Rattle.nm_types.specs.declared.fault.WatchFault.TheVariants as watches
use Rattle.nm_types.specs.declared.fault.StepFault.{StepFault}
use Rattle.nm_types.specs.declared.fault.StepFault.TheVariants as steps
use Rattle.nm_types.specs.declared.id.Counts.{Counts}
use Rattle.nm_types.specs.declared.id.PortId.{PortId}
use Rattle.nm_types.specs.declared.id.Sides.{Sides}
use Rattle.nm_types.specs.Names.{is_monitor_name}
use Rattle.nm_types.specs.OwnPorts.{OwnPort, OwnState, port_with_name, port_with_id}
use Rattle.vale_entry.specs.declared.entry.Ask.{Ask}
use Rattle.vale_entry.specs.declared.entry.Ask.TheVariants.{Watch, Stat}
use Rattle.vale_entry.specs.declared.entry.Reply.TheVariants as replies
use Rattle.vale_entry.proofs.ListLaws.{place-of}
use Rattle.vale_own.specs.Side.{IsSound}
use Rattle.nm_user.specs.Sessions.{IsThere}
use Rattle.nm_user.specs.Calls.{Made, MadeNone}
use Rattle.nm_user.specs.Ports.{IsMonitorOn, OpensNot, WatchesNot}
use Rattle.nm_user.proofs.Opened.{opening}
use Rattle.vale_replay.specs.Tasks.{Task, OpenPort, WatchPort, ReadCounts}
use Rattle.vale_replay.proofs.TurnSides.{by-id}
use Rattle.vale_player.specs.Lines.{TaskCalls, port_of_task}
use Rattle.vale_player.specs.Players.{PlayerState, Does, HasCalled}
use Rattle.vale_player.specs.Stopping.{open_stop_of, watch_stop_of}
use Rattle.vale_player.proofs.Changes.{id-of}
use Rattle.vale_player.proofs.LineLaws.{tasks-pass}
use Rattle.vale_player.proofs.Doing.{still-self}
use Rattle.vale_player.proofs.SingleCalls.{IsSmall, Follows, stands-by, called-by}

-- a port that is found by its name
pub record FoundPort (own : OwnState) (name : List ℕ) (port : PortId) : Type 0 where
  pub at : OwnPort
  pub id_is : at.id ≡ port
  pub found : port_with_id own port.0 ≡ Some at
  pub named : port_with_name own name ≡ Some at
  pub name_is : at.name ≡ name

pub found-port : (own : OwnState) (name : List ℕ) (port : PortId) → IsSound own → option_map id-of (port_with_name own name) ≡ Some port → FoundPort own name port
found-port own name port sound e = by (port_with_name own name) refl e
  where
    by : (found : Option OwnPort) → port_with_name own name ≡ found → option_map id-of found ≡ Some port → FoundPort own name port
    by None named is = absurd cc
    by (Some p) named is =
        let id : p.id ≡ port = same_Some p.id port is in
        let place = place-of (λ (q : OwnPort). bytes_eq name q.name) own.ports p named in
        record {
          at = p;
          id_is = id;
          found = subst (λ (x : PortId). port_with_id own x.0 ≡ Some p) id (by-id own name p sound named);
          named = named;
          name_is = sym ((bytes_eq-Decides name p.name).0 place.passes);
        }

pub is-some : (own : OwnState) (name : List ℕ) (port : PortId) → FoundPort own name port → IsSome (port_with_id own port.0)
is-some own name port f = subst IsSome (sym f.found) refl

pub is-monitor : (own : OwnState) (name : List ℕ) (port : PortId) → FoundPort own name port → is_monitor_name name ≡ true → IsMonitorOn own port.0
is-monitor own name port f monitor = ap (λ (o : Option OwnPort). option_map_or (λ (p : OwnPort). is_monitor_name p.name) o false) f.found ∙ (ap is_monitor_name f.name_is ∙ monitor)

mapped : (f : PortId → Ask) (found : Option OwnPort) (port : PortId) → option_map id-of found ≡ Some port → option_map (λ (p : OwnPort). f p.id) found ≡ Some (f port)
mapped f None port e = absurd cc
mapped f (Some p) port e = ap (λ (id : PortId). Some (f id)) (same_Some p.id port e)

none-of : (found : Option OwnPort) → option_map id-of found ≡ None → found ≡ None
none-of None e = refl
none-of (Some p) e = absurd cc

-- where the user has not the port there is nothing to do
pub passes-on : (p : PlayerState) (name : List ℕ) (task : Task) → port_of_task task ≡ Some name → option_map id-of (port_with_name p.session.own name) ≡ None → Does p p (task ∷ [])
passes-on p name task is none rest began first come =
    tasks-pass p.number p.saves p.session name task is (none-of (port_with_name p.session.own name) none) rest began first come

pub passed : (p : PlayerState) (name : List ℕ) (task : Task) → IsThere None p.session → port_of_task task ≡ Some name → option_map id-of (port_with_name p.session.own name) ≡ None → HasCalled p p task (Ok tt)
passed p name task here is none = record { does = passes-on p name task is none; stops = tt; still = still-self p; there = here }

module _ (p q : PlayerState) (here : IsThere None p.session) (same : q ≡ record p { session = q.session }) where
  -- an opening
  module _ (name : List ℕ) (tx rx extra : ℕ) where
    abbrev ask : Ask
    ask = opening p.session name tx rx extra

    abbrev task : Task
    task = OpenPort name tx rx extra

    small : IsSmall p.session.own ask
    small = record { of = λ r. refl; quiet = tt; shuts = refl }

    called : Follows p.session q.session ask (HasCalled p q task)
    called = called-by p q task ask here refl small same refl

    stands : Follows p.session q.session ask (λ r. IsThere None q.session)
    stands = stands-by p q task ask here refl small

    by-fault : (P : Result (Unit {0}) StepFault → Type 0) → Follows p.session q.session ask P
        → (fault : OpenFault) → OpensNot p.session q.session ask fault → P (open_stop_of fault)
    by-fault P f opens.BadSize made = f.made (replies.Refused opens.BadSize) made
    by-fault P f opens.SwitchesFull made = f.made (replies.Refused opens.SwitchesFull) made
    by-fault P f opens.PortsFull made = f.made (replies.Refused opens.PortsFull) made
    by-fault P f opens.NameTaken made = f.made (replies.Refused opens.NameTaken) made
    by-fault P f (opens.NoBuffers want have) made = f.made (replies.Refused (opens.NoBuffers want have)) made
    by-fault P f (opens.RecordFull what used want) none = f.none (steps.RecordFull what used want) none
    by-fault P f opens.NoMemory none = f.none steps.NoMemory none

    module _ (r : Result PortId OpenFault) (made : OnOk r (Made p.session q.session ask replies.Opened)) (not : IfErr r (OpensNot p.session q.session ask)) where
      pub opens-ok : {port : PortId} → r ≡ Ok port → HasCalled p q task (Ok tt)
      opens-ok {port} is = called.made replies.Opened (subst (λ (z : Result PortId OpenFault). OnOk z (Made p.session q.session ask replies.Opened)) is made)

      refused : {fault : OpenFault} → r ≡ Err fault → OpensNot p.session q.session ask fault
      refused {fault} is = subst (λ (z : Result PortId OpenFault). IfErr z (OpensNot p.session q.session ask)) is not

      pub opens-err : {fault : OpenFault} → r ≡ Err fault → HasCalled p q task (open_stop_of fault)
      opens-err {fault} is = by-fault (HasCalled p q task) called fault (refused is)

      pub opens-there : IsThere None q.session
      opens-there = by r made not
        where
          by : (z : Result PortId OpenFault) → OnOk z (Made p.session q.session ask replies.Opened) → IfErr z (OpensNot p.session q.session ask) → IsThere None q.session
          by (Ok port) made-it none = stands.made replies.Opened made-it
          by (Err fault) none bad = by-fault (λ r. IsThere None q.session) stands fault bad

  -- a reading of counters
  module _ (name : List ℕ) (port : PortId) (found : option_map id-of (port_with_name p.session.own name) ≡ Some port) where
    stat-calls : TaskCalls p.number p.saves p.session (ReadCounts name) (Stat port)
    stat-calls = mapped Stat (port_with_name p.session.own name) port found

    stat-small : IsSmall p.session.own (Stat port)
    stat-small = record { of = λ r. tt; quiet = tt; shuts = refl }

    counted : Follows p.session q.session (Stat port) (HasCalled p q (ReadCounts name))
    counted = called-by p q (ReadCounts name) (Stat port) here stat-calls stat-small same refl

    stands-counted : Follows p.session q.session (Stat port) (λ r. IsThere None q.session)
    stands-counted = stands-by p q (ReadCounts name) (Stat port) here stat-calls stat-small

    module _ (r : Result Counts StepFault) (made : IfOk r (λ counts. Made p.session q.session (Stat port) (replies.Counted counts))) (not : IfErr r (MadeNone p.session q.session (Stat port))) where
      pub reads-ok : {counts : Counts} → r ≡ Ok counts → HasCalled p q (ReadCounts name) (Ok tt)
      reads-ok {counts} is = counted.made (replies.Counted counts) (subst (λ (z : Result Counts StepFault). IfOk z (λ counts. Made p.session q.session (Stat port) (replies.Counted counts))) is made)

      pub reads-err : {fault : StepFault} → r ≡ Err fault → HasCalled p q (ReadCounts name) (Err fault)
      reads-err {fault} is = counted.none fault (subst (λ (z : Result Counts StepFault). IfErr z (MadeNone p.session q.session (Stat port))) is not)

      pub reads-there : IsThere None q.session
      reads-there = by r made not
        where
          by : (z : Result Counts StepFault) → IfOk z (λ counts. Made p.session q.session (Stat port) (replies.Counted counts)) → IfErr z (MadeNone p.session q.session (Stat port)) → IsThere None q.session
          by (Ok counts) made-it none = stands-counted.made (replies.Counted counts) made-it
          by (Err fault) none bad = stands-counted.none fault bad

    -- a monitor that watches
    module _ (target : List ℕ) (sides : Sides) where
      abbrev watching : Ask
      watching = Watch port target sides

      abbrev to-watch : Task
      to-watch = WatchPort name target sides

      watch-calls : TaskCalls p.number p.saves p.session to-watch watching
      watch-calls = mapped (λ (id : PortId). Watch id target sides) (port_with_name p.session.own name) port found

      watch-small : IsSmall p.session.own watching
      watch-small = record { of = λ r. tt; quiet = tt; shuts = refl }

      watched : Follows p.session q.session watching (HasCalled p q to-watch)
      watched = called-by p q to-watch watching here watch-calls watch-small same refl

      stands-watching : Follows p.session q.session watching (λ r. IsThere None q.session)
      stands-watching = stands-by p q to-watch watching here watch-calls watch-small

      by-refusal : (P : Result (Unit {0}) StepFault → Type 0) → Follows p.session q.session watching P
          → (fault : WatchFault) → WatchesNot p.session q.session watching fault → P (watch_stop_of fault)
      by-refusal P f watches.NoTarget made = f.made replies.NoTarget made
      by-refusal P f (watches.Watched by) made = f.made (replies.Watched by) made
      by-refusal P f (watches.RecordFull what used want) none = f.none (steps.RecordFull what used want) none
      by-refusal P f watches.NoMemory none = f.none steps.NoMemory none

      module _ (r : Result PortId WatchFault) (made : IfOk r (λ at. Made p.session q.session watching (replies.Watching at))) (not : IfErr r (WatchesNot p.session q.session watching)) where
        pub watches-ok : {at : PortId} → r ≡ Ok at → HasCalled p q to-watch (Ok tt)
        watches-ok {at} is = watched.made (replies.Watching at) (subst (λ (z : Result PortId WatchFault). IfOk z (λ at. Made p.session q.session watching (replies.Watching at))) is made)

        unwatched : {fault : WatchFault} → r ≡ Err fault → WatchesNot p.session q.session watching fault
        unwatched {fault} is = subst (λ (z : Result PortId WatchFault). IfErr z (WatchesNot p.session q.session watching)) is not

        pub watches-err : {fault : WatchFault} → r ≡ Err fault → HasCalled p q to-watch (watch_stop_of fault)
        watches-err {fault} is = by-refusal (HasCalled p q to-watch) watched fault (unwatched is)

        pub watches-there : IsThere None q.session
        watches-there = by r made not
          where
            by : (z : Result PortId WatchFault) → IfOk z (λ at. Made p.session q.session watching (replies.Watching at)) → IfErr z (WatchesNot p.session q.session watching) → IsThere None q.session
            by (Ok at) made-it none = stands-watching.made (replies.Watching at) made-it
            by (Err fault) none bad = by-refusal (λ r. IsThere None q.session) stands-watching fault bad
