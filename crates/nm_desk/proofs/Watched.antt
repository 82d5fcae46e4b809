-- A desk's monitor that watches.
use Rattle.std.proofs.Common.{ℕ, ◌≡◌, Bool, true, false, List, subst, refl, Option, Some, None, Result, Ok, Err, IfOk, IfErr}
use Rattle.std.specs.Prelude.{◌||◌, is_some}
use Rattle.std.specs.Option.{option_map_or}
use Rattle.nm_types.specs.declared.fault.WatchFault.{WatchFault}
use Rattle.nm_types.specs.declared.fault.WatchFault.TheVariants.{NoTarget, Watched, RecordFull, NoMemory}
use Rattle.nm_types.specs.declared.id.PortId.{PortId}
use Rattle.nm_types.specs.declared.id.Sides.{Sides}
use Rattle.nm_types.specs.declared.name.Kind.{Kind}
use Rattle.nm_types.specs.declared.name.Kind.TheVariants.{Vale, Master, Slave, Monitor}
use Rattle.nm_types.specs.Names.{kind_of, is_name, is_monitor_name, is_switch_port_name, is_pipe_name, is_switch_port_kind, is_pipe_kind, is_monitor_kind}
use Rattle.nm_types.specs.OwnPorts.{OwnPort}
use Rattle.vale_entry.specs.declared.entry.Ask.{Ask}
use Rattle.vale_entry.specs.declared.entry.Ask.TheVariants.{Watch}
use Rattle.vale_entry.specs.declared.entry.Reply.{Reply}
use Rattle.vale_entry.specs.declared.entry.Reply.TheVariants as replies
use Rattle.vale_entry.specs.Legal.{IsEnabled}
use Rattle.vale_own.specs.SideAsks.{MayAsk}
use Rattle.vale_own.proofs.SideAsking.{watch-asked}
use Rattle.vale_own.specs.Recorded.{Recorded, standing, IsRecordedAs}
use Rattle.vale_book.specs.WatchAnswers.{IsUnwatched}
use Rattle.nm_desk.specs.Desks.{DeskState, IsDeskOf}
use Rattle.nm_desk.specs.Calls.{Made, IsOpenAt}
use Rattle.nm_desk.specs.Watching.{IsMonitorOn, IsWatchable, WatchesNot}
use Rattle.nm_desk.proofs.OneStep.{may-enabled, step-by, has-open}
use Rattle.nm_desk.proofs.Plain.{none-made}

abbrev is-monitor : OwnPort → Bool
is-monitor p = is_monitor_name p.name

abbrev IsTarget : Option Kind → Type 0
IsTarget kind = (is_some kind ≡ true) × (is_monitor_kind kind ≡ false)

target-kind : (kind : Option Kind) → (is_switch_port_kind kind || is_pipe_kind kind) ≡ true → IsTarget kind
target-kind None e = absurd cc
target-kind (Some Vale) e = (refl, refl)
target-kind (Some Master) e = (refl, refl)
target-kind (Some Slave) e = (refl, refl)
target-kind (Some Monitor) e = absurd cc

target-named : (target : List ℕ) → IsWatchable target → (is_name target ≡ true) × (is_monitor_name target ≡ false)
unfolding is_name is_switch_port_name is_pipe_name is_monitor_name
target-named target is = target-kind (kind_of target) is

module _ (b : Recorded) (d : DeskState) (monitor : PortId) (target : List ℕ) (sides : Sides) (is : IsDeskOf b d) (open_at : IsOpenAt d monitor.0) (of : IsMonitorOn d.own monitor.0) (watchable : IsWatchable target) where
  abbrev ask : Ask
  ask = Watch monitor target sides

  may : MayAsk b.pool b.entries d.id ask
  may =
      let named = target-named target watchable in
      let h = has-open d monitor open_at in
      let kind : is_monitor_name h.port.name ≡ true = subst (λ (found : Option OwnPort). option_map_or is-monitor found false ≡ true) h.found of in
      subst (λ (id : PortId). MayAsk b.pool b.entries d.id (Watch id target sides)) h.id_is
      (watch-asked b.pool b.entries d.id d.shut d.own h.port target sides is.side h.is_open kind named.0 named.1)

  pub enabled : IsEnabled (standing b) ask
  enabled = may-enabled b d ask is may

  pub watched : (new : Recorded) (reply : Reply) → IsRecordedAs b new ask reply → Made b new d d ask reply
  watched new reply a = step-by b new d d ask reply is may (λ m. tt) a.entry a.reply_is a.room refl is.region

  pub unwatched : (new : Recorded) (fault : WatchFault) → IsUnwatched b new ask fault → WatchesNot b new d d ask fault
  unwatched new NoTarget a = watched new replies.NoTarget a
  unwatched new (Watched by) a = watched new (replies.Watched by) a
  unwatched new (RecordFull what used want) a = none-made b new d ask _ a.1 a.0
  unwatched new NoMemory a = none-made b new d ask _ a.1 a.0

  pub watched-by : (new : Recorded) (r : Result PortId WatchFault) → IfOk r (λ (port : PortId). IsRecordedAs b new ask (replies.Watching port)) → IfOk r (λ (port : PortId). Made b new d d ask (replies.Watching port))
  watched-by new (Ok port) a = watched new (replies.Watching port) a
  watched-by new (Err fault) a = a

  pub unwatched-by : (new : Recorded) (r : Result PortId WatchFault) → IfErr r (IsUnwatched b new ask) → IfErr r (WatchesNot b new d d ask)
  unwatched-by new (Ok port) a = a
  unwatched-by new (Err fault) a = unwatched new fault a
