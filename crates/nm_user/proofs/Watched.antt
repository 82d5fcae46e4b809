-- A monitor of a session that watches.
use Rattle.std.proofs.Common.{ℕ, ◌≡◌, Bool, true, false, List, subst, refl, Option, Some, None, Result, Ok, Err, IsSome, IfOk, IfErr}
use Rattle.std.specs.Prelude.{◌||◌, is_some}
use Rattle.std.specs.Option.{option_map_or}
use Rattle.nm_types.specs.declared.fault.WatchFault.{WatchFault}
use Rattle.nm_types.specs.declared.fault.WatchFault.TheVariants.{NoTarget, Watched, RecordFull, NoMemory}
use Rattle.nm_types.specs.declared.id.PortId.{PortId}
use Rattle.nm_types.specs.declared.id.Sides.{Sides}
use Rattle.nm_types.specs.declared.name.Kind.{Kind}
use Rattle.nm_types.specs.declared.name.Kind.TheVariants.{Vale, Master, Slave, Monitor}
use Rattle.nm_types.specs.Names.{kind_of, is_name, is_monitor_name, is_switch_port_name, is_pipe_name, is_switch_port_kind, is_pipe_kind, is_monitor_kind}
use Rattle.nm_types.specs.OwnPorts.{OwnPort, port_with_id}
use Rattle.vale_entry.specs.declared.entry.Ask.TheVariants.{Watch}
use Rattle.vale_entry.specs.declared.entry.Reply.TheVariants as replies
use Rattle.vale_own.specs.Asker.{asks}
use Rattle.vale_own.specs.SideAsks.{MayAsk as MayBeAsked}
use Rattle.vale_own.proofs.SideAsking.{watch-asked}
use Rattle.vale_fabric.specs.Fabrics.{Knowing, Answers}
use Rattle.vale_fabric.specs.Ports.{WatchesNot as FabricWatchesNot}
use Rattle.nm_user.specs.Sessions.{SessionState, IsThere, standing_seen}
use Rattle.nm_user.specs.Ports.{IsMonitorOn, IsWatchable}
use Rattle.nm_user.proofs.After.{there-still}
use Rattle.nm_user.proofs.Plain.{has-side, asked, has-open, there-answered}

abbrev is-monitor : OwnPort → Bool
is-monitor p = is_monitor_name p.name

some-by : (found : Option OwnPort) → option_map_or is-monitor found false ≡ true → IsSome found
some-by None e = absurd cc
some-by (Some p) e = refl

abbrev IsTarget : Option Kind → Type 0
IsTarget kind = (is_some kind ≡ true) × (is_monitor_kind kind ≡ false)

target-kind : (kind : Option Kind) → (is_switch_port_kind kind || is_pipe_kind kind) ≡ true → IsTarget kind
target-kind None e = absurd cc
target-kind (Some Vale) e = (refl, refl)
target-kind (Some Master) e = (refl, refl)
target-kind (Some Slave) e = (refl, refl)
target-kind (Some Monitor) e = absurd cc

target-named : (target : List ℕ) → IsWatchable target → (is_name target ≡ true) × (is_monitor_name target ≡ false)
unfolding is_name is_switch_port_name is_pipe_name is_monitor_name
target-named target is = target-kind (kind_of target) is

pub watch-asks : {s : SessionState} (monitor : PortId) (target : List ℕ) (sides : Sides) → IsThere None s → IsMonitorOn s.own monitor.0 → IsWatchable target
    → asks (standing_seen s.fixed s.knows) s.id (Watch monitor target sides) ≡ true
watch-asks {s} monitor target sides t is watchable =
    let target-is = target-named target watchable in
    let h = has-open s.own monitor (some-by (port_with_id s.own monitor.0) is) in
    let kind : is_monitor_name h.port.name ≡ true = subst (λ (found : Option OwnPort). option_map_or is-monitor found false ≡ true) h.found is in
    asked (Watch monitor target sides) t
    (subst (λ (id : PortId). MayBeAsked s.fixed.pool s.knows.seen s.id (Watch id target sides)) h.id_is
    (watch-asked s.fixed.pool s.knows.seen s.id None s.own h.port target sides (has-side t) h.is_open kind target-is.0 target-is.1))

module _ (s : SessionState) (w : Knowing) (monitor : PortId) (target : List ℕ) (sides : Sides) where
  pub watch-there : (r : Result PortId WatchFault) → IsThere None s → asks (standing_seen s.fixed s.knows) s.id (Watch monitor target sides) ≡ true
      → IfOk r (λ port. Answers s.fixed s.knows w (Watch monitor target sides) (replies.Watching port)) → IfErr r (FabricWatchesNot s.fixed s.knows w (Watch monitor target sides))
      → IsThere None (record s { knows = w })
  watch-there (Ok port) t may made not = there-answered t may made refl tt tt
  watch-there (Err NoTarget) t may made not = there-answered t may not refl tt tt
  watch-there (Err (Watched by)) t may made not = there-answered t may not refl tt tt
  watch-there (Err (RecordFull what used want)) t may made not = there-still t not.none
  watch-there (Err NoMemory) t may made not = there-still t not.none
