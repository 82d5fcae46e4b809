-- What a port's watch is once a port was forgotten.
use Rattle.std.proofs.Common.{Bool, true, false, cond, ◌≡◌, ◌==◌, Option, Some, None, refl, inl, inr, not}
use Rattle.std.proofs.lemmas.Bool.{cases_Bool}
use Rattle.std.proofs.lemmas.Map.Entries.{option_filter}
use Rattle.nm_types.specs.declared.id.PortId.{PortId}
use Rattle.nm_watch.specs.declared.watches.Watch.{Watch}
use Rattle.nm_watch.specs.Watching.{unless_by}

-- another port monitors
abbrev pub is_by_other : PortId → Watch → Bool
is_by_other port watch = not (watch.monitor.0 == port.0)

pub kept_by_others : (port : PortId) (gone : Bool) (watch : Option Watch) → option_filter (is_by_other port) (cond gone None watch) ≡ cond gone None (unless_by port watch)
kept_by_others port true watch = refl
kept_by_others port false None = refl
kept_by_others port false (Some watch) = elim (cases_Bool (watch.monitor.0 == port.0)) [
  | inl by ↦ rw by refl
  | inr other ↦ rw other refl
]
