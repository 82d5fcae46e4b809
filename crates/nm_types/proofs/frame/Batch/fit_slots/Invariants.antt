use Rattle.std.proofs.Common.{◌≡◌, drop}
use Rattle.nm_types.specs.Sendable.{fit_slots}
use Rattle.nm_types.proofs.frame.Batch.fit_slots.Given as goal

abbrev pub invariant-loop-i : goal.invariant-loop-i
invariant-loop-i l = fit_slots l.left (drop l.i l.self) ≡ fit_slots l.room l.self
