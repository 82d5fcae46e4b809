use Rattle.std.proofs.Common.{ℕ, true, ◌≡◌, ◌<◌}
use Rattle.std.specs.Prelude.{slice_index_or}
use Rattle.nm_types.specs.OwnPorts.{blank_slot}
use Rattle.nm_port.specs.Sides.{IsPlain}
use Rattle.nm_port.proofs.checks.are_plain.Given as goal

abbrev pub invariant-loop-k : goal.invariant-loop-k
invariant-loop-k l = l.are_plain ≡ true → (j : ℕ) → j < l.k → IsPlain (slice_index_or l.slots j blank_slot)
