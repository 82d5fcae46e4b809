use Rattle.std.proofs.Common.{ℕ, false, ◌≡◌, ◌<◌}
use Rattle.std.specs.Prelude.{slice_index_or}
use Rattle.nm_types.specs.OwnPorts.{blank_slot}
use Rattle.nm_types.specs.Slots.{slot_after_push}
use Rattle.nm_port.proofs.slots.any_announces.Given as goal

abbrev pub invariant-loop-k : goal.invariant-loop-k
invariant-loop-k l = l.announced ≡ false → (j : ℕ) → j < l.k → slot_after_push (slice_index_or l.slots j blank_slot) ≡ slice_index_or l.slots j blank_slot
