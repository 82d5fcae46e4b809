use Rattle.std.proofs.Common.{ℕ, true, ◌≡◌, ◌<◌, Some}
use Rattle.std.specs.Prelude.{slice_get, slice_index_or}
use Rattle.nm_types.specs.OwnPorts.{blank_slot}
use Rattle.nm_port.proofs.kept.slots_match.Given as goal

abbrev pub invariant-loop-k : goal.invariant-loop-k
invariant-loop-k l = l.matches ≡ true → (j : ℕ) → j < l.k → slice_get l.numbers j ≡ Some (slice_index_or l.slots j blank_slot).buf_idx
