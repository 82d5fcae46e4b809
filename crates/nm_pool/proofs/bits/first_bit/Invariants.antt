use Rattle.std.proofs.Common.{ℕ, ◌≡◌, ◌<◌, ◌*◌, ◌-◌, length}
use Rattle.nm_pool.specs.Bits.{bit_of}
use Rattle.nm_pool.proofs.bits.first_bit.Given as goal

abbrev pub invariant-loop-at : goal.invariant-loop-at
invariant-loop-at l = (k : ℕ) → k < l.at * 64 → bit_of l.words.items k ≡ 0

abbrev pub decreases-loop-at : goal.decreases-loop-at
decreases-loop-at l = length l.words.items - l.at
