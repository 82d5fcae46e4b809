-- Some steps on in a ring, which lead past its last position at most once.
use Rattle.std.proofs.Common.{ℕ, ◌≡◌, ◌≤◌, ◌<◌, ◌+◌, ◌-◌, ◌⊎◌, inl, inr, sym, arith}
use Rattle.std.proofs.Math.Nat.{mod-eq_of_lt}
use Rattle.nm_types.specs.Positions.{step_on}
use Rattle.nm_types.proofs.RingSteps.{step_on-below, step_on-cases}

pub step-within : (size at k : ℕ) → at + k < size → at + k ≡ step_on size at k
step-within size at k h = sym (mod-eq_of_lt h)

past : (d size at k : ℕ) → size ≤ at + k → d < size → (d ≡ at + k) ⊎ (d + size ≡ at + k) → at + k - size ≡ d
past d size at k h below (inl e) = absurd (omega arith)
past d size at k h below (inr e) = omega arith

pub step-past : (size at k : ℕ) → at < size → k ≤ size → size ≤ at + k → at + k - size ≡ step_on size at k
step-past size at k within few h = past (step_on size at k) size at k h (step_on-below size at k within) (step_on-cases size at k within few)

pub ruleset turns = (step-within, step-past)
