-- How far it is from one position of a ring to another, and to the next one, without going round twice.
use Rattle.std.proofs.Common.{ℕ, ◌≡◌, ◌≤◌, ◌<◌, ◌+◌, ◌-◌, ◌⊎◌, inl, inr, sym, arith}
use Rattle.std.proofs.Math.Nat.{mod-eq_of_lt, mod_self}
use Rattle.nm_types.specs.Positions.{dist, step_on}
use Rattle.nm_types.proofs.RingSteps.{dist-below, dist-cases}

ahead : (d size from to : ℕ) → from ≤ to → d < size → (from + d ≡ to) ⊎ (from + d ≡ to + size) → to - from ≡ d
ahead d size from to h below (inl e) = omega arith
ahead d size from to h below (inr e) = absurd (omega arith)

behind : (d size from to : ℕ) → to < from → from < size → (from + d ≡ to) ⊎ (from + d ≡ to + size) → size - (from - to) ≡ d
behind d size from to h within (inl e) = absurd (omega arith)
behind d size from to h within (inr e) = omega arith

pub dist-ahead : (size from to : ℕ) → from ≤ to → to < size → to - from ≡ dist size from to
dist-ahead size from to h within =
    let first : from < size = omega arith in
    ahead (dist size from to) size from to h (dist-below size from to first) (dist-cases size from to first within)

pub dist-behind : (size from to : ℕ) → to < from → from < size → size - (from - to) ≡ dist size from to
dist-behind size from to h within = behind (dist size from to) size from to h within (dist-cases size from to within (omega arith))

pub step-ahead : (size at : ℕ) → at + 1 < size → at + 1 ≡ step_on size at 1
step-ahead size at h = sym (mod-eq_of_lt h)

pub step-round : (size at : ℕ) → at < size → size ≤ at + 1 → 0 ≡ step_on size at 1
step-round size at h last = let at_last : at + 1 ≡ size = omega (arith, h, last) in rw at_last (sym (mod_self size))

pub ruleset steps = (step-ahead, step-round)

pub ruleset distances = (dist-ahead, dist-behind, step-ahead)
