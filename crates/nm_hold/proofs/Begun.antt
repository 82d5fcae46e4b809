-- A hold with nothing in it and without ports.
use Rattle.std.proofs.Common.{ℕ, zero, suc, ◌≡◌, ◌+◌, ◌≤◌, [], replicate, Option, Some, None, arith, rules}
use Rattle.std.proofs.lemmas.List.{length-replicate}
use Rattle.nm_types.specs.Limits.{most_pool}
use Rattle.nm_hold.specs.declared.standing.Standing.{Standing}
use Rattle.nm_hold.specs.Holds.{cell_at}
use Rattle.nm_hold.specs.Ties.{AreHeld}

nothing : (n idx : ℕ) (s : Standing) → cell_at (replicate n None) idx ≡ Some s → ⊥
nothing zero idx s e = cc
nothing (suc n) zero s e = cc
nothing (suc n) (suc idx) s e = nothing n idx s e

pub held_none : (n : ℕ) → 3 ≤ n → n ≤ most_pool + 2 → AreHeld (replicate n None) []
held_none n low high =
    let none : Option Standing = None in
    let count = length-replicate n none in
    record {
      low = omega (arith, count, low);
      high = omega (arith, count, high);
      tables = search rules;
      once = search rules;
      tied = record { standing = λ idx s e. absurd (nothing n idx s e); numbered = λ place h. absurd (let none : ⊥ = omega (arith, h) in none) };
    }
