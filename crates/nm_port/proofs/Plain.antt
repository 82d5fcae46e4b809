-- A named buffer has the index of a buffer of the pool.
use Rattle.std.proofs.Common.{ℕ, zero, suc, ◌≡◌, ◌≤◌, ◌<◌, ◌+◌, true, List, [], ◌∷◌, length, Option, Some, None, refl, ◌∙◌, sym, ap, arith}
use Rattle.nm_types.proofs.Tests.{false_true}
use Rattle.nm_hold.specs.declared.standing.Standing.{Standing}
use Rattle.nm_hold.specs.Holds.{HoldState, buffers_of, standing_at, is_named_at, is_named_in, cell_at, IsHold}

cell_within : (cells : List (Option Standing)) (idx : ℕ) (s : Standing) → cell_at cells idx ≡ Some s → idx < length cells
cell_within [] idx s e = absurd cc
cell_within (c ∷ cells) zero s e = omega arith
cell_within (c ∷ cells) (suc idx) s e = let h = cell_within cells idx s e in omega (arith, h)

pub record IsIndexIn (h : HoldState) (idx : ℕ) : Type 0 where
  pub least : 2 ≤ idx
  pub most : idx ≤ buffers_of h + 1

pub named_within : (h : HoldState) (idx : ℕ) → IsHold h → is_named_at h idx ≡ true → IsIndexIn h idx
named_within h idx is named = by_cell (standing_at h idx) refl
  where
    by_cell : (o : Option Standing) → standing_at h idx ≡ o → IsIndexIn h idx
    by_cell None e = absurd (false_true (sym (ap is_named_in e) ∙ named))
    by_cell (Some s) e = let within = cell_within h.cells idx s e in record {
      least = (is.standing idx s e).low;
      most = omega (arith, within);
    }
