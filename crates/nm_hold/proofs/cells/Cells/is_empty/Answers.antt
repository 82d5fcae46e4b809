use Rattle.std.proofs.Common.{ℕ, zero, suc, ◌≡◌, List, [], ◌∷◌, length, vec_len, None, refl, sym, ◌∙◌, arith}
use Rattle.nm_hold.specs.declared.standing.Standing.{Standing}
use Rattle.nm_hold.specs.Holds.{cell_at}
use Rattle.nm_hold.specs.Sparse.{cells_of, named_by, number_of, owners_in, standings_in}
use Rattle.nm_hold.proofs.Owned.{both_long, standings_long}
use Rattle.nm_hold.proofs.Owning.{cell_named, nothing_held}
use Rattle.nm_hold.proofs.Spots.{nat_eq-is}
use Rattle.nm_hold.proofs.cells.Cells.is_empty.Goals as goal

none_named : (n : ℕ) → named_by [] n ≡ None
none_named zero = refl
none_named (suc k) = refl

-- where nothing is held, nothing stands
nothing_stands : (at : List ℕ) (held : List Standing) → length held ≡ 0 → (idx : ℕ) → cell_at (cells_of at held) idx ≡ None
nothing_stands at [] e idx = cell_named at [] idx ∙ none_named (number_of at idx)
nothing_stands at (s ∷ held) e idx = absurd (omega arith)

pub returns : goal.returns
returns c =
    let at = c.self.inside.at in
    let held = c.self.inside.held.items in
    let size = c.self.inside.held.ok.0 in (
      (λ e idx.
          let none : vec_len c.self.inside.held ≡ 0 = nat_eq-is (vec_len c.self.inside.held) 0 (sym c.is_empty.ensures ∙ e) in
          rw (← c.self.view_is) (nothing_stands at (standings_in held) (omega (arith, none, size, standings_long held)) idx)),
      (λ nothing.
          let empty = nothing_held at (owners_in held) (standings_in held) c.self.invariant.owners (both_long held) (λ idx. rw (← c.self.view_is) at (nothing idx)) in
          let none : vec_len c.self.inside.held ≡ 0 = omega (arith, empty, size, standings_long held) in
          c.is_empty.ensures ∙ rw none refl),
    )
