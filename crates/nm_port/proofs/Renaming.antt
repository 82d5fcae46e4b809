-- A buffer that becomes a named one, or one that is not, changes no port and adds no cell.
use Rattle.std.proofs.Common.{ℕ, ◌≡◌, ◌-◌, ◌∙◌, Bool, Option, Some, None, refl, ap}
use Rattle.std.specs.Prelude.{IsSome}
use Rattle.std.proofs.lemmas.List.{length-set}
use Rattle.nm_hold.specs.declared.standing.Standing.{Standing}
use Rattle.nm_hold.specs.Standings.{cell_named}
use Rattle.nm_hold.specs.Holds.{HoldState, buffers_of, standing_at, with_cell}

pub named_keeps : (h new : HoldState) (held : Option ℕ) (named : Bool) → IsSome held → ((idx : ℕ) → held ≡ Some idx → new ≡ with_cell h idx (cell_named named (standing_at h idx)))
    → (buffers_of new ≡ buffers_of h) × (new.ports ≡ h.ports)
named_keeps h new None named some cell = absurd cc
named_keeps h new (Some idx) named some cell =
    let is = cell idx refl in
    (ap buffers_of is ∙ ap (λ (n : ℕ). n - 2) (length-set h.cells idx (cell_named named (standing_at h idx))), ap (λ (x : HoldState). x.ports) is)

pub cell_pool : (h new : HoldState) (idx : ℕ) (cell : Option Standing) → new ≡ with_cell h idx cell → (buffers_of new ≡ buffers_of h) × (new.ports ≡ h.ports)
cell_pool h new idx cell is = (ap buffers_of is ∙ ap (λ (n : ℕ). n - 2) (length-set h.cells idx cell), ap (λ (x : HoldState). x.ports) is)
