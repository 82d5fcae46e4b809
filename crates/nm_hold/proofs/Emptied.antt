-- That a name changes no buffer of a hold.
use Rattle.std.proofs.Common.{ℕ, zero, suc, ◌≡◌, Bool, List, [], ◌∷◌, slice_set, Option, Some, None, refl, rules}
use Rattle.std.specs.Prelude.{IsSome}
use Rattle.nm_hold.specs.declared.standing.Standing.{Standing}
use Rattle.nm_hold.specs.Standings.{buf_in, cell_named}
use Rattle.nm_hold.specs.Holds.{HoldState, cell_at, buffer_at, standing_at, with_cell}

renamed_buf : (named : Bool) (cell : Option Standing) → buf_in (cell_named named cell) ≡ buf_in cell
renamed_buf named None = refl
renamed_buf named (Some s) = refl

pub buffers-renamed : (named : Bool) (cells : List (Option Standing)) (k i : ℕ) → buf_in (cell_at (slice_set cells k (cell_named named (cell_at cells k))) i) ≡ buf_in (cell_at cells i)
buffers-renamed named [] k i = refl
buffers-renamed named (c ∷ cs) zero zero = renamed_buf named c
buffers-renamed named (c ∷ cs) zero (suc i) = refl
buffers-renamed named (c ∷ cs) (suc k) zero = refl
buffers-renamed named (c ∷ cs) (suc k) (suc i) = buffers-renamed named cs k i

-- a place that got a name, or lost it, leaves each buffer as it was
pub buffers-named : (h new : HoldState) (held : Option ℕ) (named : Bool) → IsSome held → ((idx : ℕ) → held ≡ Some idx → new ≡ with_cell h idx (cell_named named (standing_at h idx))) → (i : ℕ) → buffer_at new i ≡ buffer_at h i
buffers-named h new None named some cell i = absurd (search rules)
buffers-named h new (Some idx) named some cell i = rw (cell idx refl) (buffers-renamed named h.cells idx i)
