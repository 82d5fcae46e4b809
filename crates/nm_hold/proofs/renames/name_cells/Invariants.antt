use Rattle.std.proofs.Common.{ℕ, ◌≡◌}
use Rattle.std.specs.Prelude.{IsSome}
use Rattle.nm_types.specs.Positions.{slots_from}
use Rattle.nm_hold.specs.Holds.{cell_at}
use Rattle.nm_hold.specs.Renames.{cells_renamed}
use Rattle.nm_hold.proofs.renames.name_cells.Given as goal

abbrev pub invariant-loop-k : goal.invariant-loop-k
invariant-loop-k l =
    (l.cells ≡ cells_renamed l.named l.numbers (slots_from l.size l.first l.k) l.fn.cells)
    × ((idx : ℕ) → IsSome (cell_at l.fn.cells idx) → IsSome (cell_at l.cells idx))
