-- What the cells of a hold are once what stands at an index has been lent.
use Rattle.std.specs.Prelude.{ℕ, List, slice_set, Option, Some}
use Rattle.std.specs.Borrow.{Lends, MutBor, Fml, Array, u8}
use Rattle.nm_hold.specs.declared.standing.Standing.{Standing}
use Rattle.nm_hold.specs.contracts.standing.Standing.{the_row as standing_row}
use Rattle.nm_hold.specs.contracts.cells.Cells.{the_row}
use Rattle.nm_hold.specs.Standings.{cell_written}
use Rattle.nm_hold.specs.Holds.{cell_at}

-- the cells end with what was last written where the index stands
abbrev pub LendsStandingAt : MutBor (List (Option Standing)) → ℕ → MutBor Standing → Fml
LendsStandingAt cells idx r = Lends the_row standing_row cells r (λ s. slice_set cells.now idx (Some s))

abbrev pub LendsBytesIn : MutBor (List (Option Standing)) → ℕ → MutBor (List ℕ) → Fml
LendsBytesIn cells idx r = Lends the_row (Array u8 0) cells r (λ bytes. slice_set cells.now idx (cell_written (cell_at cells.now idx) bytes))
