use Rattle.std.proofs.Common.{ℕ, ◌≡◌, ◌<◌, ◌≤◌, nat_eq}
use Rattle.std.specs.HashMap.{get}
use Rattle.std.specs.Vec.{vec_capacity}
use Rattle.nm_hold.specs.Indexed.{tables_present, row_at, IsIndexed}
use Rattle.nm_hold.specs.Tables.{number_at, places_before, ports_of}
use Rattle.nm_hold.specs.Takes.{place_in, AreTakenBehind}
use Rattle.nm_hold.specs.Ties.{AreHeld}
use Rattle.nm_hold.proofs.taking.take_run.Given as goal

abbrev pub invariant-loop-k : goal.invariant-loop-k
invariant-loop-k l =
    IsIndexed l.rows (get nat_eq l.indices)
    × AreHeld l.cells (tables_present l.rows)
    × ((j : ℕ) → l.k ≤ j → j < l.count → 0 < number_at (tables_present l.rows) (place_in l.run j))
    × AreTakenBehind (record { cells = l.fn.cells; ports = ports_of (tables_present l.fn.rows) }) l.run l.k (record { cells = l.cells; ports = ports_of (tables_present l.rows) }) l.fn.back.items l.back.items
    × (vec_capacity l.back ≡ vec_capacity l.fn.back)
    × (l.ahead ≡ places_before l.run.side (row_at l.rows l.at))
