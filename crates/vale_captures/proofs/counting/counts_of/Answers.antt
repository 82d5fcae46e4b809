use Rattle.std.proofs.Common.{arith}
use Rattle.vale_replay.specs.Saved.{acts_of_unit}
use Rattle.vale_captures.specs.Counting.{count_of}
use Rattle.vale_captures.proofs.Sums.{flat-fits}
use Rattle.vale_captures.proofs.counting.counts_of.Goals as goal

pub counts_by-count-requires : goal.counts_by-count-requires
counts_by-count-requires c =
    let fits = flat-fits acts_of_unit count_of c.units-unit-items.result.now _ c.loop-unit.unit-index c.unit-item.result (omega (arith, c.loop-unit-test.true)) c.unit-item.is c.units-unit-items.ensures c.requires in
    omega (arith, fits)

pub overflow_add-count : goal.overflow_add-count
overflow_add-count c =
    let fits = flat-fits acts_of_unit count_of c.units-unit-items.result.now _ c.loop-unit.unit-index c.unit-item.result (omega (arith, c.loop-unit-test.true)) c.unit-item.is c.units-unit-items.ensures c.requires in
    omega (arith, fits, c.loop-unit.invariant, c.counts_by-count.ensures)
