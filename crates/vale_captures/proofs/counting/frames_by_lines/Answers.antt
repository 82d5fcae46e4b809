use Rattle.std.proofs.Common.{arith}
use Rattle.vale_replay.specs.Saved.{acts_of_unit}
use Rattle.vale_captures.specs.Counting.{frames_by}
use Rattle.vale_captures.proofs.Sums.{flat-fits}
use Rattle.vale_captures.proofs.counting.frames_by_lines.Goals as goal

pub frames_of_unit-count-requires : goal.frames_of_unit-count-requires
frames_of_unit-count-requires c =
    let fits = flat-fits acts_of_unit (frames_by c.args.played.now) c.units-unit-items.result.now _ c.loop-unit.unit-index c.unit-item.result (omega (arith, c.loop-unit-test.true)) c.unit-item.is c.units-unit-items.ensures c.requires in
    omega (arith, fits)

pub overflow_add-count : goal.overflow_add-count
overflow_add-count c =
    let fits = flat-fits acts_of_unit (frames_by c.args.played.now) c.units-unit-items.result.now _ c.loop-unit.unit-index c.unit-item.result (omega (arith, c.loop-unit-test.true)) c.unit-item.is c.units-unit-items.ensures c.requires in
    omega (arith, fits, c.loop-unit.invariant, c.frames_of_unit-count.ensures)
