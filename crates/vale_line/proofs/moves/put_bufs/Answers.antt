use Rattle.std.proofs.Common.{◌-◌, length, sym, ◌∙◌, arith, rules}
use Rattle.vale_line.proofs.CellLemmas.{filled-at, empty-next}
use Rattle.vale_line.specs.Cells.{with_buffer}
use Rattle.vale_line.proofs.moves.put_bufs.Goals as goal

pub put-requires : goal.put-requires
put-requires c =
    empty-next with_buffer c.args.cells.now c.loop-at.cells c.args.bufs.now.items (length c.args.bufs.now.items - length c.args.cells.now) c.loop-at.at c.index-cells-at.result
    (let t = c.loop-at-test.true in omega (arith, t)) c.loop-at.invariant.within c.loop-at.invariant.cells c.loop-at.invariant.empty

pub loop-at-preserved : goal.loop-at-preserved
loop-at-preserved c =
    let some = c.loop-at-test.true in
    let enough = c.requires.enough in
    let in_cells = c.loop-at.invariant.within in
    let n = length c.args.bufs.now.items - length c.args.cells.now in
    let step = filled-at with_buffer c.args.cells.now c.loop-at.cells c.args.bufs.now.items n c.loop-at.at c.take_last.new.self.items c.take_last.result
    (omega (arith, some)) in_cells (omega (arith, enough, in_cells)) c.loop-at.invariant.cells c.loop-at.invariant.empty (sym c.loop-at.invariant.rest ∙ c.take_last.ensures.items) in
    let put_is = rw c.blank.ensures at c.put.ensures in
    record {
      within = omega (arith, in_cells);
      cells = rw put_is step.set;
      rest = step.rest;
      empty = step.empty;
      capacity = search rules;
    }
