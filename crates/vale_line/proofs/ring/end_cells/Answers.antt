use Rattle.std.proofs.Common.{◌-◌, ◌∷◌, [], subst, sym}
use Rattle.std.specs.Vec.{vec_len}
use Rattle.vale_line.specs.Cells.{AreEmpty}
use Rattle.vale_line.proofs.CellLemmas.{empty-parts, empty-none}
use Rattle.vale_line.proofs.RingLemmas.{empty-front}
use Rattle.vale_line.proofs.ring.end_cells.Goals as goal

pub loop-cell-preserved : goal.loop-cell-preserved
loop-cell-preserved c = subst AreEmpty (sym c.pop.ensures.rest) (empty-front (vec_len c.loop-cell.cells - 1) c.loop-cell.cells.items c.loop-cell.invariant)

pub end-requires : goal.end-requires
end-requires c =
    empty-none c.in-Some.cell (empty-parts c.pop.new.self.items (c.in-Some.cell ∷ []) (subst AreEmpty c.in-Some.ensures.items c.loop-cell.invariant)).1
