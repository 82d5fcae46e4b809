use Rattle.std.proofs.Common.{◌<◌, ◌++◌, ◌∷◌, [], List, length, take, ap, sym, ◌∙◌, arith, rules}
use Rattle.std.proofs.lemmas.List.{append_assoc}
use Rattle.vale_line.specs.declared.got.Got.{Got}
use Rattle.vale_line.specs.Cells.{gots_in}
use Rattle.vale_line.proofs.CellLemmas.{Emptied, emptied-at, full-next}
use Rattle.vale_line.proofs.moves.take_gots.Goals as goal

pub take-requires : goal.take-requires
take-requires c =
    let i = c.loop-cell.cell-index in
    let inv = c.loop-cell.invariant in
    let within : i < length c.loop-cell.cells = search (rules, arith) in
    full-next c.args.cells.now c.loop-cell.cells i c.cell-item.result inv.cells within inv.full

pub loop-cell-preserved : goal.loop-cell-preserved
loop-cell-preserved c =
    let i = c.loop-cell.cell-index in
    let vs = c.args.cells.now in
    let inv = c.loop-cell.invariant in
    let within : i < length c.loop-cell.cells = search (rules, arith) in
    let step : Emptied vs i c.take.result = emptied-at vs c.loop-cell.cells i c.cell-item.result c.take.result inv.cells within inv.full c.take.ensures.was in
    let room = inv.room in
    let count = step.count in
    let len = c.push_reserved.ensures.len in
    let same = c.push_reserved.ensures.capacity in
    record {
      cells = rw (c.take.ensures.none, inv.cells) step.cells;
      gots = c.push_reserved.ensures.items ∙ (ap (λ (l : List Got). l ++ c.take.result ∷ []) inv.gots
          ∙ (append_assoc c.args.gots.items (gots_in (take i vs)) (c.take.result ∷ []) ∙ ap (λ (l : List Got). c.args.gots.items ++ l) (sym step.gots)));
      full = step.full;
      room = omega (arith, room, count, len, same);
      capacity = same ∙ inv.capacity;
    }
