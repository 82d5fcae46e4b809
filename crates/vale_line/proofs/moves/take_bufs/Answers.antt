use Rattle.std.proofs.Common.{◌≡◌, ◌<◌, ◌+◌, ◌++◌, ◌∷◌, [], List, length, take, drop, ap, sym, ◌∙◌, arith, rules}
use Rattle.std.specs.Prelude.{sum_by}
use Rattle.std.proofs.lemmas.List.{append_assoc, map-append, length-append, take-append-drop}
use Rattle.std.proofs.lemmas.List.Sums.{sum_by-append}
use Rattle.nm_region.specs.Buffers.{Buffer}
use Rattle.vale_line.specs.Cells.{gots_in}
use Rattle.vale_line.specs.Gots.{buffers_of, buffer_of, last_count}
use Rattle.vale_line.proofs.CellLemmas.{Emptied, emptied-at, full-next, gots-most}
use Rattle.vale_line.proofs.FrameLemmas.{few-lasts}
use Rattle.vale_line.proofs.moves.take_bufs.Goals as goal

pub take-got-requires : goal.take-got-requires
take-got-requires c =
    let i = c.loop-cell.cell-index in
    let within : i < length c.loop-cell.cells = search (rules, arith) in
    full-next c.args.cells.now c.loop-cell.cells i c.cell-item.result c.loop-cell.invariant.cells within c.loop-cell.invariant.full

pub overflow_add-count : goal.overflow_add-count
overflow_add-count c =
    let i = c.loop-cell.cell-index in
    let vs = c.args.cells.now in
    let within : i < length c.loop-cell.cells = search (rules, arith) in
    let step : Emptied vs i c.take-got.result = emptied-at vs c.loop-cell.cells i c.cell-item.result c.take-got.result c.loop-cell.invariant.cells within c.loop-cell.invariant.full c.take-got.ensures.was in
    let last = c.last_count-count.ensures in
    let same = ap (sum_by last_count) step.gots ∙ sum_by-append last_count (gots_in (take i vs)) (c.take-got.result ∷ []) in
    let most = few-lasts (gots_in (take (i + 1) vs)) in
    let held = gots-most (take (i + 1) vs) in
    let parts = ap length (take-append-drop (i + 1) vs) in
    let both = length-append (take (i + 1) vs) (drop (i + 1) vs) in
    let few = c.requires.few in
    let before = c.loop-cell.invariant.count in
    omega (arith, last, same, most, held, parts, both, few, before)

pub loop-cell-preserved : goal.loop-cell-preserved
loop-cell-preserved c =
    let i = c.loop-cell.cell-index in
    let vs = c.args.cells.now in
    let within : i < length c.loop-cell.cells = search (rules, arith) in
    let step : Emptied vs i c.take-got.result = emptied-at vs c.loop-cell.cells i c.cell-item.result c.take-got.result c.loop-cell.invariant.cells within c.loop-cell.invariant.full c.take-got.ensures.was in
    let room = c.loop-cell.invariant.room in
    let count = step.count in
    let len = c.push_reserved.ensures.len in
    let same = c.push_reserved.ensures.capacity in
    let more : buffers_of (gots_in (take (i + 1) vs)) ≡ buffers_of (gots_in (take i vs)) ++ c.into_buf.result ∷ [] =
    ap buffers_of step.gots ∙ (map-append buffer_of (gots_in (take i vs)) (c.take-got.result ∷ []) ∙ ap (λ (b : Buffer). buffers_of (gots_in (take i vs)) ++ b ∷ []) (sym c.into_buf.ensures)) in
    record {
      cells = rw (c.take-got.ensures.none, c.loop-cell.invariant.cells) step.cells;
      bufs = c.push_reserved.ensures.items ∙ (ap (λ (l : List Buffer). l ++ c.into_buf.result ∷ []) c.loop-cell.invariant.bufs
          ∙ (append_assoc c.args.bufs.now.items (buffers_of (gots_in (take i vs))) (c.into_buf.result ∷ []) ∙ ap (λ (l : List Buffer). c.args.bufs.now.items ++ l) (sym more)));
      count = (
          let last = c.last_count-count.ensures in
          let same = ap (sum_by last_count) step.gots ∙ sum_by-append last_count (gots_in (take i vs)) (c.take-got.result ∷ []) in
          let before = c.loop-cell.invariant.count in
          omega (arith, last, same, before)
          );
      full = step.full;
      room = omega (arith, room, count, len, same);
      capacity = search rules;
    }
