use Rattle.std.proofs.Common.{◌-◌, length, ap, arith}
use Rattle.std.specs.Prelude.{sum_by}
use Rattle.std.proofs.lemmas.List.{length-append, length-map, map-append}
use Rattle.std.proofs.lemmas.List.Sums.{sum_by-append}
use Rattle.vale_line.specs.Cells.{gots_in}
use Rattle.vale_line.specs.Gots.{buffers_of, buffer_of, last_count}
use Rattle.vale_line.proofs.CellLemmas.{gots-most}
use Rattle.vale_line.proofs.FrameLemmas.{few-lasts}
use Rattle.vale_line.proofs.RunLemmas.{FrontEmptied, front-full, front-most, back-full, counts-both, gots-both, all-empty, moved-both}
use Rattle.vale_line.proofs.moves.take_run_bufs.Goals as goal
use Rattle.vale_line.proofs.moves.take_run_bufs.Goals.{After-back_mut}

-- both parts, of which the first was emptied before the second is
emptied : (c : After-back_mut) → FrontEmptied (c.args.run.now.size - c.args.run.now.start) c.args.run.now.values c.front_mut.result.now c.take_bufs-front.new.cells c.back_mut.result.now
emptied c = record { front_is = c.front_mut.ensures.value; w_is = c.take_bufs-front.ensures.cells; back_is = c.back_mut.ensures.value }

pub take_bufs-front-requires-clause-few : goal.take_bufs-front-requires-clause-few
take_bufs-front-requires-clause-few c =
    let run = c.args.run.now in
    let most = front-most (run.size - run.start) run.values c.front_mut.result.now c.front_mut.ensures.value in
    let few = c.front_mut.ensures.few in
    omega (arith, most, few)

pub take_bufs-requires-clause-few : goal.take_bufs-requires-clause-few
take_bufs-requires-clause-few c =
    let both = counts-both (emptied (goal.at.take_bufs-requires-clause-few c).After-back_mut) in
    let few = c.front_mut.ensures.few in
    omega (arith, both, few)

pub overflow_add-result : goal.overflow_add-result
overflow_add-result c =
    let took = c.take_bufs-front in
    let both = counts-both (emptied (goal.at.overflow_add-result c).After-back_mut) in
    let front = took.ensures.count in
    let back = c.take_bufs.ensures.count in
    let few_front = few-lasts (gots_in c.front_mut.result.now) in
    let few_back = few-lasts (gots_in c.back_mut.result.now) in
    let most_front = gots-most c.front_mut.result.now in
    let most_back = gots-most c.back_mut.result.now in
    let few = c.front_mut.ensures.few in
    omega (arith, both, front, back, few_front, few_back, most_front, most_back, few)

pub take_bufs-front-requires-clause-full : goal.take_bufs-front-requires-clause-full
take_bufs-front-requires-clause-full c =
    let run = c.args.run.now in
    front-full (run.size - run.start) run.values c.front_mut.result.now c.front_mut.ensures.value c.requires.full

pub take_bufs-requires-clause-full : goal.take_bufs-requires-clause-full
take_bufs-requires-clause-full c = back-full (emptied (goal.at.take_bufs-requires-clause-full c).After-back_mut) c.requires.full

pub take_bufs-requires-clause-room : goal.take_bufs-requires-clause-room
take_bufs-requires-clause-room c =
    let took = c.take_bufs-front in
    let both = counts-both (emptied (goal.at.take_bufs-requires-clause-room c).After-back_mut) in
    let most = gots-most c.front_mut.result.now in
    let now = ap length took.ensures.bufs in
    let sum = length-append c.args.bufs.now.items (buffers_of (gots_in c.front_mut.result.now)) in
    let plain = length-map (gots_in c.front_mut.result.now) buffer_of in
    let len = took.new.bufs.ok.0 in
    let was = c.args.bufs.now.ok.0 in
    let same = took.ensures.capacity in
    let room = c.requires.room in
    omega (arith, both, most, now, sum, plain, len, was, same, room)

pub returns-clause-empty : goal.returns-clause-empty
returns-clause-empty c = all-empty (emptied (goal.at.returns-clause-empty c).After-back_mut) c.take_bufs.new.cells c.take_bufs.ensures.cells

pub returns-clause-bufs : goal.returns-clause-bufs
returns-clause-bufs c =
    let took = c.take_bufs-front in
    moved-both (emptied (goal.at.returns-clause-bufs c).After-back_mut)
    buffers_of (map-append buffer_of) c.args.bufs.now.items took.new.bufs.items c.take_bufs.new.bufs.items took.ensures.bufs c.take_bufs.ensures.bufs

pub returns-clause-count : goal.returns-clause-count
returns-clause-count c =
    let took = c.take_bufs-front in
    let all = ap (sum_by last_count) (gots-both (emptied (goal.at.returns-clause-count c).After-back_mut)) in
    let sum = sum_by-append last_count (gots_in c.front_mut.result.now) (gots_in c.back_mut.result.now) in
    let front = took.ensures.count in
    let back = c.take_bufs.ensures.count in
    omega (arith, all, sum, front, back)
