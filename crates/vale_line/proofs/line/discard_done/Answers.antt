use Rattle.std.proofs.Common.{◌≡◌, false, [], ap, ◌∙◌, arith, rules}
use Rattle.std.specs.Prelude.{is_some, sum_by}
use Rattle.std.proofs.lemmas.List.{length-map, map-append}
use Rattle.vale_line.specs.Gots.{buffer_of, buffers_of, last_count}
use Rattle.vale_line.specs.Lines.{first_gots, ready_gots}
use Rattle.vale_line.specs.Rings.{ring_state}
use Rattle.vale_line.proofs.FrameLemmas.{count-frames, few-lasts}
use Rattle.vale_line.proofs.LotLemmas.{FirstGiven, given, first-given, first-none, none-ready}
use Rattle.vale_line.proofs.line.discard_done.Goals as goal
use Rattle.vale_line.proofs.line.discard_done.Goals.{After-discard_first-count}

pub discard_first-count-requires-clause-room : goal.discard_first-count-requires-clause-room
discard_first-count-requires-clause-room c =
    let count = (given (ring_state c.loop-ring.ring).lots (search rules)).count in
    let room = c.loop-ring.invariant.room in
    omega (arith, count, room)

pub discard_first-count-requires-clause-few : goal.discard_first-count-requires-clause-few
discard_first-count-requires-clause-few c =
    let count = (given (ring_state c.loop-ring.ring).lots (search rules)).count in
    let few = c.loop-ring.invariant.few in
    omega (arith, count, few)

-- what stands once the buffers of the first lot came to the others
first_came : (c : After-discard_first-count) → FirstGiven buffers_of (ring_state c.loop-ring.ring) (ring_state c.discard_first-count.new.self) c.loop-ring.room.items c.discard_first-count.new.bufs.items
first_came c =
    let made = c.discard_first-count.ensures in
    first-given buffers_of (map-append buffer_of) (λ gs. length-map gs buffer_of) (ring_state c.loop-ring.ring) (ring_state c.discard_first-count.new.self) c.loop-ring.room.items c.discard_first-count.new.bufs.items (search rules) made.line made.bufs

pub overflow_add-count : goal.overflow_add-count
overflow_add-count c =
    let lasts = (first_came (goal.at.overflow_add-count c).After-discard_first-count).lasts in
    let before = c.loop-ring.invariant.count in
    let most = few-lasts (ready_gots (ring_state c.args.ring.now).lots) in
    let few = c.requires.few in
    let now = c.discard_first-count.ensures.count in
    omega (arith, lasts, before, most, few, now)

pub loop-ring-preserved : goal.loop-ring-preserved
loop-ring-preserved c =
    let step = first_came (goal.at.loop-ring-preserved c).After-discard_first-count in
    let inv = c.loop-ring.invariant in
    let lasts = step.lasts in
    let counted = inv.count in
    let given_now = c.discard_first-count.ensures.count in
    let fewer = step.few in
    let few = inv.few in
    let total = step.total in
    let room = inv.room in
    let len = c.discard_first-count.new.bufs.ok.0 in
    let was = c.loop-ring.room.ok.0 in
    let same = c.discard_first-count.ensures.capacity in
    record {
      ring = c.discard_first-count.ensures.ring;
      moved = step.moved ∙ inv.moved;
      rest = step.rest ∙ inv.rest;
      count = omega (arith, lasts, counted, given_now);
      few = omega (arith, fewer, few);
      room = omega (arith, total, len, was, room, same);
    }

pub returns-clause-count : goal.returns-clause-count
returns-clause-count c =
    let lots = (ring_state c.loop-ring.ring).lots in
    let other : is_some (first_gots lots) ≡ false = search rules in
    let left = ap (sum_by last_count) (none-ready lots (first-none lots other)) in
    let before = c.loop-ring.invariant.count in
    let frames = count-frames [] (ready_gots (ring_state c.args.ring.now).lots) in
    omega (arith, left, before, frames)
