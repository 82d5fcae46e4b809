use Rattle.std.proofs.Common.{List, refl, ◌∙◌, arith, rules}
use Rattle.vale_line.specs.declared.got.Got.{Got}
use Rattle.vale_line.specs.Rings.{ring_state}
use Rattle.vale_line.proofs.LotLemmas.{given, first-given}
use Rattle.vale_line.proofs.line.give_done.Goals as goal

pub publish_first-got-requires-clause-room : goal.publish_first-got-requires-clause-room
publish_first-got-requires-clause-room c =
    let count = (given (ring_state c.loop-ring.ring).lots (search rules)).count in
    let room = c.loop-ring.invariant.room in
    λ some. omega (arith, count, room)

pub loop-ring-preserved : goal.loop-ring-preserved
loop-ring-preserved c =
    let made = c.publish_first-got.ensures in
    let step = first-given (λ (gs : List Got). gs) (λ gs hs. refl) (λ gs. refl) (ring_state c.loop-ring.ring) (ring_state c.publish_first-got.new.self) c.loop-ring.got.items c.publish_first-got.result.items (search rules) made.line made.gots in
    let inv = c.loop-ring.invariant in
    let total = step.total in
    let len = c.publish_first-got.result.ok.0 in
    let was = c.loop-ring.got.ok.0 in
    let room = inv.room in
    let same = made.capacity in
    record {
      ring = made.ring;
      moved = step.moved ∙ inv.moved;
      rest = step.rest ∙ inv.rest;
      room = omega (arith, total, len, was, room, same);
      capacity = (let before = inv.capacity in omega (arith, before, same));
    }
