use Rattle.std.proofs.Common.{ℕ, ◌≡◌, ◌∙◌, length, ap, arith}
use Rattle.nm_own.specs.CopiesIn.{ring_behind}
use Rattle.nm_own.proofs.SlotsAhead.{finds_slot, under_least}
use Rattle.nm_own.proofs.WrittenCopies.{side_behind, ring_more, written_more, least_put}
use Rattle.nm_own.proofs.copies.put_in.Goals as goal

pub put_next-idx-requires-clause-side : goal.put_next-idx-requires-clause-side
put_next-idx-requires-clause-side c = side_behind c.loop-put.put (length c.args.bytes.now) c.args.ring.now c.loop-put.ring c.loop-put.invariant.ring c.requires.side

pub put_next-idx-requires-clause-slot : goal.put_next-idx-requires-clause-slot
put_next-idx-requires-clause-slot c =
    finds_slot c.loop-put.put (length c.args.bytes.now) c.args.ring.now c.loop-put.ring c.slots_ahead.ensures.slots.ring c.loop-put.invariant.ring
    (under_least c.loop-put.put c.slots_ahead.result _ c.args.count c.min-most.result c.slots_ahead.ensures.ahead c.min-most.ensures c.loop-put-test.true)

pub loop-put-preserved : goal.loop-put-preserved
loop-put-preserved c =
    let ring = c.args.ring.now in
    let has = finds_slot c.loop-put.put (length c.args.bytes.now) ring c.loop-put.ring c.slots_ahead.ensures.slots.ring c.loop-put.invariant.ring
    (under_least c.loop-put.put c.slots_ahead.result _ c.args.count c.min-most.result c.slots_ahead.ensures.ahead c.min-most.ensures c.loop-put-test.true) in
    record {
      within = omega (arith, c.loop-put-test.true);
      ring = ring_more c.loop-put.put (length c.args.bytes.now) ring c.loop-put.ring c.put_next-idx.new.self c.loop-put.invariant.ring c.put_next-idx.ensures.ring;
      written = written_more c.loop-put.put c.put_next-idx.result c.args.bytes.now ring c.loop-put.ring c.args.hold.now c.loop-put.hold c.write_front.new.hold
          c.loop-put.invariant.ring c.loop-put.invariant.written has c.put_next-idx.ensures.named c.write_front.ensures;
    }

-- the loop ends where all are put
all_put : (c : goal.After-loop-put) → c.loop-put.put ≡ c.min-most.result
all_put c = omega (arith, c.loop-put.invariant.within, c.loop-put-test.false)

pub returns-clause-put : goal.returns-clause-put
returns-clause-put c =
    least_put c.args.count c.loop-put.put c.min-most.result c.slots_ahead.result c.args.bytes.now c.args.ring.now c.args.hold.now c.loop-put.hold c.slots_ahead.ensures.slots.ring
    (all_put c) c.slots_ahead.ensures.ahead c.min-most.ensures c.loop-put.invariant.written

pub returns-clause-ring : goal.returns-clause-ring
returns-clause-ring c = c.loop-put.invariant.ring ∙ ap (λ (n : ℕ). ring_behind n (length c.args.bytes.now) c.args.ring.now) (all_put c)
