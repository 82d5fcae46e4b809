use Rattle.std.proofs.Common.{ℕ, List, [], ◌∷◌, ◌≡◌, ◌∙◌, length, ap, arith, length-append}
use Rattle.nm_types.specs.Slots.{SlotState}
use Rattle.nm_port.specs.Offers.{length_seen}
use Rattle.nm_port.proofs.Pushes.{listed_more, offered_seen}
use Rattle.nm_port.proofs.gather.gather_lengths.Goals as goal

pub loop-k-preserved : goal.loop-k-preserved
loop-k-preserved c =
    let inv = c.loop-k.invariant in
    let len = c.any_slot.result.len in
    let count = ap (λ (xs : List ℕ). length xs) c.push_reserved.ensures.items ∙ length-append c.loop-k.lengths.items (len ∷ []) in (
      listed_more (length_seen c.args.ring.now) c.size-size.result c.offered-first.result.0 c.loop-k.k c.loop-k.lengths.items c.push_reserved.new.self.items len c.push_reserved.ensures.items inv.0 (ap (λ (s : SlotState). s.len) c.any_slot.ensures),
      rw c.push_reserved.ensures.capacity inv.1,
      omega (arith, count, inv.2),
    )

pub returns : goal.returns
returns c =
    let end : c.loop-k.k ≡ c.offered-first.result.1 = omega (arith, c.loop-k-test.false, c.loop-k.auto.k-end) in
    c.loop-k.invariant.0 ∙ rw end (offered_seen (length_seen c.args.ring.now) c.args.ring.now.ring c.ring.result.now c.size-size.result c.offered-first.result.0 c.offered-first.result.1 c.offered-first.ensures.slots.ring
    c.size-size.ensures.size c.ring.ensures.ring c.offered-first.ensures.first c.offered-first.ensures.count)
