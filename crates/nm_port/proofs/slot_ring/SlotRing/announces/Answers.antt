use Rattle.std.proofs.Common.{ℕ, ◌≡◌, length, arith}
use Rattle.nm_types.specs.OwnSyncs.{with_push_cleared}
use Rattle.nm_port.specs.Exchanges.{pushed_count_of, user_position}
use Rattle.nm_port.proofs.SideBySide.{below_more, cleared_here, none_cleared}
use Rattle.nm_port.proofs.slot_ring.SlotRing.announces.Goals as goal

pub loop-k-preserved : goal.loop-k-preserved
loop-k-preserved c =
    let r = c.args.self.now in
    let slots = c.side_by_side-slots.result.now in
    let k = c.loop-k.k in
    let more = below_more (λ (j : ℕ). with_push_cleared r.slots (user_position r j) ≡ r.slots) k (length slots) c.loop-k.invariant.1
    (λ j below. cleared_here r k slots c.side_by_side-slots.ensures.slots c.requires.side j below (c.any_announces.ensures c.if-any_announces.false j below)) in
    (omega (arith, c.side_by_side-slots.ensures.few, c.loop-k-test.true), more)

pub returns : goal.returns
returns c e =
    let r = c.args.self.now in
    none_cleared r.slots r.ring.size r.ring.accepted_head (pushed_count_of r) (λ j below. c.loop-k.invariant.1 j (omega (arith, c.loop-k-test.false, c.pushed-count.ensures.count, below)))
