use Rattle.std.proofs.Common.{◌≡◌, ◌∙◌, false, refl, arith}
use Rattle.nm_types.specs.Frames.{Frame}
use Rattle.nm_port.specs.Offers.{offer_seen}
use Rattle.nm_port.proofs.Pushes.{listed_more, offered_seen}
use Rattle.nm_port.proofs.gather.gather_offered.Goals as goal

pub loop-k-preserved : goal.loop-k-preserved
loop-k-preserved c =
    let made : Frame = record { bytes = c.frame_bytes.result.now; no_learn = false } in
    listed_more (offer_seen c.args.hold.now c.args.ring.now) c.size-size.result c.offered-first.result.0 c.loop-k.k _ _ made c.in_ok-push.ensures.ok c.loop-k.invariant (rw (c.frame_bytes.ensures, c.any_slot-slot.ensures) refl)

pub returns : goal.returns
returns c =
    let end : c.loop-k.k ≡ c.offered-first.result.1 = omega (arith, c.loop-k-test.false, c.loop-k.auto.k-end) in
    c.loop-k.invariant ∙ rw end (offered_seen (offer_seen c.args.hold.now c.args.ring.now) c.args.ring.now.ring c.ring.result.now c.size-size.result c.offered-first.result.0 c.offered-first.result.1 c.offered-first.ensures.slots.ring
    c.size-size.ensures.size c.ring.ensures.ring c.offered-first.ensures.first c.offered-first.ensures.count)
