use Rattle.std.proofs.Common.{◌≡◌, ◌∙◌, refl}
use Rattle.nm_types.specs.Positions.{step_on}
use Rattle.nm_port.specs.Own.{number_on}
use Rattle.nm_port.proofs.SlotLists.{reset_next}
use Rattle.nm_port.proofs.reset.reset_ring.Goals as goal

pub loop-k-preserved : goal.loop-k-preserved
loop-k-preserved c =
    let at = step_on c.size-size.result c.user_range-first.result.0 c.loop-k.k in
    let was : c.number_at.result ≡ number_on c.args.hold.now c.args.ring.now.side c.args.port at = rw (c.number_at.ensures, c.place_on.ensures, c.side-side.ensures) refl in
    c.reset_slot.ensures ∙ reset_next c.args.hold.now c.args.port c.args.ring.now c.loop-k.ring c.size-size.result c.user_range-first.result.0 c.loop-k.k c.number_at.result c.loop-k.invariant was
