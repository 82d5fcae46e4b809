use Rattle.std.proofs.Common.{◌∙◌, refl}
use Rattle.nm_types.specs.Positions.{step_on}
use Rattle.nm_port.proofs.SlotLists.{named_next}
use Rattle.nm_port.proofs.take.name_held.Goals as goal

pub loop-k-preserved : goal.loop-k-preserved
loop-k-preserved c =
    let at = step_on c.size-size.result c.args.first c.loop-k.k in
    c.put_any_slot.ensures
    ∙ named_next c.args.hold.now c.args.id c.args.ring.now c.loop-k.ring c.size-size.result c.args.first c.loop-k.k _ c.requires.side c.loop-k.invariant (rw (c.number_at.ensures, c.any_slot.ensures) refl)
