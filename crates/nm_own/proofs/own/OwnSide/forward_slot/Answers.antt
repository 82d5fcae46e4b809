use Rattle.std.proofs.Common.{◌≡◌, ◌∙◌, Some, refl, sym}
use Rattle.nm_types.specs.declared.id.Side.TheVariants.{Tx, Rx}
use Rattle.nm_types.specs.OwnPorts.{ring_at}
use Rattle.nm_own.specs.Acts.{front_slot_in}
use Rattle.nm_own.proofs.FramesForwarded.{heads_are}
use Rattle.nm_own.proofs.own.OwnSide.forward_slot.Goals as goal

pub returns-in-Some-front_slot : goal.returns-in-Some-front_slot
returns-in-Some-front_slot c =
    let s = c.args.self.now.own in
    let got : front_slot_in Rx (ring_at Rx s c.args.from.0) ≡ Some c.in-Some.got = sym c.front_slot.ensures ∙ c.in-Some.is in
    let free : front_slot_in Tx (ring_at Tx s c.args.to.0) ≡ Some c.in-Some-front_slot.free = sym c.front_slot-in-Some.ensures ∙ c.in-Some-front_slot.is in
    rw (heads_are c.args.from.0 c.args.to.0 s c.in-Some.got c.in-Some-front_slot.free (ring_at Rx s c.args.from.0) (ring_at Tx s c.args.to.0) got free, c.edit-in-Some-front_slot.ensures, c.edit.ensures, c.sent.ensures, c.naming-back.ensures) refl
