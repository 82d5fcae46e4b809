use Rattle.std.proofs.Common.{◌∙◌, ap}
use Rattle.nm_port.specs.Regions.{SideState}
use Rattle.nm_own.proofs.FramesForwarded.{slot_goes}
use Rattle.nm_own.proofs.own.OwnSide.forward_frame.Goals as goal

pub loop-preserved : goal.loop-preserved
loop-preserved c = (
  slot_goes c.loop.counter c.slots_to_go-count.result c.args.from.0 c.args.to.0 c.args.self.now.own c.loop.self.own c.forward_slot.new.self.own c.loop-test.true
      (ap (λ (s : SideState). s.own) c.forward_slot.ensures) c.loop.invariant.0,
  ap (λ (s : SideState). s.regions) c.forward_slot.ensures ∙ c.loop.invariant.1,
)
