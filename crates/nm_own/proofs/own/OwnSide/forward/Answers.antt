use Rattle.std.proofs.Common.{Bool, ◌∙◌, ap}
use Rattle.nm_types.specs.OwnEdits.{frames_forwarded}
use Rattle.nm_port.specs.Regions.{SideState}
use Rattle.nm_own.proofs.FramesForwarded.{forwards_on, forwards_no_more}
use Rattle.nm_port.proofs.Regions.{same_as}
use Rattle.nm_own.proofs.own.OwnSide.forward.Goals as goal

pub returns-then-not-forward_frame : goal.returns-then-not-forward_frame
returns-then-not-forward_frame c =
    same_as c.forward_frame.new.self c.args.self.now _
    (forwards_no_more c.is_whole-whole.result c.loop.counter c.args.count c.args.from.0 c.args.to.0 c.args.self.now.own c.loop.self.own c.forward_frame.new.self.own c.forward_frame.result
    c.forward_frame.ensures.moved (ap (λ (s : SideState). s.own) c.forward_frame.ensures.after) c.if-not-forward_frame.true c.loop.invariant.0
    ∙ ap (λ (whole : Bool). frames_forwarded whole c.args.count c.args.from.0 c.args.to.0 c.args.self.now.own) c.is_whole-whole.ensures)
    (ap (λ (s : SideState). s.regions) c.forward_frame.ensures.after ∙ c.loop.invariant.1)

pub loop-preserved : goal.loop-preserved
loop-preserved c = (
  forwards_on c.is_whole-whole.result c.loop.counter c.args.count c.args.from.0 c.args.to.0 c.args.self.now.own c.loop.self.own c.forward_frame.new.self.own c.forward_frame.result
      c.forward_frame.ensures.moved (ap (λ (s : SideState). s.own) c.forward_frame.ensures.after) c.if-not-forward_frame.false c.loop-test.true c.loop.invariant.0,
  ap (λ (s : SideState). s.regions) c.forward_frame.ensures.after ∙ c.loop.invariant.1,
)
