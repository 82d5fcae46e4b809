use Rattle.std.proofs.Common.{ℕ, List, ◌≡◌, ◌≤◌, ◌<◌, ◌∙◌, length, ap, arith}
use Rattle.std.proofs.lemmas.List.{length-take, length-drop}
use Rattle.nm_port.specs.Regions.{SideState}
use Rattle.nm_port.proofs.Regions.{same_as}
use Rattle.nm_own.proofs.FramesPut.{part_put, last_put}
use Rattle.nm_own.proofs.own.OwnSide.put_parts.Goals as goal

pub put_part-requires : goal.put_part-requires
put_part-requires c =
    let first = ap (λ (xs : List ℕ). length xs) c.cut.ensures.first in
    let few = length-take 2048 c.loop-rest.rest.now in
    omega (arith, first, few)

pub loop-rest-smaller : goal.loop-rest-smaller
loop-rest-smaller c =
    let rest = ap (λ (xs : List ℕ). length xs) c.cut.ensures.rest in
    let left = length-drop 2048 c.loop-rest.rest.now in
    let less : length c.cut.result.1.now < length c.loop-rest.rest.now = omega (arith, rest, left, c.loop-rest-test.true) in
    less

pub loop-rest-preserved : goal.loop-rest-preserved
loop-rest-preserved c = (
  part_put c.args.port.0 c.args.bytes.now c.loop-rest.rest.now c.cut.result.0.now c.cut.result.1.now c.args.self.now.own c.loop-rest.self.own c.put_part.new.self.own c.loop-rest-test.true
      c.cut.ensures.first c.cut.ensures.rest (ap (λ (s : SideState). s.own) c.put_part.ensures) c.loop-rest.invariant.0,
  ap (λ (s : SideState). s.regions) c.put_part.ensures ∙ c.loop-rest.invariant.1,
)

pub returns : goal.returns
returns c =
    same_as c.put_part-2.new.self c.args.self.now _
    (last_put c.args.port.0 c.args.bytes.now c.loop-rest.rest.now c.args.self.now.own c.loop-rest.self.own c.put_part-2.new.self.own c.loop-rest-test.false
    (ap (λ (s : SideState). s.own) c.put_part-2.ensures) c.loop-rest.invariant.0)
    (ap (λ (s : SideState). s.regions) c.put_part-2.ensures ∙ c.loop-rest.invariant.1)
