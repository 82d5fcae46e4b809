use Rattle.std.proofs.Common.{◌≡◌, ◌<◌, Some, false, true, length, replicate, sym, ◌∙◌, arith}
use Rattle.std.proofs.lemmas.List.{length-set, length-replicate}
use Rattle.nm_types.specs.Limits.{most_extra}
use Rattle.nm_extra.specs.Extras.{position_at}
use Rattle.nm_extra.proofs.Found.{position-below, none_marked}
use Rattle.nm_extra.proofs.Walks.{walk_starts, walk_goes, walk_leaves, walk_meets}
use Rattle.nm_extra.proofs.chain.walk.Goals as goal
use Rattle.nm_extra.proofs.chain.walk.Goals.{in_default-via-in-Some+else-not-met-here, in_default-via-in_default}

pub loop-found-init : goal.loop-found-init
loop-found-init c = record {
  walked = walk_starts c.args.hold.now c.args.port c.args.head c.held-extras.result (replicate most_extra false) (none_marked most_extra);
  size = length-replicate most_extra false;
}

pub bounds-met-here : goal.bounds-met-here
bounds-met-here c = position-below c.args.hold.now c.args.port c.loop-found.at c.in-Some.here c.held-extras.ensures.hold (sym c.position.ensures ∙ c.in-Some.is)

pub bounds-met-here-in-Some : goal.bounds-met-here-in-Some
bounds-met-here-in-Some c = position-below c.args.hold.now c.args.port c.loop-found.at c.in-Some.here c.held-extras.ensures.hold (sym c.position.ensures ∙ c.in-Some.is)

pub loop-found-preserved : goal.loop-found-preserved
loop-found-preserved c =
    let there : position_at c.args.hold.now c.args.port c.loop-found.at ≡ Some c.in-Some.here = sym c.position.ensures ∙ c.in-Some.is in
    let within : c.in-Some.here < length c.loop-found.met = omega (arith, position-below c.args.hold.now c.args.port c.loop-found.at c.in-Some.here c.held-extras.ensures.hold there, c.loop-found.invariant.size) in
    let goes = walk_goes c.args.hold.now c.args.port c.args.head c.held-extras.result c.loop-found.found c.loop-found.at c.in-Some.here c.loop-found.met c.held-extras.ensures.hold c.loop-found.invariant.walked c.loop-found-test.true there c.if-not-met-here.true within in
    record {
      walked = rw c.next-at.ensures goes;
      size = length-set c.loop-found.met c.in-Some.here true ∙ c.loop-found.invariant.size;
    }

pub returns-in_default : goal.returns-in_default
returns-in_default c = elim c.in_default.branch [
  | in_default-via-in-Some+else-not-met-here w ↦ walk_meets c.args.hold.now c.args.port c.args.head c.held-extras.result c.loop-found.found c.loop-found.at w.in-Some.here c.loop-found.met c.loop-found.invariant.walked c.held-extras.ensures.count (sym c.position.ensures ∙ w.in-Some.is) w.if-not-met-here.false
  | in_default-via-in_default w ↦ walk_leaves c.args.hold.now c.args.port c.args.head c.held-extras.result c.loop-found.found c.loop-found.at c.loop-found.met c.held-extras.ensures.hold c.loop-found.invariant.walked c.held-extras.ensures.count (sym c.position.ensures ∙ w.in_default.is)
]
