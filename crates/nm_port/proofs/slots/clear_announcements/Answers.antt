use Rattle.std.proofs.Common.{◌∙◌, ◌<◌, length, arith, rules}
use Rattle.std.proofs.lemmas.List.{length-set}
use Rattle.nm_types.specs.Positions.{step_on}
use Rattle.nm_types.proofs.RingSteps.{step_on-below}
use Rattle.nm_port.proofs.SlotLists.{cleared_next}
use Rattle.nm_port.proofs.slots.clear_announcements.Goals as goal

pub loop-k-preserved : goal.loop-k-preserved
loop-k-preserved c =
    let now = c.loop-k.slots.items in
    let at = c.step_on-at.result in
    let within : step_on c.args.size c.args.first c.loop-k.k < length now = omega (arith, step_on-below c.args.size c.args.first c.loop-k.k c.requires.first, c.loop-k.invariant.count) in
    record {
      cleared = rw c.step_on-at.ensures (cleared_next c.args.slots.now.items now c.args.size c.args.first c.loop-k.k c.index_mut.result.now c.clear_announcement.new.slot c.loop-k.invariant.cleared within (rw c.step_on-at.ensures at c.index_mut.ensures.value) c.clear_announcement.ensures);
      count = length-set now at c.clear_announcement.new.slot ∙ c.loop-k.invariant.count;
      room = search rules;
    }
