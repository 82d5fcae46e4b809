use Rattle.std.proofs.Common.{ℕ, Bool, false, List, [], map, sym, ◌∙◌, ap, ◌+◌, ◌%◌}
use Rattle.nm_types.specs.Frames.{Frame}
use Rattle.nm_types.specs.Positions.{slots_from}
use Rattle.nm_types.specs.Slots.{SlotState}
use Rattle.nm_port.specs.Gathered.{with_gathered, gathered}
use Rattle.nm_user.specs.Saving.{readable_bytes, slot_or_blank_at}
use Rattle.nm_user.proofs.SlotsJoined.{joined-more, goes-more}
use Rattle.nm_user.proofs.session.Session.frames_from.Goals as goal

pub loop-k-preserved : goal.loop-k-preserved
loop-k-preserved c =
    let s = c.args.self.now.own in
    let bytes = readable_bytes s in
    let f = slot_or_blank_at s c.args.port.0 in
    let size = c.size.result in
    let at = c.args.at in
    let k = c.loop-k.k in
    let slot = f ((at + k) % size) in
    let so_far = gathered bytes [] false (map f (slots_from size at k)) in
    let done = c.in_ok-begun.ensures in
    record {
      frames = done.frames
          ∙ (ap (λ (fs : List Frame). with_gathered bytes fs c.loop-k.begun slot) c.loop-k.invariant.frames
          ∙ (ap (λ (b : Bool). with_gathered bytes so_far b slot) c.loop-k.invariant.begun ∙ sym (joined-more bytes f size at k)));
      begun = done.begun ∙ sym (goes-more bytes f size at k);
      some = λ on. done.some;
    }
