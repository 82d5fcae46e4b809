use Rattle.std.proofs.Common.{◌∙◌, ap}
use Rattle.nm_types.specs.Slots.{SlotState}
use Rattle.nm_port.specs.Gathered.{with_gathered}
use Rattle.nm_user.specs.Saving.{readable_bytes}
use Rattle.nm_user.proofs.session.Session.add_part.Goals as goal

pub returns-clause-frames : goal.returns-clause-frames
returns-clause-frames c =
    let bytes = readable_bytes c.args.self.now.own in
    c.in_ok-add_bytes.ensures.frames bytes c.part_of_slot.ensures
    ∙ ap (λ (slot : SlotState). with_gathered bytes c.args.frames.now c.args.begun slot) c.slot_or_blank-slot.ensures
