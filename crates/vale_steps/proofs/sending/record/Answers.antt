use Rattle.std.proofs.Common.{map, ◌∙◌, ap}
use Rattle.vale_steps.specs.Offering.{slots_in}
use Rattle.vale_steps.proofs.SmallWants.{small-few}
use Rattle.vale_steps.proofs.sending.record.Goals as goal

pub invariant_of-result : goal.invariant_of-result
invariant_of-result c = record { rooms = c.in_ok-rooms.ensures ∙ ap (map slots_in) c.deref-2.ensures.value; few = small-few c.reversed-wants.result.items c.reversed-wants.ensures.small }
