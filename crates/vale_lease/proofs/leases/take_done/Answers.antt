use Rattle.std.proofs.Common.{◌≡◌, ◌∙◌, sym, Some, arith}
use Rattle.vale_lease.specs.Leases.{first_done}
use Rattle.vale_lease.proofs.LeaseLemmas.{first_done_more, first_done_behind}
use Rattle.vale_lease.proofs.leases.take_done.Goals as goal

pub loop-slots-preserved : goal.loop-slots-preserved
loop-slots-preserved c =
    let items = c.loop-slots.leases.items in
    let is : first_done items ≡ Some c.in-Some.slots = sym c.first_done.ensures ∙ c.in-Some.is in
    let popped = c.remove_first.ensures.rest in
    let more = first_done_more items c.in-Some.slots is in
    let before = c.loop-slots.invariant.slots in
    record {
      slots = rw popped (omega arith);
      rest = rw popped (sym (first_done_behind items c.in-Some.slots is) ∙ c.loop-slots.invariant.rest);
      capacity = c.remove_first.ensures.capacity ∙ c.loop-slots.invariant.capacity;
    }
