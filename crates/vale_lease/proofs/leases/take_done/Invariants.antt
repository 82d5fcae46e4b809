use Rattle.std.proofs.Common.{◌≡◌, ◌+◌, length}
use Rattle.std.specs.Prelude.{take_while}
use Rattle.std.specs.VecDeque.{deque_capacity}
use Rattle.vale_lease.specs.Leases.{is_done, slots_of, behind_done}
use Rattle.vale_lease.proofs.leases.take_done.Given as goal

abbrev pub invariant-loop-slots : goal.invariant-loop-slots
invariant-loop-slots l = record {
  slots : l.taken + slots_of (take_while is_done l.leases.items) ≡ slots_of (take_while is_done l.fn.leases.items);
  rest : behind_done l.leases.items ≡ behind_done l.fn.leases.items;
  capacity : deque_capacity l.leases ≡ deque_capacity l.fn.leases;
}

abbrev pub decreases-loop-slots : goal.decreases-loop-slots
decreases-loop-slots l = length l.leases.items
