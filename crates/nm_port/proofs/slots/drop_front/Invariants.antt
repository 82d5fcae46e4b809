use Rattle.std.proofs.Common.{◌≡◌, drop}
use Rattle.std.specs.VecDeque.{deque_capacity}
use Rattle.nm_port.proofs.slots.drop_front.Given as goal

abbrev pub invariant-loop : goal.invariant-loop
invariant-loop l = record {
  rest : l.slots.items ≡ drop l.counter l.fn.slots.items;
  room : deque_capacity l.slots ≡ deque_capacity l.fn.slots;
}
