use Rattle.std.proofs.Common.{◌≡◌, fold, length}
use Rattle.std.specs.VecDeque.{deque_capacity}
use Rattle.nm_types.specs.Positions.{slots_from}
use Rattle.nm_types.specs.OwnSyncs.{with_push_cleared}
use Rattle.nm_port.proofs.slots.clear_announcements.Given as goal

abbrev pub invariant-loop-k : goal.invariant-loop-k
invariant-loop-k l = record {
  cleared : l.slots.items ≡ fold with_push_cleared l.fn.slots.items (slots_from l.size l.first l.k);
  count : length l.slots.items ≡ l.size;
  room : deque_capacity l.slots ≡ deque_capacity l.fn.slots;
}
