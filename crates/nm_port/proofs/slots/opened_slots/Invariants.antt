use Rattle.std.proofs.Common.{◌≡◌, ◌≤◌, map, take, length}
use Rattle.std.specs.VecDeque.{deque_capacity}
use Rattle.nm_region.specs.Buffers.{indices_of}
use Rattle.nm_types.specs.OwnSyncs.{opened_slot}
use Rattle.nm_port.proofs.slots.opened_slots.Given as goal

abbrev pub invariant-loop-buf : goal.invariant-loop-buf
invariant-loop-buf l = record {
  slots : l.slots.items ≡ map opened_slot (indices_of (take l.buf-index l.bufs));
  room : length l.bufs ≤ deque_capacity l.slots;
}
