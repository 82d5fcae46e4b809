use Rattle.std.proofs.Common.{◌≡◌, ◌++◌, map, take}
use Rattle.std.specs.Vec.{vec_capacity}
use Rattle.nm_types.specs.Slots.{SlotState}
use Rattle.nm_port.proofs.kept.note_slots.Given as goal

abbrev pub invariant-loop-slot : goal.invariant-loop-slot
invariant-loop-slot l = (l.was.items ≡ l.fn.was.items ++ map (λ (s : SlotState). s.buf_idx) (take l.slot-index l.slots)) × (vec_capacity l.was ≡ vec_capacity l.fn.was)
