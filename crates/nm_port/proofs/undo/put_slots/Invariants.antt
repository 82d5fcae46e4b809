use Rattle.std.proofs.Common.{◌≡◌, ◌≤◌, length, reverse}
use Rattle.std.specs.Vec.{vec_len, vec_capacity}
use Rattle.nm_types.specs.Limits.{most_ring}
use Rattle.nm_hold.specs.Holds.{HoldState}
use Rattle.nm_port.specs.Lending.{Run, AreOut}
use Rattle.nm_port.proofs.undo.put_slots.Given as goal

abbrev pub invariant-loop-buf : goal.invariant-loop-buf
invariant-loop-buf l =
    let run : Run = record { id = l.port; side = l.side; size = l.size; first = l.first } in
    ((h : HoldState) × AreOut h run l.unnamed (reverse l.bufs.items) l.hold)
    × ((h : HoldState) → AreOut h run l.unnamed (reverse l.fn.bufs.items) l.fn.hold → AreOut h run l.unnamed (reverse l.bufs.items) l.hold)
    × (length l.bufs.items ≤ most_ring)
    × (vec_capacity l.bufs ≡ vec_capacity l.fn.bufs)

abbrev pub decreases-loop-buf : goal.decreases-loop-buf
decreases-loop-buf l = vec_len l.bufs
