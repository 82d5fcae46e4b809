use Rattle.std.proofs.Common.{◌≤◌, length, reverse}
use Rattle.std.specs.Vec.{vec_len}
use Rattle.nm_types.specs.Limits.{most_ring}
use Rattle.nm_hold.specs.Holds.{HoldState}
use Rattle.nm_port.specs.Lending.{AreSwapped}
use Rattle.nm_port.proofs.undo.exchange_back.Given as goal

abbrev pub invariant-loop-idx : goal.invariant-loop-idx
invariant-loop-idx l =
    ((h : HoldState) × AreSwapped h l.port l.ring (reverse l.was.items) l.hold)
    × ((h : HoldState) → AreSwapped h l.port l.ring (reverse l.fn.was.items) l.fn.hold → AreSwapped h l.port l.ring (reverse l.was.items) l.hold)
    × (length l.was.items ≤ most_ring)

abbrev pub decreases-loop-idx : goal.decreases-loop-idx
decreases-loop-idx l = vec_len l.was
