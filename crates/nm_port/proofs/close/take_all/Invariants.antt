use Rattle.std.proofs.Common.{◌≡◌, ◌+◌, length}
use Rattle.std.specs.Vec.{vec_capacity}
use Rattle.nm_port.specs.Closing.{held_places, AreTaken}
use Rattle.nm_port.proofs.close.take_all.Given as goal

abbrev pub invariant-loop-k : goal.invariant-loop-k
invariant-loop-k l =
    AreTaken l.fn.hold l.hold (held_places l.port l.k) l.fn.back.items l.back.items
    × (vec_capacity l.back ≡ vec_capacity l.fn.back)
    × (length l.back.items ≡ length l.fn.back.items + l.k)
