use Rattle.std.specs.Vec.{vec_len}
use Rattle.nm_port.specs.Filling.{ArePartlyIn}
use Rattle.nm_port.proofs.fill.fill.Given as goal

abbrev pub invariant-loop-buf : goal.invariant-loop-buf
invariant-loop-buf l = ArePartlyIn l.fn.hold l.hold l.port l.row l.named l.fn.all.items l.bufs.items l.next

abbrev pub decreases-loop-buf : goal.decreases-loop-buf
decreases-loop-buf l = vec_len l.bufs
