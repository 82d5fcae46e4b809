use Rattle.std.proofs.Common.{◌≡◌, ◌+◌, false, replicate}
use Rattle.nm_hold.specs.Holds.{buffers_of}
use Rattle.own_tests.proofs.port.check_all.Given as goal

abbrev pub invariant-loop-idx : goal.invariant-loop-idx
invariant-loop-idx g l = l.marks ≡ replicate (buffers_of l.hold + 2) false
