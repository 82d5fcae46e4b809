use Rattle.std.proofs.Common.{◌≡◌, ◌++◌, map, take, drop}
use Rattle.nm_port.specs.Puts.{cleared}
use Rattle.nm_own.proofs.lend_offers.clear_all.Given as goal

abbrev pub invariant-loop-buf : goal.invariant-loop-buf
invariant-loop-buf l = l.bufs ≡ map cleared (take l.buf-index l.fn.bufs) ++ drop l.buf-index l.fn.bufs
