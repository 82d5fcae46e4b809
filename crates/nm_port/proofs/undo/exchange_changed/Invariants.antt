use Rattle.std.proofs.Common.{◌≡◌, length, reverse}
use Rattle.std.specs.Vec.{vec_capacity}
use Rattle.nm_port.specs.Exchanges.{AreExchanged}
use Rattle.nm_port.specs.Lending.{AreSwapped}
use Rattle.nm_port.proofs.undo.exchange_changed.Given as goal

abbrev pub invariant-loop-k : goal.invariant-loop-k
invariant-loop-k l =
    AreExchanged l.fn.hold l.hold l.port l.ring l.k
    × AreSwapped l.fn.hold l.port l.ring (reverse l.was.items) l.hold
    × (length l.was.items ≡ l.k)
    × (vec_capacity l.was ≡ vec_capacity l.fn.was)
