use Rattle.nm_port.specs.Exchanges.{AreExchanged}
use Rattle.nm_port.proofs.exchange.exchange_changed.Given as goal

abbrev pub invariant-loop-k : goal.invariant-loop-k
invariant-loop-k l = AreExchanged l.fn.hold l.hold l.port l.ring l.k
