use Rattle.nm_turn.specs.Turns.{IsPassOf, IsOutside}
use Rattle.bench.proofs.turn.add.Given as goal

abbrev pub invariant-loop-number : goal.invariant-loop-number
invariant-loop-number g l = record { of_turn : IsPassOf (λ n. tt) l.turn l.pass; outside : IsOutside l.pass }
