use Rattle.std.proofs.Common.{◌≡◌, ◌++◌}
use Rattle.nm_turn.specs.Samples.{spread}
use Rattle.nm_turn.specs.Numbered.{values}
use Rattle.nm_turn.specs.Turns.{IsPassOf, IsOutside, view_of}
use Rattle.nm_tests.proofs.turn.add_all.Given as goal

abbrev pub invariant-loop-k : goal.invariant-loop-k
invariant-loop-k g l = record {
  of_turn : IsPassOf (λ n. tt) l.turn l.pass;
  outside : IsOutside l.pass;
  part : (view_of l.pass).part ≡ (view_of l.fn.pass).part;
  added : values (view_of l.pass).mine ≡ values (view_of l.fn.pass).mine ++ spread l.first l.k;
}
