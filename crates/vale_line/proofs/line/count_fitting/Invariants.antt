use Rattle.std.proofs.Common.{◌≡◌, ◌+◌, ◌≤◌, ◌++◌, length, take, drop}
use Rattle.std.specs.Prelude.{sum}
use Rattle.vale_line.specs.Fitting.{fitting_sizes}
use Rattle.vale_line.proofs.line.count_fitting.Given as goal

abbrev pub invariant-loop-size : goal.invariant-loop-size
invariant-loop-size l = record {
  taken : take l.count l.want ++ fitting_sizes l.left l.rest ≡ fitting_sizes l.room l.want;
  rest : drop l.count l.want ≡ l.rest;
  added : sum (take l.count l.want) + l.left ≡ l.room;
  within : l.count ≤ length l.want;
}

abbrev pub decreases-loop-size : goal.decreases-loop-size
decreases-loop-size l = length l.rest
