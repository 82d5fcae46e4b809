use Rattle.std.proofs.Common.{◌≡◌, ◌+◌, ◌-◌, ◌≤◌, ◌++◌, length, drop}
use Rattle.std.specs.Prelude.{vec_len, vec_capacity}
use Rattle.vale_line.specs.Leased.{sizes_in}
use Rattle.vale_line.proofs.lot.push_sizes.Given as goal

abbrev pub invariant-loop-at : goal.invariant-loop-at
invariant-loop-at l = record {
  told : l.sizes.items ++ sizes_in (drop l.at l.gots) ≡ l.fn.sizes.items ++ sizes_in l.gots;
  room : vec_len l.sizes + length (sizes_in (drop l.at l.gots)) ≤ vec_capacity l.sizes;
  capacity : vec_capacity l.sizes ≡ vec_capacity l.fn.sizes;
}

abbrev pub decreases-loop-at : goal.decreases-loop-at
decreases-loop-at l = length l.gots - l.at
