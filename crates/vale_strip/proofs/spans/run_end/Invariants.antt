use Rattle.std.proofs.Common.{◌≡◌, ◌<◌, ◌≤◌, ◌+◌, ◌-◌, ◌^◌, length, take, drop}
use Rattle.std.specs.List.{range_with_len}
use Rattle.vale_strip.proofs.spans.run_end.Given as goal

abbrev pub invariant-loop-end : goal.invariant-loop-end
invariant-loop-end l = record {
  some : l.k + 1 < l.end;
  within : l.end ≤ length l.numbers;
  last : l.last ≡ l.first + (l.end - l.k - 1);
  fits : l.last < 2 ^ 32;
  run : take (l.end - l.k) (drop l.k l.numbers) ≡ range_with_len l.first (l.end - l.k);
}

abbrev pub decreases-loop-end : goal.decreases-loop-end
decreases-loop-end l = length l.numbers - l.end
