use Rattle.std.proofs.Common.{◌≡◌, ◌+◌, ◌-◌, ◌≤◌, length, drop, count_by}
use Rattle.vale_script.specs.Grammar.{is_line_feed}
use Rattle.vale_script.proofs.feeds.line_feeds.Given as goal

abbrev pub invariant-loop-at : goal.invariant-loop-at
invariant-loop-at l = record {
  within : l.at ≤ length l.bytes;
  counted : l.count + count_by is_line_feed (drop l.at l.bytes) ≡ count_by is_line_feed l.bytes;
}

abbrev pub decreases-loop-at : goal.decreases-loop-at
decreases-loop-at l = length l.bytes - l.at
