use Rattle.std.proofs.Common.{◌≤◌, ◌-◌, length}
use Rattle.vale_words.specs.Lanes.{AllPassBetween}
use Rattle.vale_words.specs.Words.{is_graphic}
use Rattle.vale_words.proofs.words.end_of_word.Given as goal

abbrev pub invariant-loop-from : goal.invariant-loop-from
invariant-loop-from l = record {
  within : l.from ≤ length l.bytes;
  before : AllPassBetween is_graphic l.bytes 0 l.from;
}

abbrev pub decreases-loop-from : goal.decreases-loop-from
decreases-loop-from l = length l.bytes - l.from
