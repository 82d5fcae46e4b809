use Rattle.vale_words.specs.Lanes.{AllPassBetween}
use Rattle.vale_words.specs.Words.{is_graphic}
use Rattle.vale_words.proofs.words.end_by_byte.Given as goal

abbrev pub invariant-loop-at : goal.invariant-loop-at
invariant-loop-at l = AllPassBetween is_graphic l.bytes 0 l.at
