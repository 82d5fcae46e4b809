use Rattle.std.proofs.Common.{◌≡◌, ◌++◌, length, map}
use Rattle.vale_words.specs.Words.{words_of, are_line_bytes}
use Rattle.vale_words.proofs.words.cut_plain_words.Given as goal

abbrev pub invariant-loop-at : goal.invariant-loop-at
invariant-loop-at l = record {
  words : map (λ w. w.now) l.words.items ++ words_of l.rest ≡ words_of l.line;
  bytes : are_line_bytes l.rest ≡ are_line_bytes l.line;
}

abbrev pub decreases-loop-at : goal.decreases-loop-at
decreases-loop-at l = length l.rest
