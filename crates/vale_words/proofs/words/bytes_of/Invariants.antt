use Rattle.std.proofs.Common.{◌≡◌, ℕ, ◌*◌, map}
use Rattle.std.specs.List.{range_with_len}
use Rattle.vale_words.specs.Words.{byte_at}
use Rattle.vale_words.proofs.words.bytes_of.Given as goal

abbrev pub invariant-loop-k : goal.invariant-loop-k
invariant-loop-k l = l.bytes.items ≡ map (λ (k : ℕ). byte_at l.word (2 * k)) (range_with_len 0 l.k)
