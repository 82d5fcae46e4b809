use Rattle.std.proofs.Common.{ℕ, ◌≡◌, ◌≤◌, ◌-◌, ◌*◌, ◌^◌, map}
use Rattle.std.specs.Prelude.{min}
use Rattle.std.specs.List.{range_with_len}
use Rattle.std.specs.Vec.{vec_len, vec_capacity}
use Rattle.nm_pool.proofs.bits.full_words.Given as goal

abbrev pub invariant-loop-at : goal.invariant-loop-at
invariant-loop-at l = record {
  items : l.words.items ≡ map (λ (w : ℕ). 2 ^ min (l.count - w * 64) 64 - 1) (range_with_len 0 l.at);
  made : vec_len l.words ≡ l.at;
  room : l.most ≤ vec_capacity l.words;
}
