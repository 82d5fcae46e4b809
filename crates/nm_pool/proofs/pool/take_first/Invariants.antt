use Rattle.std.proofs.Common.{ℕ, ◌≡◌, ◌≤◌, ◌<◌, ◌-◌, ◌++◌, length, drop}
use Rattle.std.specs.Vec.{vec_capacity}
use Rattle.nm_pool.specs.Bits.{bit_of, AreBits}
use Rattle.nm_pool.specs.Kept.{buffers_in, ArePlaced}
use Rattle.nm_pool.proofs.pool.take_first.Given as goal

abbrev pub invariant-loop-words : goal.invariant-loop-words
invariant-loop-words l = record {
  before : (j : ℕ) → j < l.at → bit_of l.words.items j ≡ 0;
  bits : AreBits l.words.items l.places.items;
  words : length l.words.items ≡ length l.fn.words.items;
  split : l.taken.items ++ buffers_in (drop l.at l.places.items) ≡ buffers_in l.fn.places.items;
  placed : (index : ℕ) → ArePlaced index l.fn.places.items → ArePlaced index l.places.items;
  count : length l.places.items ≡ length l.fn.places.items;
  room : l.n ≤ vec_capacity l.taken;
  few : length l.taken.items ≤ l.n;
  end : l.at ≤ length l.places.items;
}

abbrev pub decreases-loop-words : goal.decreases-loop-words
decreases-loop-words l = length l.places.items - l.at
