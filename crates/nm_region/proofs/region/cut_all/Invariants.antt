use Rattle.std.proofs.Common.{ℕ, ◌≡◌, ◌≤◌, ◌<◌, true, false, length, map, get_or}
use Rattle.std.specs.List.{range_with_len}
use Rattle.std.specs.Vec.{vec_len, vec_capacity}
use denote.RawPtr.{block_of}
use Rattle.nm_region.specs.Buffers.{opened_buffer}
use Rattle.nm_region.proofs.region.cut_all.Given as goal

abbrev pub invariant-loop-at : goal.invariant-loop-at
invariant-loop-at l = record {
  start : l.block.start ≡ l.fn.block.start;
  size : l.block.size ≡ l.fn.block.size;
  count : length l.block.home ≡ l.n;
  home : (k : ℕ) → l.at ≤ k → k < l.n → get_or l.block.home k false ≡ true;
  room : l.n ≤ vec_capacity l.all;
  made : vec_len l.all ≡ l.at;
  all : l.all.items ≡ map (opened_buffer (record { region = block_of l.fn.block.start; buffers = l.n })) (range_with_len 2 l.at);
}
