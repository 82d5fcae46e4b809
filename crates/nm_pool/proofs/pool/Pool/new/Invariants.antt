use Rattle.std.proofs.Common.{◌≡◌, ◌≤◌, ◌+◌, ◌++◌, map, reverse, Some}
use Rattle.std.specs.Vec.{vec_len, vec_capacity}
use Rattle.nm_region.specs.Buffers.{Buffer}
use Rattle.nm_pool.proofs.pool.Pool.new.Given as goal

abbrev pub invariant-loop-buf : goal.invariant-loop-buf
invariant-loop-buf l = record {
  moved : l.places.items ++ map (λ (b : Buffer). Some b) (reverse l.bufs.items) ≡ map (λ (b : Buffer). Some b) l.fn.bufs.items;
  count : vec_len l.places + vec_len l.bufs ≡ l.count;
  room : l.count ≤ vec_capacity l.places;
  kept_room : l.count ≤ vec_capacity l.bufs;
}

abbrev pub decreases-loop-buf : goal.decreases-loop-buf
decreases-loop-buf l = vec_len l.bufs
