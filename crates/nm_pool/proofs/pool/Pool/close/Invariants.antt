use Rattle.std.proofs.Common.{◌≡◌, ◌≤◌, ◌++◌, length, reverse}
use Rattle.std.specs.Vec.{vec_len, vec_capacity}
use Rattle.nm_pool.specs.Kept.{buffers_in}
use Rattle.nm_pool.proofs.pool.Pool.close.Given as goal

abbrev pub invariant-loop-place : goal.invariant-loop-place
invariant-loop-place l = record {
  moved : l.room.items ++ buffers_in (reverse l.places.items) ≡ l.fn.self.free;
  fits : length l.fn.self.free ≤ vec_capacity l.room;
}

abbrev pub decreases-loop-place : goal.decreases-loop-place
decreases-loop-place l = vec_len l.places
