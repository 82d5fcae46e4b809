use Rattle.std.proofs.Common.{◌≡◌, replicate}
use Rattle.std.specs.Vec.{vec_len, vec_capacity, vec_ptr}
use Rattle.nm_region.proofs.part.zeroed.Given as goal

abbrev pub invariant-loop : goal.invariant-loop
invariant-loop l = record {
  items : l.part.items ≡ replicate l.counter 0;
  count : vec_len l.part ≡ l.counter;
  room : vec_capacity l.part ≡ 2048;
  place : vec_ptr l.part ≡ vec_ptr l.fn.part;
}
