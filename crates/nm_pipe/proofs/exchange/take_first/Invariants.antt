use Rattle.std.proofs.Common.{◌≡◌, ◌+◌, ◌-◌, ◌≤◌, ◌++◌, take, drop, reverse}
use Rattle.std.specs.Vec.{vec_len, vec_capacity}
use Rattle.nm_pipe.proofs.exchange.take_first.Given as goal

abbrev pub invariant-loop : goal.invariant-loop
invariant-loop g l = record {
  taken : l.taken.items ≡ l.fn.taken.items ++ take l.counter l.fn.pending.items;
  pending : reverse l.pending.items ≡ drop l.counter l.fn.pending.items;
  capacity : vec_capacity l.pending ≡ vec_capacity l.fn.pending;
  room : vec_len l.taken + (l.count - l.counter) ≤ vec_capacity l.taken;
}
