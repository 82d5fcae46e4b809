use Rattle.std.proofs.Common.{◌≡◌, ◌+◌, ◌++◌, length, drop, reverse}
use Rattle.std.specs.Vec.{vec_capacity}
use Rattle.nm_user.specs.Offering.{gots_of}
use Rattle.nm_user.proofs.putting.wrap.Given as goal

abbrev pub invariant-loop-len : goal.invariant-loop-len
invariant-loop-len l = record {
  wrapped : l.pending.items ++ gots_of (reverse l.bufs.items) (drop l.len-index l.lengths) ≡ gots_of l.fn.bufs.items l.lengths;
  left : length l.bufs.items + l.len-index ≡ length l.lengths;
  made : length l.pending.items ≡ l.len-index;
  room : vec_capacity l.pending ≡ vec_capacity l.fn.pending;
  kept : vec_capacity l.bufs ≡ vec_capacity l.fn.bufs;
}
