use Rattle.std.proofs.Common.{◌≡◌, ◌≤◌, length}
use Rattle.std.specs.Vec.{vec_len, vec_capacity}
use Rattle.vale_serve.proofs.Framing.{FramedSoFar}
use Rattle.vale_serve.proofs.putting.all_framed.Given as goal

abbrev pub invariant-loop-i : goal.invariant-loop-i
invariant-loop-i l = record {
  framed : FramedSoFar l.fn.bufs.items l.offered l.i l.bufs.items l.pending.items;
  count : vec_len l.pending ≡ l.i;
  room : length l.offered ≤ vec_capacity l.pending;
}
