use Rattle.std.proofs.Common.{◌≡◌, take, drop, length}
use Rattle.vale_line.specs.Gots.{frames_in}
use Rattle.vale_book.specs.Leases.{KeepsBuffers}
use Rattle.vale_serve.specs.Filling.{placed}
use Rattle.vale_serve.specs.Users.{contents}
use Rattle.vale_serve.proofs.granting.filled_from.Given as goal

abbrev pub invariant-loop-i : goal.invariant-loop-i
invariant-loop-i l = record {
  id : l.lease.id ≡ l.fn.lease.id;
  to : l.lease.to ≡ l.fn.lease.to;
  count : l.count ≡ length l.fn.lease.sizes;
  sizes : l.lease.sizes ≡ drop l.i l.fn.lease.sizes;
  frames : frames_in l.lease.filled ≡ placed (contents l.frames) (take l.i l.places);
  buffers : KeepsBuffers l.fn.lease l.lease;
}
