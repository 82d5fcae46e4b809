use Rattle.std.proofs.Common.{◌≡◌, take}
use Rattle.std.specs.Prelude.{sum}
use Rattle.vale_line.specs.Gots.{buffers_of}
use Rattle.vale_line.specs.Leased.{sizes_in}
use Rattle.vale_line.proofs.lease.mark_sizes.Given as goal

abbrev pub invariant-loop-i : goal.invariant-loop-i
invariant-loop-i l = record {
  at : l.at ≡ sum (take l.i l.sizes);
  buffers : buffers_of l.gots.items ≡ buffers_of l.fn.gots.items;
  marked : sizes_in (take l.at l.gots.items) ≡ take l.i l.sizes;
}
