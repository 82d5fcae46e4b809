use Rattle.std.proofs.Common.{◌≡◌, take, length}
use Rattle.nm_region.specs.Buffers.{indices_of}
use Rattle.vale_drive.proofs.winding.write_indices.Given as goal

abbrev pub invariant-loop-i : goal.invariant-loop-i
invariant-loop-i l = record {
  size : length l.numbers ≡ length l.fn.numbers;
  written : take l.i l.numbers ≡ take l.i (indices_of l.bufs);
}
