use Rattle.std.proofs.Common.{◌≡◌, ◌+◌, ◌<◌, ◌^◌, length, drop}
use Rattle.std.specs.Prelude.{sum_by}
use Rattle.vale_line.specs.Gots.{last_count}
use Rattle.vale_line.specs.Lines.{ready_gots}
use Rattle.vale_line.specs.Rings.{held_lots}
use Rattle.vale_line.proofs.lot.count_ready.Given as goal

abbrev pub invariant-loop-i : goal.invariant-loop-i
invariant-loop-i l = record {
  counted : l.count + sum_by last_count (ready_gots (drop l.i (held_lots l.lots.items))) ≡ sum_by last_count (ready_gots (held_lots l.lots.items));
  few : l.count + length (ready_gots (drop l.i (held_lots l.lots.items))) < 2 ^ 32;
}
