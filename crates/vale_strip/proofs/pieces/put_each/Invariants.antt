use Rattle.std.proofs.Common.{◌≤◌, take}
use Rattle.std.specs.List.{flat_map}
use Rattle.nm_io.specs.Gathered.{Gathered}
use Rattle.vale_strip.proofs.pieces.put_each.Given as goal

abbrev pub invariant-loop-item : goal.invariant-loop-item
invariant-loop-item g l = let sink = g.K.Sink in record {
  gathered : Gathered (sink.holds l.fn.out) (sink.holds l.out) l.fn.strip l.strip (flat_map g.T.Spelled.text (take l.item-index l.items));
  later : sink.faults l.fn.out ≤ sink.faults l.out;
}
