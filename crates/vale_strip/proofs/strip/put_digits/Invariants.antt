use Rattle.std.proofs.Common.{◌≤◌, ◌-◌, take, length}
use Rattle.std.specs.List.{flat_map}
use Rattle.nm_io.specs.Gathered.{Gathered}
use Rattle.vale_entry.specs.Transcript.{hex_byte}
use Rattle.vale_strip.proofs.strip.put_digits.Given as goal

abbrev pub invariant-loop-done : goal.invariant-loop-done
invariant-loop-done g l = let sink = g.K.Sink in record {
  within : l.done ≤ length l.bytes;
  gathered : Gathered (sink.holds l.fn.out) (sink.holds l.out) l.fn.strip l.strip (flat_map hex_byte (take l.done l.bytes));
  later : sink.faults l.fn.out ≤ sink.faults l.out;
}

abbrev pub decreases-loop-done : goal.decreases-loop-done
decreases-loop-done g l = length l.bytes - l.done
