use Rattle.std.proofs.Common.{◌≤◌, ◌++◌, take}
use Rattle.nm_io.specs.Gathered.{Gathered}
use Rattle.vale_entry.specs.Transcript.{entry_lines}
use Rattle.vale_text.proofs.transcript.put_entries.Given as goal

abbrev pub invariant-loop-i : goal.invariant-loop-i
invariant-loop-i g l = let sink = g.K.Sink in record {
  gathered : Gathered (sink.holds l.fn.out) (sink.holds l.out) l.fn.lines.bytes (l.lines.bytes ++ l.strip) (entry_lines 2 1 (take l.i l.entries));
  later : sink.faults l.fn.out ≤ sink.faults l.out;
}
