use Rattle.std.proofs.Common.{◌≤◌, take, map}
use Rattle.nm_io.specs.Gathered.{Gathered}
use Rattle.vale_entry.specs.Transcript.{frame_text, list_text}
use Rattle.vale_strip.proofs.pieces.put_frames.Given as goal

abbrev pub invariant-loop-i : goal.invariant-loop-i
invariant-loop-i g l = let sink = g.K.Sink in record {
  gathered : Gathered (sink.holds l.fn.out) (sink.holds l.out) l.fn.strip l.strip (list_text (map frame_text (take l.i l.frames)));
  later : sink.faults l.fn.out ≤ sink.faults l.out;
}
