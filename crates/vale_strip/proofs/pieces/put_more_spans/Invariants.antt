use Rattle.std.proofs.Common.{length}
use Rattle.vale_strip.proofs.WrittenSpans.{AreWritten}
use Rattle.vale_strip.proofs.pieces.put_more_spans.Given as goal

abbrev pub invariant-loop-span : goal.invariant-loop-span
invariant-loop-span g l = let sink = g.K.Sink in
    AreWritten (sink.holds l.fn.out) (sink.holds l.out) l.fn.strip l.strip l.version l.numbers l.rest (sink.faults l.fn.out) (sink.faults l.out)

abbrev pub decreases-loop-span : goal.decreases-loop-span
decreases-loop-span g l = length l.rest
