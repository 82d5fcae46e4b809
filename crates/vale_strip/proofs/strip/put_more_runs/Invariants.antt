use Rattle.std.proofs.Common.{length}
use Rattle.vale_strip.proofs.WrittenSpans.{AreWritten}
use Rattle.vale_strip.proofs.strip.put_more_runs.Given as goal

abbrev pub invariant-loop-rest : goal.invariant-loop-rest
invariant-loop-rest g l = let sink = g.K.Sink in
    AreWritten (sink.holds l.fn.out) (sink.holds l.out) l.fn.strip l.strip 2 l.numbers l.rest (sink.faults l.fn.out) (sink.faults l.out)

abbrev pub decreases-loop-rest : goal.decreases-loop-rest
decreases-loop-rest g l = length l.rest
