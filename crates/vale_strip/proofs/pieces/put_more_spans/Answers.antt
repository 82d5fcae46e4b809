use Rattle.std.proofs.lemmas.Result.{err_from_is_err_and}
use Rattle.vale_strip.proofs.WrittenSpans.{more-written, span-fails}
use Rattle.vale_strip.proofs.pieces.put_more_spans.Goals as goal

pub returns-in_err-put_span_after-clause-gathers : goal.returns-in_err-put_span_after-clause-gathers
returns-in_err-put_span_after-clause-gathers g c =
    rw ((err_from_is_err_and c.from_residual.result c.from_residual.ensures.1).1)
    (span-fails (g.K.Sink.holds c.args.out.now) (g.K.Sink.holds c.loop-span.out) (g.K.Sink.holds c.put_span_after.new.out) c.args.strip.now c.loop-span.strip c.args.version
    c.args.numbers.now c.loop-span.rest.now c.in-Some.others.now c.in-Some.span (g.K.Sink.faults c.args.out.now) (g.K.Sink.faults c.loop-span.out)
    c.loop-span.invariant c.in-Some.ensures.some c.in_err-put_span_after.ensures.gathers)

pub loop-span-preserved : goal.loop-span-preserved
loop-span-preserved g c =
    more-written (g.K.Sink.holds c.args.out.now) (g.K.Sink.holds c.loop-span.out) (g.K.Sink.holds c.put_span_after.new.out) c.args.strip.now c.loop-span.strip c.put_span_after.new.strip c.args.version
    c.args.numbers.now c.loop-span.rest.now c.in-Some.others.now c.in-Some.span (g.K.Sink.faults c.args.out.now) (g.K.Sink.faults c.loop-span.out) (g.K.Sink.faults c.put_span_after.new.out)
    c.loop-span.invariant c.in-Some.ensures.some c.in_ok-put_span_after.ensures.gathers c.in_ok-put_span_after.ensures.counts.later
