use Rattle.std.proofs.Common.{List, ℕ, subst}
use Rattle.std.proofs.lemmas.Result.{err_from_is_err_and}
use Rattle.vale_strip.specs.Failures.{Puts}
use Rattle.vale_strip.proofs.WrittenSpans.{buffers-fail, buffers-written, no-buffers}
use Rattle.vale_strip.proofs.pieces.put_buffers.Goals as goal

pub returns-clause-gathers : goal.returns-clause-gathers
returns-clause-gathers g c =
    buffers-written (g.K.Sink.holds c.args.out.now) (g.K.Sink.holds c.put_span.new.out) (g.K.Sink.holds c.put_others.new.out) c.args.strip.now c.put_span.new.strip c.put_others.new.strip
    c.args.version c.args.numbers.now c.in-Some.others.now c.in-Some.span c.put_others.result c.in-Some.ensures.some c.in_ok-put_span.ensures.gathers c.put_others.ensures.gathers

pub returns-in_default-clause-gathers : goal.returns-in_default-clause-gathers
returns-in_default-clause-gathers g c =
    subst (λ (text : List ℕ). Puts g.K.Sink c.args.out.now c.put_byte.new.out c.args.strip.now c.put_byte.new.strip c.put_byte.result text)
    (no-buffers c.args.version c.args.numbers.now c.in_default.ensures.none) c.put_byte.ensures.gathers

pub returns-in_err-put_span-clause-gathers : goal.returns-in_err-put_span-clause-gathers
returns-in_err-put_span-clause-gathers g c =
    rw ((err_from_is_err_and c.from_residual.result c.from_residual.ensures.1).1)
    (buffers-fail (g.K.Sink.holds c.args.out.now) (g.K.Sink.holds c.put_span.new.out) c.args.strip.now c.args.version c.args.numbers.now c.in-Some.others.now c.in-Some.span
    c.in-Some.ensures.some c.in_err-put_span.ensures.gathers)
