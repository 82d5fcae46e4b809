use Rattle.std.proofs.Common.{arith, take_all}
use Rattle.std.proofs.lemmas.Result.{err_from_is_err_and}
use Rattle.vale_entry.specs.Transcript.{hex_byte}
use Rattle.vale_strip.proofs.Strips.{gathered_nowhere, part_more, part_fails}
use Rattle.vale_strip.proofs.strip.put_digits.Goals as goal

pub loop-done-init : goal.loop-done-init
loop-done-init g c = record {
  within = omega arith;
  gathered = gathered_nowhere _ _;
  later = omega arith;
}

pub returns-in_err-put_part-clause-gathers : goal.returns-in_err-put_part-clause-gathers
returns-in_err-put_part-clause-gathers g c =
    rw ((err_from_is_err_and c.from_residual.result c.from_residual.ensures.1).1)
    (part_fails (g.K.Sink.holds c.args.out.now) (g.K.Sink.holds c.loop-done.out) (g.K.Sink.holds c.put_part.new.out) c.args.strip.now c.loop-done.strip hex_byte c.args.bytes.now
    c.loop-done.done c.min-end.result (omega arith) (omega arith) c.loop-done.invariant.gathered c.in_err-put_part.ensures.gathers)

pub loop-done-preserved : goal.loop-done-preserved
loop-done-preserved g c = record {
  within = omega arith;
  gathered = part_more (g.K.Sink.holds c.args.out.now) (g.K.Sink.holds c.loop-done.out) (g.K.Sink.holds c.put_part.new.out) c.args.strip.now c.loop-done.strip c.put_part.new.strip hex_byte c.args.bytes.now
      c.loop-done.done c.min-end.result (omega arith) (omega arith) c.loop-done.invariant.gathered c.in_ok-put_part.ensures.gathers;
  later = omega (arith, c.loop-done.invariant.later, c.in_ok-put_part.ensures.counts.later);
}

pub returns-clause-gathers : goal.returns-clause-gathers
returns-clause-gathers g c = rw (take_all c.loop-done.done c.args.bytes.now c.loop-done-test.false) at c.loop-done.invariant.gathered
