use Rattle.std.proofs.lemmas.Result.{err_from_is_err_and}
use Rattle.vale_strip.proofs.WrittenSpans.{many-written, many-fail}
use Rattle.vale_strip.proofs.strip.put_more_runs.Goals as goal

pub returns-in_err-make_room-clause-gathers : goal.returns-in_err-make_room-clause-gathers
returns-in_err-make_room-clause-gathers g c =
    rw ((err_from_is_err_and c.from_residual.result c.from_residual.ensures.1).1)
    (many-fail (g.K.Sink.holds c.args.out.now) (g.K.Sink.holds c.loop-rest.out) (g.K.Sink.holds c.make_room.new.out) c.args.strip.now c.loop-rest.strip
    c.args.numbers.now c.loop-rest.rest.now (g.K.Sink.faults c.args.out.now) (g.K.Sink.faults c.loop-rest.out)
    c.loop-rest.invariant c.in_err-make_room.ensures.gathers)

pub loop-rest-preserved : goal.loop-rest-preserved
loop-rest-preserved g c =
    many-written (g.K.Sink.holds c.args.out.now) (g.K.Sink.holds c.loop-rest.out) (g.K.Sink.holds c.make_room.new.out) c.args.strip.now c.loop-rest.strip c.make_room.new.strip c.spans-rest.new.self
    c.args.numbers.now c.loop-rest.rest.now c.spans-rest.result.now (g.K.Sink.faults c.args.out.now) (g.K.Sink.faults c.loop-rest.out) (g.K.Sink.faults c.make_room.new.out)
    c.loop-rest.invariant c.in_ok-make_room.ensures.gathers c.spans-rest.ensures.added c.in_ok-make_room.ensures.counts.later
