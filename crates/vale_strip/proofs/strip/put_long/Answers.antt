use Rattle.std.proofs.lemmas.Result.{err_from_is_err_and}
use Rattle.vale_strip.proofs.Strips.{room_fails, goes_out}
use Rattle.vale_strip.proofs.strip.put_long.Goals as goal

pub returns-in_err-put_strip-clause-gathers : goal.returns-in_err-put_strip-clause-gathers
returns-in_err-put_strip-clause-gathers g c =
    rw ((err_from_is_err_and c.from_residual.result c.from_residual.ensures.1).1)
    (room_fails _ _ _ _ c.in_err-put_strip.ensures.writes)

pub returns-clause-gathers : goal.returns-clause-gathers
returns-clause-gathers g c =
    goes_out (g.K.Sink.holds c.args.out.now) (g.K.Sink.holds c.put_strip.new.out) (g.K.Sink.holds c.put_all.new.out) c.args.strip.now c.put_strip.new.strip c.args.text.now c.put_all.result
    c.in_ok-put_strip.ensures.writes c.in_ok-put_strip.ensures.emptied c.put_all.ensures.writes
