use Rattle.std.proofs.Common.{[], ◌∷◌}
use Rattle.std.proofs.lemmas.Result.{err_from_is_err_and}
use Rattle.nm_io.proofs.Gathering.{grows_past}
use Rattle.vale_strip.proofs.Strips.{counts_after, gathers_after}
use Rattle.vale_strip.proofs.pieces.put_after.Goals as goal

pub returns-in_err-put_byte-clause-gathers : goal.returns-in_err-put_byte-clause-gathers
returns-in_err-put_byte-clause-gathers g c =
    let p = err_from_is_err_and c.from_residual.result c.from_residual.ensures.1 in
    rw (p.1) (grows_past (g.K.Sink.holds c.args.out.now) (g.K.Sink.holds c.put_byte.new.out) c.args.strip.now (c.args.mark ∷ []) (g.T.Spelled.text c.args.item.now) c.in_err-put_byte.ensures.gathers)

pub returns-clause-gathers : goal.returns-clause-gathers
returns-clause-gathers g c =
    gathers_after (g.K.Sink.holds c.args.out.now) (g.K.Sink.holds c.put_byte.new.out) (g.K.Sink.holds c.spell.new.out) c.args.strip.now c.put_byte.new.strip c.spell.new.strip (c.args.mark ∷ []) (g.T.Spelled.text c.args.item.now) c.spell.result c.in_ok-put_byte.ensures.gathers c.spell.ensures.gathers

pub returns-in_err-put_byte-clause-counts : goal.returns-in_err-put_byte-clause-counts
returns-in_err-put_byte-clause-counts g c =
    rw ((err_from_is_err_and c.from_residual.result c.from_residual.ensures.1).1)
    (record { later = c.in_err-put_byte.ensures.counts.later; cause = c.in_err-put_byte.ensures.counts.cause })

pub returns-clause-counts : goal.returns-clause-counts
returns-clause-counts g c =
    counts_after g.K.Sink c.args.out.now c.put_byte.new.out c.spell.new.out c.spell.result c.in_ok-put_byte.ensures.counts.later c.spell.ensures.counts
