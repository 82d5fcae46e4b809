use Rattle.std.proofs.Common.{[], ◌∷◌, if◌then◌else◌}
use Rattle.std.proofs.lemmas.Result.{err_from_is_err_and}
use Rattle.nm_io.proofs.Gathering.{grows_past}
use Rattle.vale_entry.specs.Transcript.{hex_text}
use Rattle.vale_strip.proofs.Strips.{gathers_after}
use Rattle.vale_strip.proofs.pieces.put_frame.Goals as goal

pub returns-in_err-put_mark-clause-gathers : goal.returns-in_err-put_mark-clause-gathers
returns-in_err-put_mark-clause-gathers g c =
    rw ((err_from_is_err_and c.from_residual.result c.from_residual.ensures.1).1)
    (grows_past (g.K.Sink.holds c.args.out.now) (g.K.Sink.holds c.put_mark.new.out) c.args.strip.now (if c.args.frame.1 then 126 ∷ [] else []) (hex_text c.args.frame.0.now) c.in_err-put_mark.ensures.gathers)

pub returns-clause-gathers : goal.returns-clause-gathers
returns-clause-gathers g c =
    gathers_after (g.K.Sink.holds c.args.out.now) (g.K.Sink.holds c.put_mark.new.out) (g.K.Sink.holds c.put_hex.new.out) c.args.strip.now c.put_mark.new.strip c.put_hex.new.strip (if c.args.frame.1 then 126 ∷ [] else []) (hex_text c.args.frame.0.now) c.put_hex.result
    c.in_ok-put_mark.ensures.gathers c.put_hex.ensures.gathers
