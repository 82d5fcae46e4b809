use Rattle.std.proofs.Common.{[], ◌∷◌}
use Rattle.std.proofs.lemmas.Result.{err_from_is_err_and}
use Rattle.nm_io.proofs.Gathering.{grows_past}
use Rattle.vale_entry.specs.Transcript.{frame_text}
use Rattle.vale_strip.proofs.Strips.{gathers_after}
use Rattle.vale_strip.proofs.pieces.put_next_frame.Goals as goal

pub returns-in_err-put_byte-clause-gathers : goal.returns-in_err-put_byte-clause-gathers
returns-in_err-put_byte-clause-gathers g c =
    let p = err_from_is_err_and c.from_residual.result c.from_residual.ensures.1 in
    rw (p.1) (grows_past (g.K.Sink.holds c.args.out.now) (g.K.Sink.holds c.put_byte.new.out) c.args.strip.now (44 ∷ []) (frame_text (record { bytes = c.args.frame.0.now; no_learn = c.args.frame.1 })) c.in_err-put_byte.ensures.gathers)

pub returns-clause-gathers : goal.returns-clause-gathers
returns-clause-gathers g c =
    gathers_after (g.K.Sink.holds c.args.out.now) (g.K.Sink.holds c.put_byte.new.out) (g.K.Sink.holds c.put_frame.new.out) c.args.strip.now c.put_byte.new.strip c.put_frame.new.strip (44 ∷ []) (frame_text (record { bytes = c.args.frame.0.now; no_learn = c.args.frame.1 })) c.put_frame.result c.in_ok-put_byte.ensures.gathers c.put_frame.ensures.gathers
