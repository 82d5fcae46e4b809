use Rattle.std.proofs.Common.{[], ◌∷◌}
use Rattle.std.proofs.lemmas.Result.{err_from_is_err_and}
use Rattle.vale_entry.specs.Transcript.{span_text}
use Rattle.vale_strip.proofs.Strips.{adds, adds_two, no_room}
use Rattle.vale_strip.proofs.strip.put_span_after.Goals as goal

pub returns-in_err-make_room-clause-gathers : goal.returns-in_err-make_room-clause-gathers
returns-in_err-make_room-clause-gathers g c =
    rw ((err_from_is_err_and c.from_residual.result c.from_residual.ensures.1).1)
    (no_room _ _ _ _ c.in_err-make_room.ensures.gathers)

pub returns-clause-gathers : goal.returns-clause-gathers
returns-clause-gathers g c =
    adds _ _ _ _ _ _ c.in_ok-make_room.ensures.gathers
    (adds_two c.make_room.new.strip c.push.new.self c.span.new.self (c.args.mark ∷ []) (span_text c.args.span) c.push.ensures c.span.ensures)
