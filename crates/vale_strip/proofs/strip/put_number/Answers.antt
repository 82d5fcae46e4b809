use Rattle.std.proofs.lemmas.Result.{err_from_is_err_and}
use Rattle.vale_strip.proofs.Strips.{adds, no_room}
use Rattle.vale_strip.proofs.strip.put_number.Goals as goal

pub returns-in_err-make_room-clause-gathers : goal.returns-in_err-make_room-clause-gathers
returns-in_err-make_room-clause-gathers g c =
    rw ((err_from_is_err_and c.from_residual.result c.from_residual.ensures.1).1)
    (no_room _ _ _ _ c.in_err-make_room.ensures.gathers)

pub returns-clause-gathers : goal.returns-clause-gathers
returns-clause-gathers g c = adds _ _ _ _ _ _ c.in_ok-make_room.ensures.gathers c.number.ensures.value
