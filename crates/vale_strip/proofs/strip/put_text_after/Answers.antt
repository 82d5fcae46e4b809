use Rattle.std.proofs.Common.{[], ◌∷◌}
use Rattle.std.proofs.lemmas.Result.{err_from_is_err_and}
use Rattle.nm_io.proofs.Gathering.{grows_past}
use Rattle.vale_strip.proofs.Strips.{adds, adds_two, gathers_after, no_room}
use Rattle.vale_strip.proofs.strip.put_text_after.Goals as goal

pub returns-in_err-put_byte-clause-gathers : goal.returns-in_err-put_byte-clause-gathers
returns-in_err-put_byte-clause-gathers g c =
    let p = err_from_is_err_and c.from_residual.result c.from_residual.ensures.1 in
    rw (p.1) (grows_past (g.K.Sink.holds c.args.out.now) (g.K.Sink.holds c.put_byte.new.out) c.args.strip.now (c.args.mark ∷ []) c.args.text.now c.in_err-put_byte.ensures.gathers)

pub returns-then-text-ge-ROOM-clause-gathers : goal.returns-then-text-ge-ROOM-clause-gathers
returns-then-text-ge-ROOM-clause-gathers g c =
    gathers_after (g.K.Sink.holds c.args.out.now) (g.K.Sink.holds c.put_byte.new.out) (g.K.Sink.holds c.put_long.new.out) c.args.strip.now c.put_byte.new.strip c.put_long.new.strip (c.args.mark ∷ []) c.args.text.now c.put_long.result c.in_ok-put_byte.ensures.gathers c.put_long.ensures.gathers

pub returns-in_err-make_room-clause-gathers : goal.returns-in_err-make_room-clause-gathers
returns-in_err-make_room-clause-gathers g c =
    rw ((err_from_is_err_and c.from_residual-in_err-make_room.result c.from_residual-in_err-make_room.ensures.1).1)
    (no_room _ _ _ _ c.in_err-make_room.ensures.gathers)

pub returns-clause-gathers : goal.returns-clause-gathers
returns-clause-gathers g c =
    adds _ _ _ _ _ _ c.in_ok-make_room.ensures.gathers
    (adds_two c.make_room.new.strip c.push.new.self c.add.new.self (c.args.mark ∷ []) c.args.text.now c.push.ensures c.add.ensures)
