use Rattle.std.proofs.Common.{List, ℕ, [], ◌∷◌, ◌++◌, codes, decimal}
use Rattle.std.proofs.lemmas.Result.{err_from_is_err_and}
use Rattle.nm_io.specs.Gathered.{Gathered}
use Rattle.vale_strip.specs.Pieces.{pieces_text}
use Rattle.vale_strip.proofs.Strips.{adds, adds_two, call_after, no_room}
use Rattle.vale_text.proofs.rows.put_at.Goals as goal

pub returns-clause-gathers : goal.returns-clause-gathers
returns-clause-gathers g c =
    let old = g.K.Sink.holds c.args.out.now in
    let middle = g.K.Sink.holds c.make_room.new.out in
    let p : List ℕ = c.make_room.new.strip in
    let next : List ℕ = c.labelled-2.new.self in
    let who : List ℕ = codes " " ++ decimal c.args.session in
    let port : List ℕ = decimal c.args.port.0 in
    let called : Gathered old middle c.args.strip.now next (who ++ (c.args.call.now ++ port)) =
    adds old middle c.args.strip.now p next (who ++ (c.args.call.now ++ port)) c.in_ok-make_room.ensures.gathers
    (adds_two p c.labelled.new.self next who (c.args.call.now ++ port) c.labelled.ensures.value c.labelled-2.ensures.value) in
    call_after old middle (g.K.Sink.holds c.put_words.new.out) c.args.strip.now next c.put_words.new.strip
    who c.args.call.now port (pieces_text (c.args.list ∷ [])) c.put_words.result called c.put_words.ensures.gathers

pub returns-in_err-make_room-clause-gathers : goal.returns-in_err-make_room-clause-gathers
returns-in_err-make_room-clause-gathers g c =
    rw ((err_from_is_err_and c.from_residual.result c.from_residual.ensures.1).1)
    (no_room _ _ _ _ c.in_err-make_room.ensures.gathers)
