use Rattle.std.proofs.Common.{List, ℕ, [], ◌∷◌, ◌++◌, codes, decimal}
use Rattle.std.proofs.lemmas.List.{append-nil}
use Rattle.std.proofs.lemmas.Result.{err_from_is_err_and}
use Rattle.vale_entry.specs.Transcript.{words_text}
use Rattle.vale_strip.proofs.Strips.{adds, adds_three, no_room}
use Rattle.vale_text.proofs.rows.put_left.Goals as goal

pub returns-clause-gathers : goal.returns-clause-gathers
returns-clause-gathers g c =
    let p : List ℕ = c.make_room.new.strip in
    let new : List ℕ = c.add_label.new.self in
    let words : List (List ℕ) = codes "=" ∷ codes "short" ∷ decimal c.args.lines ∷ codes "lone" ∷ decimal c.args.lone ∷ codes "to" ∷ [] in
    adds (g.K.Sink.holds c.args.out.now) (g.K.Sink.holds c.make_room.new.out) c.args.strip.now p new (words_text words) c.in_ok-make_room.ensures.gathers
    (simp append-nil (adds_three p c.labelled.new.self c.labelled-2.new.self c.add_label.new.self (codes " = short " ++ decimal c.args.lines) (codes " lone " ++ decimal c.args.lone) (codes " to") c.labelled.ensures.value c.labelled-2.ensures.value c.add_label.ensures))

pub returns-in_err-make_room-clause-gathers : goal.returns-in_err-make_room-clause-gathers
returns-in_err-make_room-clause-gathers g c =
    rw ((err_from_is_err_and c.from_residual.result c.from_residual.ensures.1).1)
    (no_room _ _ _ _ c.in_err-make_room.ensures.gathers)
