use Rattle.std.proofs.Common.{List, ℕ, [], ◌∷◌, codes, decimal}
use Rattle.std.proofs.lemmas.Result.{err_from_is_err_and}
use Rattle.vale_entry.specs.Transcript.{dests_text}
use Rattle.vale_strip.proofs.Strips.{words_after, words_fail}
use Rattle.vale_text.proofs.rows.put_gave.Goals as goal

pub returns-in_err-put_given-clause-gathers : goal.returns-in_err-put_given-clause-gathers
returns-in_err-put_given-clause-gathers g c =
    let p = err_from_is_err_and c.from_residual.result c.from_residual.ensures.1 in
    let head : List (List ℕ) = codes "=" ∷ codes "gave" ∷ decimal c.args.count ∷ codes "to" ∷ [] in
    rw (p.1) (words_fail (g.K.Sink.holds c.args.out.now) (g.K.Sink.holds c.put_given.new.out) c.args.strip.now head (dests_text c.args.to.now ∷ []) c.in_err-put_given.ensures.gathers)

pub returns-clause-gathers : goal.returns-clause-gathers
returns-clause-gathers g c =
    let head : List (List ℕ) = codes "=" ∷ codes "gave" ∷ decimal c.args.count ∷ codes "to" ∷ [] in
    words_after (g.K.Sink.holds c.args.out.now) (g.K.Sink.holds c.put_given.new.out) (g.K.Sink.holds c.put_words.new.out) c.args.strip.now c.put_given.new.strip c.put_words.new.strip
    head (dests_text c.args.to.now ∷ []) c.put_words.result c.in_ok-put_given.ensures.gathers (rw (c.as_slice.ensures) at c.put_words.ensures.gathers)
