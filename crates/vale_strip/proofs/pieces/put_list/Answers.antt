use Rattle.std.proofs.Common.{List, ℕ, subst}
use Rattle.std.proofs.lemmas.Result.{err_from_is_err_and}
use Rattle.vale_strip.specs.Failures.{Puts}
use Rattle.vale_strip.proofs.Strips.{gathers_list, list_fails-first, list_nothing}
use Rattle.vale_strip.proofs.pieces.put_list.Goals as goal

pub returns-clause-gathers : goal.returns-clause-gathers
returns-clause-gathers g c =
    gathers_list (g.K.Sink.holds c.args.out.now) (g.K.Sink.holds c.spell.new.out) (g.K.Sink.holds c.put_each_after.new.out) c.args.strip.now c.spell.new.strip c.put_each_after.new.strip g.T.Spelled.text c.args.items.now c.in-Some.first.now c.in-Some.others.now c.put_each_after.result c.in-Some.ensures.cases c.in_ok-spell.ensures.gathers c.put_each_after.ensures.gathers

pub returns-in_default-clause-gathers : goal.returns-in_default-clause-gathers
returns-in_default-clause-gathers g c =
    subst (λ (text : List ℕ). Puts g.K.Sink c.args.out.now c.put_byte.new.out c.args.strip.now c.put_byte.new.strip c.put_byte.result text)
    (list_nothing g.T.Spelled.text c.args.items.now c.in_default.ensures.cases) c.put_byte.ensures.gathers

pub returns-in_err-spell-clause-gathers : goal.returns-in_err-spell-clause-gathers
returns-in_err-spell-clause-gathers g c =
    rw ((err_from_is_err_and c.from_residual.result c.from_residual.ensures.1).1)
    (list_fails-first (g.K.Sink.holds c.args.out.now) (g.K.Sink.holds c.spell.new.out) c.args.strip.now g.T.Spelled.text c.args.items.now c.in-Some.first.now c.in-Some.others.now c.in-Some.ensures.cases c.in_err-spell.ensures.gathers)
