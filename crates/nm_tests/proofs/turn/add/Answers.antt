use Rattle.std.proofs.Common.{ℕ, ◌∷◌, [], List, length, sym, subst}
use Rattle.nm_turn.specs.Passes.{Told}
use Rattle.nm_turn.specs.Turns.{view_of}
use Rattle.nm_turn.proofs.Telling.{told_made, told_none}
use Rattle.nm_tests.proofs.turn.add.Goals as goal

pub returns-then-made-clause-told : goal.returns-then-made-clause-told
returns-then-made-clause-told g c =
    let told = told_made (λ entry at. at) (view_of c.args.pass.now) (view_of c.enter-numbers.new.pass) (view_of c.leave.new.pass) c.enter-numbers.result c.push-made.new.self c.args.number c.enter-numbers.ensures.entered.1 c.if-made.ensures.pushed c.leave.ensures.told in
    subst (λ (seen : List ℕ). Told (λ entry at. at) (view_of c.args.pass.now) (view_of c.leave.new.pass) seen ((length seen, c.args.number) ∷ [])) (sym told.seen) told

pub returns-else-made-clause-told : goal.returns-else-made-clause-told
returns-else-made-clause-told g c =
    let told = told_none (λ entry at. at) (view_of c.args.pass.now) (view_of c.enter-numbers.new.pass) (view_of c.leave.new.pass) c.enter-numbers.result c.push-made.new.self c.enter-numbers.ensures.entered.1 c.if-made.ensures.pushed c.leave.ensures.told in
    subst (λ (seen : List ℕ). Told (λ entry at. at) (view_of c.args.pass.now) (view_of c.leave.new.pass) seen []) (sym told.seen) told
