use Rattle.std.proofs.Common.{◌≡◌, ◌++◌, List, length, ℕ, arith, ap, ◌∙◌, subst, sym, OnOk}
use Rattle.nm_turn.specs.Numbered.{IsPicked, values}
use Rattle.nm_turn.specs.Passes.{HasAll, kept_view}
use Rattle.nm_turn.specs.Samples.{spread}
use Rattle.nm_turn.specs.Turns.{view_of}
use Rattle.nm_turn.proofs.Samples.{length-spread}
use Rattle.nm_turn.proofs.Joining.{joined_whole, joined_mine, length-both, values-picked}
use Rattle.nm_tests.proofs.turn.add_by_two.Given as given
use Rattle.nm_tests.proofs.turn.add_by_two.Goals as goal

first_made : (g : given.Over) (c : goal.In_ok-second g) → values (view_of c.add_in_threads-one.result.0.0).mine ≡ spread 0 c.args.count
first_made g c =
    let was = c.in_ok-first.was in
    let old = view_of c.fork-two.new.pass in
    let empty = ap (λ v. values v.mine) (c.fork-two.ensures.kept.1 ∙ ap kept_view c.in_ok-turn.ensures.1) in
    subst (λ r. OnOk r (values (view_of c.add_in_threads-one.result.0.0).mine ≡ values old.mine ++ spread 0 c.args.count)) was c.add_in_threads-one.ensures.first_added ∙ ap (λ (l : List ℕ). l ++ spread 0 c.args.count) empty

second_made : (g : given.Over) (c : goal.In_ok-second g) → values (view_of c.add_in_threads-one.result.1.0).mine ≡ spread 1 c.args.count
second_made g c =
    let was = c.in_ok-second.was in
    let old = view_of c.fork-two.result in
    let empty = ap (λ v. values v.mine) c.fork-two.ensures.given.2 in
    subst (λ r. OnOk r (values (view_of c.add_in_threads-one.result.1.0).mine ≡ values old.mine ++ spread 1 c.args.count)) was c.add_in_threads-one.ensures.second_added ∙ ap (λ (l : List ℕ). l ++ spread 1 c.args.count) empty

has_all : (g : given.Over) (c : goal.In_ok-second g) → HasAll c.close.result (view_of c.join.new.pass).seen (view_of c.join.new.pass).mine
has_all g c =
    let made = c.add_in_threads-one.ensures in
    let whole_before = ap (λ v. v.part) c.in_ok-turn.ensures.1 in
    c.close.ensures.whole (joined_whole (view_of c.add_in_threads-one.result.0.0) (view_of c.add_in_threads-one.result.1.0) (view_of c.join.new.pass)
    (made.first.1 ∙ ap (λ v. v.part) (c.fork-two.ensures.kept.1 ∙ ap kept_view c.in_ok-turn.ensures.1)) (made.second.1 ∙ (ap (λ v. v.part) c.fork-two.ensures.given.2 ∙ ap (λ v. (kept_view v).part) c.in_ok-turn.ensures.1))
    c.join.ensures.joined)

pub returns-clause-all : goal.returns-clause-all
returns-clause-all g c =
    let one = view_of c.add_in_threads-one.result.0.0 in
    let two = view_of c.add_in_threads-one.result.1.0 in
    let items = c.close.result in
    let both = length-both items one.mine two.mine (joined_mine items one two (view_of c.join.new.pass) c.join.ensures.joined (has_all g c)) in
    let first = ap length (first_made g c) ∙ length-spread 0 c.args.count in
    let second = ap length (second_made g c) ∙ length-spread 1 c.args.count in
    let handed = ap length c.into_items-items.ensures in
    omega (arith, both, first, second, handed)

pub returns-clause-first : goal.returns-clause-first
returns-clause-first g c =
    let one = view_of c.add_in_threads-one.result.0.0 in
    subst (λ (t : List ℕ × List ℕ). IsPicked t.0 t.1) (λ i. (first_made g c i, ((has_all g c).all_seen ∙ sym c.into_items-items.ensures) i)) (values-picked (λ entry at. at) (view_of c.join.new.pass).seen one.seen one.mine c.join.ensures.known.0)

pub returns-clause-second : goal.returns-clause-second
returns-clause-second g c =
    let two = view_of c.add_in_threads-one.result.1.0 in
    subst (λ (t : List ℕ × List ℕ). IsPicked t.0 t.1) (λ i. (second_made g c i, ((has_all g c).all_seen ∙ sym c.into_items-items.ensures) i)) (values-picked (λ entry at. at) (view_of c.join.new.pass).seen two.seen two.mine c.join.ensures.known.1)
