use Rattle.std.proofs.Common.{◌≡◌, ◌<◌, Some, ap, sym, subst, ◌∙◌}
use mathlib.Core.Option.{some-injective}
use Rattle.nm_turn.specs.Shares.{IsWhole}
use Rattle.nm_turn.specs.Plays.{Hand, IsGiven}
use Rattle.nm_turn.specs.Passes.{Knows, HasAll}
use Rattle.nm_turn.proofs.Keeps.{has_value}
use Rattle.nm_turn.proofs.turn.Turn.close.Given as given
use Rattle.nm_turn.proofs.turn.Turn.close.Goals as goal

is_given : (g : given.Over) (c : goal.In-Some g) → IsGiven g.B.Kept.entries g.B.Kept.fixed g.B.Kept.root c.take.new.pass.seat.me.0 c.in-Some.value
is_given g c =
    let last = c.close_with-closed.ensures.values.2 in
    let now = c.take.ensures.2.1 in
    let live : 0 < c.take.new.pass.seat.me.0.part.share = subst (λ (m : Hand g.row.B.Denot g.row.B-Entry.Denot g.row.B-Fixed.Denot). 0 < m.0.part.share) (sym now) c.requires.pass.2 in
    let there = has_value g.B.Kept.entries g.B.Kept.fixed g.B.Kept.root _ last.0 last.1.0 c.take.new.pass.seat.id c.take.new.pass.seat.me.0 c.take.ensures.2.0 last.1.1 (ap (λ m. m.0.fixed) now ∙ c.requires.pass.1, live) (ap (λ m. m.0.stage) now) in
    let same : Some there.0 ≡ Some c.in-Some.value = some-injective _ _ (sym (last.4 0 (Some there.0) there.1) ∙ c.take-held.ensures.value) ∙ c.in-Some.is in
    let is : there.0 ≡ c.in-Some.value = cc same in
    subst (λ (b : g.row.B.Denot). IsGiven g.B.Kept.entries g.B.Kept.fixed g.B.Kept.root c.take.new.pass.seat.me.0 b) is there.2

pub returns-clause-knows : goal.returns-clause-knows
returns-clause-knows g c =
    subst (λ (m : Hand g.row.B.Denot g.row.B-Entry.Denot g.row.B-Fixed.Denot). Knows g.B.Kept.root (g.B.Kept.entries c.in-Some.value) m.0.seen m.0.mine) c.take.ensures.2.1 (is_given g c).knows

pub returns-clause-whole : goal.returns-clause-whole
returns-clause-whole g c =
    subst (λ (m : Hand g.row.B.Denot g.row.B-Entry.Denot g.row.B-Fixed.Denot). IsWhole m.0.part → HasAll (g.B.Kept.entries c.in-Some.value) m.0.seen m.0.mine) c.take.ensures.2.1 (is_given g c).has_all
