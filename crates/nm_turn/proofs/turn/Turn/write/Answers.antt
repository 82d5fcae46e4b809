use Rattle.std.proofs.Common.{◌≡◌, ◌+◌, ◌⊎◌, ◌++◌, ◌∷◌, List, ℕ, Some, length, append-nil, rules, ap, sym, subst, ◌∙◌}
use Rattle.atomic_table.specs.Table.{rest}
use Rattle.nm_turn.specs.declared.view.TurnStage.TheVariants.{Out}
use Rattle.nm_turn.specs.Numbered.{Stands}
use Rattle.nm_turn.specs.Plays.{Hand}
use Rattle.nm_turn.specs.Passes.{Knows}
use Rattle.nm_turn.specs.Turns.{view_of, entered}
use Rattle.nm_turn.proofs.Keeps.{commits_keeps}
use Rattle.nm_turn.proofs.Calls.{new_since-same}
use Rattle.nm_turn.proofs.turn.Turn.write.Goals as goal

pub fetch_add-requires : goal.fetch_add-requires
fetch_add-requires g c =
    let now = c.exchange-held.ensures.3 in
    let one = c.requires.one_more c.if-made.true in
    let root = g.B.Kept.root in
    let before = entered c.args.pass.now in
    let next = length before + 1 in (
      search rules,
      search rules,
      commits_keeps g.B.Kept.entries g.B.Kept.fixed root _ _ _ _ before c.args.value one.0 g.B.Kept.root_is_earlier (ap (λ m. m.0.stage) now ∙ c.requires.entered.0)
          (ap (λ m. m.1) now ∙ ap (λ l. (0, Some c.args.value) ∷ rest l) c.requires.entered.1) one.1
          (subst (λ (mine : List (ℕ × g.row.B-Entry.Denot)). (root one.0 next ≡ next) ⊎ Stands (root one.0 next) mine) (sym (ap (λ m. m.0.mine) now)) one.2) c.requires.few
          (ap (λ m. m.0.fixed) now ∙ c.requires.pass.1, search rules),
    )

pub returns-else-made : goal.returns-else-made
returns-else-made g c =
    let now = c.exchange-held.ensures.3 in
    let same = c.requires.same c.if-made.false in
    let old = view_of c.args.pass.now in record {
      same_seat = (c.exchange-held.ensures.0, c.exchange-held.ensures.1);
      in_hand = ap (λ m. m.1) now ∙ ap (λ l. (0, Some c.args.value) ∷ rest l) c.requires.entered.1;
      stage = ap (λ m. m.0.stage) now ∙ (c.requires.entered.0 ∙ ap (λ (l : List g.row.B-Entry.Denot). Out l) (sym same));
      fixed = ap (λ m. m.0.fixed) now;
      part = ap (λ m. m.0.part) now;
      mine = ap (λ m. m.0.mine) now ∙ sym (ap (λ l. old.mine ++ l) (new_since-same (entered c.args.pass.now) (g.B.Kept.entries c.args.value) same) ∙ append-nil old.mine);
      known = λ k. subst (λ (t : List g.row.B-Entry.Denot × (Hand g.row.B.Denot g.row.B-Entry.Denot g.row.B-Fixed.Denot)). Knows g.B.Kept.root t.0 t.1.0.seen t.1.0.mine) (λ i. (same i, now i)) k;
    }
