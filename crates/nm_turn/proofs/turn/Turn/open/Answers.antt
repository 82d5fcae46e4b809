use Rattle.std.proofs.Common.{◌≡◌, rules, ap, sym, subst, [], ◌∷◌, Some, Option, List}
use Rattle.atomic_table.specs.Table.{opening}
use Rattle.nm_turn.specs.Rule.{TurnRule}
use Rattle.nm_turn.specs.Passes.{first_view}
use Rattle.nm_turn.proofs.Keeps.{opens_keeps}
use Rattle.nm_turn.proofs.turn.Turn.open.Goals as goal

pub new-requires : goal.new-requires
new-requires g c =
    let same = g.B.Kept.fixed c.of-about.result.value in
    let items : c.push_reserved.new.self.items ≡ Some c.args.value ∷ [] = search rules in
    subst (λ (l : List (Option g.row.B.Denot)). TurnRule g.B.Kept.entries g.B.Kept.fixed g.B.Kept.root same (opening (0 ∷ 0 ∷ 0 ∷ []) l (first_view same))) (sym items)
    (opens_keeps g.B.Kept.entries g.B.Kept.fixed g.B.Kept.root same c.args.value c.requires (ap g.B.Kept.fixed (sym c.of-about.ensures)))
