use Rattle.std.proofs.Common.{rules, ◌<◌, ◌∷◌, Some, ap, sym, subst, ◌∙◌}
use Rattle.atomic_table.specs.Table.{rest}
use Rattle.nm_turn.specs.Plays.{Hand}
use Rattle.nm_turn.proofs.Keeps.{takes_value_keeps}
use Rattle.nm_turn.proofs.turn.Turn.enter.Goals as goal

pub load-requires : goal.load-requires
load-requires g c =
    let e = c.take.ensures.2.1 in
    let live : 0 < c.take.new.pass.seat.me.0.part.share = subst (λ (m : Hand g.row.B.Denot g.row.B-Entry.Denot g.row.B-Fixed.Denot). 0 < m.0.part.share) (sym e) c.requires.pass.2 in
    (search rules, search rules, takes_value_keeps g.B.Kept.entries g.B.Kept.fixed g.B.Kept.root _ _ _ _ c.take.ensures.2.0 (search rules) (ap (λ m. m.0.stage) e) (ap (λ m. m.0.fixed) e ∙ c.requires.pass.1, live))

pub exchange-requires : goal.exchange-requires
exchange-requires g c =
    let told = c.load.ensures.2 in
    let has = ap (λ m. m.1) told.1 in
    (search rules, (Some told.0, has ∙ ap (λ l. (0, Some told.0) ∷ rest l) (sym has)))
