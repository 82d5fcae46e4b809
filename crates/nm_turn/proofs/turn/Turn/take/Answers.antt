use Rattle.std.proofs.Common.{rules, ◌<◌, ap, sym, subst, ◌∙◌}
use Rattle.nm_turn.specs.Plays.{Hand}
use Rattle.nm_turn.proofs.Keeps.{takes_turn_keeps, awaits_keeps, awaited_keeps}
use Rattle.nm_turn.proofs.turn.Turn.take.Goals as goal

pub compare_exchange-requires : goal.compare_exchange-requires
compare_exchange-requires g c =
    let e = c.loop.invariant.same_view in
    let live : 0 < c.loop.pass.seat.me.0.part.share = subst (λ (m : Hand g.row.B.Denot g.row.B-Entry.Denot g.row.B-Fixed.Denot). 0 < m.0.part.share) (sym e) c.requires.pass.2 in
    (search rules, search rules, takes_turn_keeps g.B.Kept.entries g.B.Kept.fixed g.B.Kept.root _ _ _ _ (ap (λ m. m.0.stage) e ∙ c.requires.outside.0) (ap (λ m. m.0.fixed) e ∙ c.requires.pass.1, live))

pub fetch_add-requires : goal.fetch_add-requires
fetch_add-requires g c = (search rules, search rules, awaits_keeps g.B.Kept.entries g.B.Kept.fixed g.B.Kept.root _ _ _ _)

pub fetch_sub-requires : goal.fetch_sub-requires
fetch_sub-requires g c = (search rules, search rules, awaited_keeps g.B.Kept.entries g.B.Kept.fixed g.B.Kept.root _ _ _ _)
