use Rattle.std.proofs.Common.{rules, ◌<◌, ap, sym, subst, ◌∙◌}
use Rattle.nm_turn.specs.Plays.{Hand, AreKnown}
use Rattle.nm_turn.specs.Passes.{Knows, known}
use Rattle.nm_turn.specs.Turns.{view_of}
use Rattle.nm_turn.proofs.Shares.{both_parts-live}
use Rattle.nm_turn.proofs.Calls.{known_both}
use Rattle.nm_turn.proofs.Keeps.{joins_keeps, learns_keeps}
use Rattle.nm_turn.proofs.turn.Turn.join.Goals as goal

pub join_seat-requires : goal.join_seat-requires
join_seat-requires g c = (search rules, search rules, search rules, search rules, joins_keeps g.B.Kept.entries g.B.Kept.fixed g.B.Kept.root _ _ _ _ _ c.requires.pass.1.0 c.requires.other.1.0 (c.requires.pass.0.1, c.requires.pass.0.2))

pub load-requires : goal.load-requires
load-requires g c =
    let e = c.join_seat.ensures.2 in
    let live : 0 < c.join_seat.new.seat.me.0.part.share = subst (λ (m : Hand g.row.B.Denot g.row.B-Entry.Denot g.row.B-Fixed.Denot). 0 < m.0.part.share) (sym e) (both_parts-live _ _ c.requires.pass.0.2) in
    (search rules, search rules, learns_keeps g.B.Kept.entries g.B.Kept.fixed g.B.Kept.root _ _ _ _ (known (view_of c.args.pass.now)) (known (view_of c.args.other)) (ap (λ m. m.0.stage) e) (ap (λ m. m.0.fixed) e ∙ c.requires.pass.0.1, live))

pub returns-clause-known : goal.returns-clause-known
returns-clause-known g c =
    let e = c.join_seat.ensures.2 in
    let told = c.load.ensures.2.1 in
    let k = known (view_of c.args.pass.now) in
    let l = known (view_of c.args.other) in
    let both = subst (AreKnown g.B.Kept.root told.0) (ap (λ m. m.0.stage) e) told.1 in
    let seen = ap (λ m. m.0.seen) c.load.ensures.2.0 ∙ ap (λ m. m.0.seen) e in
    subst (λ h. Knows g.B.Kept.root h k.seen k.mine × Knows g.B.Kept.root h l.seen l.mine) (sym seen) (known_both g.B.Kept.root told.0 k.seen l.seen k.mine l.mine both.0 both.1)
