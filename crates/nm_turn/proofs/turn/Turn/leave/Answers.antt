use Rattle.std.proofs.Common.{◌<◌, List, rules, refl, ap, sym, subst, ◌∙◌}
use Rattle.nm_turn.specs.declared.view.Share.{Share}
use Rattle.nm_turn.specs.Passes.{Knows, listed}
use Rattle.nm_turn.specs.Turns.{view_of, entered}
use Rattle.nm_turn.proofs.Keeps.{puts_value_keeps, releases_keeps}
use Rattle.nm_turn.proofs.Calls.{begins_left, told_by}
use Rattle.nm_turn.proofs.turn.Turn.leave.Goals as goal

pub load-requires : goal.load-requires
load-requires g c =
    let written = c.write.ensures in
    let live : 0 < c.write.new.pass.seat.me.0.part.share = subst (λ (p : Share). 0 < p.share) (sym written.part) c.requires.pass.2 in
    (search rules, search rules, puts_value_keeps g.B.Kept.entries g.B.Kept.fixed g.B.Kept.root _ _ _ _ (g.B.Kept.entries c.args.value) c.args.value (search rules) written.stage written.in_hand refl c.requires.fixed (written.fixed ∙ c.requires.pass.1, live))

pub store-requires : goal.store-requires
store-requires g c =
    let written = c.write.ensures in
    let put = c.load.ensures.2.0 in
    let live : 0 < c.load.new.seat.me.0.part.share = subst (λ (p : Share). 0 < p.share) (sym (ap (λ m. m.0.part) put ∙ written.part)) c.requires.pass.2 in
    (search rules, search rules, releases_keeps g.B.Kept.entries g.B.Kept.fixed g.B.Kept.root _ _ _ _ _ (ap (λ m. m.0.stage) put) (ap (λ m. m.0.fixed) put ∙ (written.fixed ∙ c.requires.pass.1), live))

pub returns-clause-told : goal.returns-clause-told
returns-clause-told g c =
    let written = c.write.ensures in
    let put = c.load.ensures.2.0 in
    let gone = c.store.ensures.2 in
    let after = g.B.Kept.entries c.args.value in
    let new = c.write.new.pass.seat.me.0 in
    let begins = begins_left g.B.Kept.root (entered c.args.pass.now) (view_of c.args.pass.now).mine after c.args.made c.requires.same c.requires.one_more in
    let known = written.known (subst (λ (l : List g.row.B-Entry.Denot). Knows g.B.Kept.root l new.seen new.mine) (ap listed written.stage) c.load.ensures.2.1) in
    told_by g.B.Kept.root (view_of c.args.pass.now) c.store.new.seat.me.0 (entered c.args.pass.now) after begins known
    (ap (λ m. m.0.seen) gone ∙ (ap (λ m. listed m.0.stage) put ∙ ap listed written.stage)) (ap (λ m. m.0.part) gone ∙ (ap (λ m. m.0.part) put ∙ written.part)) (ap (λ m. m.0.mine) gone ∙ (ap (λ m. m.0.mine) put ∙ written.mine))
