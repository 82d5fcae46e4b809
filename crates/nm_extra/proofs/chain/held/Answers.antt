use Rattle.std.proofs.Common.{ℕ, sym, ◌∙◌, ap, arith}
use Rattle.std.specs.Prelude.{is_some}
use Rattle.nm_types.specs.declared.place.Place.TheVariants.{Extra}
use Rattle.nm_hold.specs.Holds.{index_at}
use Rattle.nm_extra.proofs.Found.{extras_count, some_counts, none_counts}
use Rattle.nm_extra.proofs.chain.held.Goals as goal
use Rattle.nm_extra.proofs.chain.held.Goals.{then-is_some, else-is_some}

pub loop-at-preserved : goal.loop-at-preserved
loop-at-preserved c =
    let more = extras_count (λ (at : ℕ). index_at c.args.hold.now (Extra c.args.port at)) c.loop-at.at in
    let index = c.index.ensures.index in
    elim c.if-is_some.branch [
      | then-is_some w ↦ (let one = some_counts (index_at c.args.hold.now (Extra c.args.port c.loop-at.at)) (ap is_some (sym index) ∙ (sym c.is_some.ensures ∙ w.if-is_some.true)) in
          record { counted = omega (arith, more, one, c.loop-at.invariant.counted, w.count-is); few = omega (arith, c.loop-at.invariant.few, w.count-is) })
      | else-is_some w ↦ (let none = none_counts (index_at c.args.hold.now (Extra c.args.port c.loop-at.at)) (ap is_some (sym index) ∙ (sym c.is_some.ensures ∙ w.if-is_some.false)) in
          record { counted = omega (arith, more, none, c.loop-at.invariant.counted, w.count-is); few = omega (arith, c.loop-at.invariant.few, w.count-is) })
    ]
