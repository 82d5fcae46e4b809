use Rattle.std.proofs.Common.{slice_set, ap, refl, ◌∙◌, Some, rules}
use Rattle.std.proofs.lemmas.List.{length-set}
use Rattle.nm_region.specs.Buffers.{Buffer}
use Rattle.nm_region.specs.Marked.{with_front}
use Rattle.nm_hold.specs.declared.standing.Standing.{Standing}
use Rattle.nm_hold.proofs.Tied.{tied-kept}
use Rattle.nm_hold.proofs.Shown.{IsHold-stored}
use Rattle.nm_hold.proofs.Steps.{same_places}
use Rattle.nm_hold.proofs.hold.Hold.write_at.Goals as goal

pub invariant_of-self : goal.invariant_of-self
invariant_of-self c =
    let inv = c.self.invariant in
    let cells = c.self.inside.cells in
    let s = c.standing_mut-standing.result.now in
    let new : Standing = record { home = s.home; buf = c.write.new.self } in
    let count = length-set cells c.args.idx (Some new) in
    let index = ap (λ (b : Buffer). b.index) (c.write.ensures ∙ ap (with_front c.args.bytes.now) c.prepare-is_fresh.ensures.kept) in
    record {
      low = rw count inv.low;
      high = rw count inv.high;
      tables = inv.tables;
      once = inv.once;
      tied = tied-kept cells c.self.inside.ports.tables c.args.idx s new inv.tied c.standing_mut-standing.ensures.standing refl index;
    }

pub returns : goal.returns
returns c =
    let new : Standing = record { home = c.standing_mut-standing.result.now.home; buf = c.write.new.self } in
    let after = invariant_of-self c in
    record {
      cell = search rules;
      places = λ q. rw (← c.self.view_is) (same_places c.self.inside.cells (slice_set c.self.inside.cells c.args.idx (Some new)) c.self.inside.ports.tables c.self.invariant.tied after.tied q);
      hold = IsHold-stored _ _ after.low after.high after.tables after.once after.tied;
    }
