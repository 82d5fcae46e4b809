use Rattle.std.proofs.Common.{ℕ, ◌≡◌, ◌∙◌, List, Option, sym, ap}
use Rattle.std.specs.Prelude.{slice_index_or}
use Rattle.nm_types.specs.Positions.{step_on}
use Rattle.nm_types.proofs.RingSteps.{step_on-below}
use Rattle.nm_hold.specs.declared.standing.Standing.{Standing}
use Rattle.nm_hold.specs.Renames.{cells_named}
use Rattle.nm_hold.proofs.Renamed.{renamed_more, still_stands}
use Rattle.nm_hold.proofs.renames.name_cells.Goals as goal

pub rename-requires : goal.rename-requires
rename-requires c =
    let at = step_on c.args.size c.args.first c.loop-k.k in
    let stood = c.requires.stands at (step_on-below c.args.size c.args.first c.loop-k.k c.requires.first) in
    rw (c.number_in.ensures, c.step_on-at.ensures) (c.loop-k.invariant.1 (slice_index_or c.args.numbers.now at 0) stood)

pub loop-k-preserved : goal.loop-k-preserved
loop-k-preserved c =
    let cells = c.loop-k.cells in
    let numbers = c.args.numbers.now in
    let named = c.args.named in
    let at = step_on c.args.size c.args.first c.loop-k.k in
    let number : c.number_in.result ≡ slice_index_or numbers at 0 = c.number_in.ensures ∙ ap (λ (n : ℕ). slice_index_or numbers n 0) c.step_on-at.ensures in
    let inv = c.loop-k.invariant in (
      c.rename.ensures ∙ (ap (cells_named named cells) number
          ∙ (ap (λ (xs : List (Option Standing)). cells_named named xs (slice_index_or numbers at 0)) inv.0 ∙ sym (renamed_more named numbers c.args.size c.args.first c.loop-k.k c.args.cells.now))),
      λ idx stood. rw c.rename.ensures (still_stands named cells c.number_in.result idx (inv.1 idx stood)),
    )
