use Rattle.std.proofs.Common.{◌≡◌, List, map, ap, ◌∙◌, rules}
use Rattle.std.specs.Prelude.{filter}
use Rattle.std.proofs.lemmas.Fn.{filter_same}
use Rattle.vale_batch.specs.declared.alone.Own.{Own}
use Rattle.vale_batch.specs.Wants.{owned, want_seen, wants_some}
use Rattle.vale_batch.proofs.Merging.{kept-wanted}
use Rattle.vale_batch.proofs.lists.keep_wanting.Goals as goal

pub returns : goal.returns
returns c =
    let from = c.args.from in
    let flooded = c.args.flooded.now in
    let kept : c.retain.new.self.items ≡ filter (λ (own : Own). wants_some (want_seen from flooded (owned own))) c.args.owns.now.items =
    filter_same _ (λ (own : Own). wants_some (want_seen from flooded (owned own))) _ (λ x b q k. search rules) _ _ c.retain.ensures.filtered in
    ap (λ (all : List Own). map (want_seen from flooded) (map owned all)) kept ∙ kept-wanted from flooded c.args.owns.now.items
