use Rattle.std.proofs.Common.{◌≡◌, ◌∙◌, ap, rules}
use Rattle.std.specs.Prelude.{nat_eq, filter}
use Rattle.std.specs.Cmp.{nat_eq_equiv}
use Rattle.std.specs.Map.{lookup}
use Rattle.std.proofs.lemmas.Map.Entries.{option_filter, lookup-filter-values}
use Rattle.std.proofs.lemmas.Map.Made.{filter_same_pairs}
use Rattle.nm_watch.specs.Watching.{watch_of}
use Rattle.nm_watch.proofs.Forgetting.{is_by_other, kept_by_others}
use Rattle.nm_watch.proofs.watches.Watches.forget.Goals as goal

pub returns : goal.returns
returns c other =
    let port = c.args.port in
    let left = c.remove.new.self.entries in
    let kept : c.retain.new.self.entries ≡ filter (λ e. is_by_other port e.1) left = filter_same_pairs _ (λ e. is_by_other port e.1) _ (λ k v b w q t. search rules) _ _ c.retain.ensures.filtered in
    let seen = lookup-filter-values nat_eq_equiv (is_by_other port) other left c.remove.ensures.unique in
    let removed = c.remove.ensures.updates.0 other in
    rw (← c.self.view_is) (ap (lookup (nat_eq other)) kept ∙ (seen ∙ (ap (option_filter (is_by_other port)) removed ∙ kept_by_others port (nat_eq port.0 other) (watch_of c.self.inside.watches.entries other))))
