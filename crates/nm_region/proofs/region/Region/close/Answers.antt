use Rattle.std.proofs.Common.{ℕ, ◌≡◌, length, sym, ap, ◌∙◌, subst}
use Rattle.nm_region.specs.Buffers.{RegionState}
use Rattle.nm_region.specs.Returned.{AreComing}
use Rattle.nm_region.proofs.Returns.{coming-all}
use Rattle.nm_region.proofs.region.Region.close.Goals as goal

pub take_all_back-block-requires-clause-coming : goal.take_all_back-block-requires-clause-coming
take_all_back-block-requires-clause-coming c =
    let home = c.self.inside.block.home in
    let bufs = c.args.all.items in
    let count : length home ≡ c.args.self.buffers = c.self.invariant.buffers ∙ ap (λ (r : RegionState). r.buffers) c.self.view_is in
    subst (λ (r : ℕ). AreComing r home bufs) (sym (ap (λ (r : RegionState). r.region) c.self.view_is)) (coming-all c.args.self home bufs count c.requires)
