-- How the sizes of some frames are kept.
use Rattle.std.specs.Prelude.{ℕ, List, replicate}
use Rattle.std.specs.Arc.{arc_value}
use Rattle.nm_frag.specs.declared.sizes.Kept.{Kept}
use Rattle.nm_frag.specs.declared.sizes.Kept.TheVariants.{Ones, Own, Shared}

abbrev pub sizes_kept : Kept → List ℕ
sizes_kept (Ones count) = replicate count 1
sizes_kept (Own sizes) = sizes.items
sizes_kept (Shared sizes) = (arc_value sizes).items
