-- The sizes of some frames, as they are told.
use Rattle.std.specs.Prelude.{ℕ, List, replicate}
use Rattle.nm_frag.specs.declared.sizes.Told.{Told}
use Rattle.nm_frag.specs.declared.sizes.Told.TheVariants.{Ones, Each}

abbrev pub sizes_told : Told → List ℕ
sizes_told (Ones count) = replicate count 1
sizes_told (Each sizes) = sizes.now
