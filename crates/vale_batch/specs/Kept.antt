-- How the places of some frames are kept, and where the frames of a batch go.
use Rattle.std.specs.Prelude.{ℕ, List, replicate}
use Rattle.std.specs.Arc.{arc_value}
use Rattle.vale_batch.specs.declared.looking.Looked.{Looked}
use Rattle.vale_batch.specs.declared.destinations.Destinations.{Destinations}
use Rattle.vale_batch.specs.declared.destinations.Destinations.TheVariants.{Alike, Each}
use Rattle.vale_batch.specs.declared.shares.Kept.{Kept}
use Rattle.vale_batch.specs.declared.shares.Kept.TheVariants.{Own, Shared}
use Rattle.vale_batch.specs.Looking.{looked_one}

abbrev pub places_kept : Kept → List ℕ
places_kept (Own places) = places.items
places_kept (Shared places) = (arc_value places).items

-- where each frame goes
abbrev pub looked_kept : Destinations → List Looked
looked_kept (Alike to count) = replicate count (looked_one to)
looked_kept (Each all) = all.items
