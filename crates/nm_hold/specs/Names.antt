-- By which region and index the buffers of a hold are told apart.
use Rattle.std.specs.Prelude.{ℕ, Option, option_map}
use Rattle.nm_region.specs.Buffers.{name_of}
use Rattle.nm_hold.specs.Holds.{HoldState, buffer_at}

abbrev pub name_at : HoldState → ℕ → Option (ℕ × ℕ)
name_at h idx = option_map name_of (buffer_at h idx)
