-- How cells that lie side by side are kept.
use Rattle.std.specs.Prelude.{◌≡◌, ◌+◌, ◌^◌, ◌<◌, ◌≤◌, length}
use Rattle.std.specs.Mem.{manually_drop_value}
use Rattle.std.specs.Vec.{vec_ptr, vec_capacity}
use Rattle.nm_reach.specs.declared.stretch.Stretch.TheInside.{Inside}

-- the cells are full, lie where the spot is, and within the field
pub record IsStretch {T : Type 0} (s : Inside T) : Type 0 where
  pub place : s.spot.ptr ≡ vec_ptr (manually_drop_value s.cells)
  pub full : vec_capacity (manually_drop_value s.cells) ≡ length (manually_drop_value s.cells).items
  pub within : s.spot.at + length (manually_drop_value s.cells).items ≤ s.spot.size
  pub small : s.spot.size < 2 ^ 32
