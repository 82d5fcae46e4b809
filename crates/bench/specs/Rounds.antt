-- A line between two rounds, in each of which frames are granted, filled, done and synced.
use Rattle.std.specs.Prelude.{ℕ, ◌≡◌, ◌+◌, List, [], ◌++◌, length}
use Rattle.nm_region.specs.Buffers.{Buffer, RegionState, AreAllOf}
use Rattle.vale_line.specs.Lines.{LineState}

-- a frame of one slot
abbrev pub IsOne : ℕ → Type 0
IsOne size = size ≡ 1

-- nothing is leased or done: the region's buffers are idle or came from a sync
pub record IsAtRest (region : RegionState) (line : LineState) (back : List Buffer) : Type 0 where
  pub no_lots : line.lots ≡ []
  pub count : length line.idle + length back ≡ line.size
  pub all : AreAllOf region (line.idle ++ back)
