-- A lease as it is filled with the first frames that are wanted.
use Rattle.std.specs.Prelude.{ℕ, ◌≡◌, ◌≤◌, ◌<◌, List, [], length, filter_map, map, sum, take, slice_get}
use Rattle.std.specs.List.{AllByRecursion}
use Rattle.nm_types.specs.Sendable.{IsFrameBytes}
use Rattle.nm_types.specs.Parts.{slots_of_bytes, cut_frames}
use Rattle.nm_region.specs.Buffers.{indices_of}
use Rattle.vale_line.specs.Leased.{Leased}
use Rattle.vale_port.specs.Kept.{kept_gots}
use Rattle.vale_book.specs.BookView.{AreOf}
use Rattle.vale_line.specs.Gots.{buffers_of}

-- the frames at these places
abbrev pub placed : List (List ℕ) → List ℕ → List (List ℕ)
placed frames places = filter_map (slice_get frames) places

-- the frames that a lease is for: those at the first of these places
abbrev pub frames_for : Leased → List ℕ → List (List ℕ) → List (List ℕ)
frames_for lease places frames = placed frames (take (length lease.sizes) places)

abbrev pub IsPlaceIn : List (List ℕ) → ℕ → Type 0
IsPlaceIn frames place = place < length frames

-- no buffer of the lease is filled, and it has a buffer for each slot of its frames; as many at least
-- are wanted, and what is wanted is there
pub record IsFillable (lease : Leased) (places : List ℕ) (frames : List (List ℕ)) : Type 0 where
  pub none : lease.filled ≡ []
  pub sizes : lease.sizes ≡ map slots_of_bytes (frames_for lease places frames)
  pub buffers : length lease.empty ≡ sum lease.sizes
  pub enough : length lease.sizes ≤ length places
  pub there : AllByRecursion (IsPlaceIn frames) places
  pub few : AllByRecursion IsFrameBytes (frames_for lease places frames)

-- the frames wanted first lie in the buffers of the lease, part by part
pub record IsFilledWith (lease : Leased) (places : List ℕ) (frames : List (List ℕ)) (filled : Leased) : Type 0 where
  pub id : filled.id ≡ lease.id
  pub to : filled.to ≡ lease.to
  pub full : filled.sizes ≡ []
  pub empty : filled.empty ≡ []
  pub kept : kept_gots filled.filled ≡ record { buffers = indices_of lease.empty; parts = cut_frames (frames_for lease places frames) }
  pub region_is : (region : ℕ) → AreOf region lease.empty → AreOf region (buffers_of filled.filled)
