-- A lease: buffers of a receive ring that a sender fills, frame by frame.
use Rattle.std.specs.Prelude.{ℕ, Bool, zero, suc, ◌+◌, ◌&&◌, ◌==◌, nat_le, List, [], ◌∷◌, ◌++◌, length, drop}
use Rattle.nm_types.specs.Limits.{most_frame_bytes}
use Rattle.nm_frag.specs.Parts.{slots_of_length}
use Rattle.nm_region.specs.Buffers.{Buffer}
use Rattle.vale_line.specs.declared.got.Got.{Got}
use Rattle.vale_line.specs.Gots.{frames_in, gots_with}

-- the buffers that are filled; of each frame that is still to be filled in its slots; and the buffers
-- for these
pub record Leased : Type 0 where
  pub id : ℕ
  pub to : ℕ
  pub filled : List Got
  pub sizes : List ℕ
  pub empty : List Buffer

-- what was filled in so far
abbrev pub contents : Leased → List (List ℕ)
contents lease = frames_in lease.filled

-- how many frames a lease is for
abbrev pub count_of : Leased → ℕ
count_of lease = length (contents lease) + length lease.sizes

-- how many buffers a lease has
abbrev pub buffer_count : Leased → ℕ
buffer_count lease = length lease.filled + length lease.empty

-- the slots of each frame that is to lie in these buffers, behind so many of another frame: the first
-- buffer of each tells how many more it takes
abbrev pub sizes_behind : List Got → ℕ → List ℕ
sizes_behind [] skip = []
sizes_behind (got ∷ gots) zero = suc got.rest ∷ sizes_behind gots got.rest
sizes_behind (got ∷ gots) (suc skip) = sizes_behind gots skip

abbrev pub sizes_in : List Got → List ℕ
sizes_in gots = sizes_behind gots zero

abbrev pub first_size : List ℕ → ℕ
first_size [] = 0
first_size (size ∷ sizes) = size

-- the slots of the frame that is to be filled in next
abbrev pub next_of : Leased → ℕ
next_of lease = first_size lease.sizes

-- a frame is no longer than frames are, and takes as many slots as the next one is to
abbrev pub is_next : List ℕ → Leased → Bool
is_next bytes lease = nat_le (length bytes) most_frame_bytes && slots_of_length (length bytes) == next_of lease

-- the lease with one frame more
abbrev pub with_frame : List ℕ → Leased → Leased
with_frame bytes lease = record lease {
  filled = lease.filled ++ gots_with bytes lease.empty;
  sizes = drop 1 lease.sizes;
  empty = drop (slots_of_length (length bytes)) lease.empty;
}
