-- A lease that is filled frame by frame.
use Rattle.std.specs.Prelude.{ℕ, ◌≡◌, List, drop, map, take, slice_get, Some}
use Rattle.vale_line.specs.Leased.{Leased, contents}
use Rattle.vale_book.specs.Leases.{KeepsBuffers}

-- the frames at the first of these places are filled in, each in the next of the buffers
pub record IsFilling (start : Leased) (frames : List (List ℕ)) (places : List ℕ) (count : ℕ) (lease : Leased) : Type 0 where
  pub id : lease.id ≡ start.id
  pub to : lease.to ≡ start.to
  pub contents_are : map Some (contents lease) ≡ map (slice_get frames) (take count places)
  pub sizes : lease.sizes ≡ drop count start.sizes
  pub buffers : KeepsBuffers start lease
