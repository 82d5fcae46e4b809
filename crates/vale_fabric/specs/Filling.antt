-- The frames with which leases are filled, and a lease that is filled frame by frame.
use Rattle.std.specs.Prelude.{ℕ, ◌≡◌, List, drop, map, take, slice_get, Some}
use Rattle.nm_types.specs.Sendable.{AreFrames}
use Rattle.vale_line.specs.Gots.{frames_in, IsCut}
use Rattle.vale_line.specs.Leased.{Leased, contents}
use Rattle.vale_port.specs.Kept.{bytes_of}
use Rattle.vale_book.specs.Leases.{KeepsBuffers}
pub use Rattle.vale_book.specs.Reading.{Begins}
use Rattle.vale_fabric.specs.declared.filling.Frames.{Frames}
use Rattle.vale_fabric.specs.declared.filling.Frames.TheVariants.{Batch, Gots}

abbrev pub bytes_from : Frames → List (List ℕ)
bytes_from (Batch batch) = bytes_of batch.now
bytes_from (Gots gots) = frames_in gots.now

-- frames of a batch are no longer than frames are, and received ones are cut as frames are
abbrev pub AreFitting : Frames → Type 0
AreFitting (Batch batch) = AreFrames batch.now
AreFitting (Gots gots) = IsCut gots.now

-- the frames at the first of these places are filled in, each in the next of the buffers
pub record IsFilling (start : Leased) (frames : List (List ℕ)) (places : List ℕ) (count : ℕ) (lease : Leased) : Type 0 where
  pub id : lease.id ≡ start.id
  pub to : lease.to ≡ start.to
  pub contents_are : map Some (contents lease) ≡ map (slice_get frames) (take count places)
  pub sizes : lease.sizes ≡ drop count start.sizes
  pub buffers : KeepsBuffers start lease
