-- Buffers that are taken out of a list by their indices.
use Rattle.std.specs.Prelude.{ℕ, Bool, ◌≡◌, ◌+◌, ◌==◌, ◌&&◌, List, length, count_by, slice_get, Some}
use Rattle.std.specs.List.{list_any, list_all, remove}
use Rattle.nm_region.specs.Buffers.{Buffer, indices_of}
use Rattle.vale_entry.specs.Holdings.{are_distinct}
use Rattle.vale_book.specs.BookView.{AreOf}

abbrev pub is_buffer : ℕ → Buffer → Bool
is_buffer index buf = buf.index == index

abbrev pub holds : List Buffer → ℕ → Bool
holds bufs index = list_any (is_buffer index) bufs

-- they are among the buffers, each named once
abbrev pub holds_all : List Buffer → List ℕ → Bool
holds_all bufs named = list_all (holds bufs) named && are_distinct named

-- the buffer of this index is taken from its place
pub record IsTaken (old : List Buffer) (index : ℕ) (buf : Buffer) (new : List Buffer) : Type 0 where
  pub place : ℕ
  pub here : slice_get old place ≡ Some buf
  pub index_is : buf.index ≡ index
  pub left : new ≡ remove old place

abbrev pub times : ℕ → List ℕ → ℕ
times n ns = count_by (λ m. m == n) ns

-- the buffers of these indices were taken out
pub record AreTaken (old : List Buffer) (named : List ℕ) (taken new : List Buffer) : Type 0 where
  pub named_is : indices_of taken ≡ named
  pub times_are : (n : ℕ) → times n (indices_of new) + times n named ≡ times n (indices_of old)
  pub fewer : length new + length named ≡ length old
  pub taken_of : (region : ℕ) → AreOf region old → AreOf region taken
  pub left_of : (region : ℕ) → AreOf region old → AreOf region new
