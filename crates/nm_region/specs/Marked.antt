-- A buffer knows up to where it was written: all bytes behind that are zero. Before it is written for
-- the first time its memory holds no bytes, and all of them count as zero.
use Rattle.std.specs.Prelude.{ℕ, ◌≡◌, ◌+◌, ◌-◌, ◌*◌, ◌≤◌, Bool, true, false, List, [], ◌++◌, length, take, drop, replicate}
use denote.RawPtr.{Ptr, block_ptr, block_of}
use Rattle.nm_types.specs.Buffers.{cleared_but}
use Rattle.nm_region.specs.Buffers.{Buffer}
use Rattle.nm_region.specs.Parts.{lead}

-- bytes written over the first ones of others
abbrev pub written_front : List ℕ → List ℕ → List ℕ
written_front bytes old = bytes ++ drop (length bytes) old

abbrev pub with_front : List ℕ → Buffer → Buffer
with_front bytes buffer = record buffer { bytes = written_front bytes buffer.bytes }

abbrev pub cleared_between : ℕ → ℕ → List ℕ → List ℕ
cleared_between from to bytes = take from bytes ++ (replicate (to - from) 0 ++ drop to bytes)

pub record IsMarked (used : ℕ) (bytes : List ℕ) : Type 0 where
  pub size : length bytes ≡ 2048
  pub within : used ≤ 2048
  pub zero_behind : drop used bytes ≡ replicate (2048 - used) 0

-- all of the bytes are in memory, or none is
abbrev pub AreWritten : Bool → List ℕ → Type 0
AreWritten true items = length items ≡ 2048
AreWritten false items = items ≡ []

-- where the part of a buffer's index lies, in the block at whose start p lies too
abbrev pub place_of : ℕ → ℕ → Ptr
place_of region index = block_ptr region ((index - 2) * 2048 + lead)

-- a buffer as it lies in memory: `used` is its mark, and the bytes `items` are written from `at` on
pub record IsKept (used index : ℕ) (is_written : Bool) (items : List ℕ) (at : Ptr) : Type 0 where
  pub mark : IsMarked used (cleared_but items)
  pub whole : AreWritten is_written items
  pub untouched : is_written ≡ false → used ≡ 0
  pub place : at ≡ place_of (block_of at) index
