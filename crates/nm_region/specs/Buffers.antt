-- A buffer as contracts see it.
use Rattle.std.specs.Prelude.{ℕ, List, ◌++◌, length, take, drop, map, IsPermutation}
use Rattle.std.specs.List.{range_with_len}
use Rattle.nm_types.specs.Buffers.{cleared}
use denote.RawPtr.{Ptr, block_of}

pub record Buffer : Type 0 where
  pub region : ℕ
  pub index : ℕ
  pub bytes : List ℕ

-- the number of a region: that of the block of memory that it owns, which no other region has
abbrev pub region_of : Ptr → ℕ
region_of block = block_of block

-- the bytes `old` once `bytes`, which are as many, have been written over them
abbrev pub written_over : List ℕ → List ℕ → List ℕ
written_over old bytes = take (length old) (bytes ++ drop (length bytes) old)

abbrev pub with_bytes : Buffer → List ℕ → Buffer
with_bytes buffer bytes = record buffer { bytes = written_over buffer.bytes bytes }

-- a region as contracts see it: its number, which its buffers know, and how many they are
pub record RegionState : Type 0 where
  pub region : ℕ
  pub buffers : ℕ

-- a buffer as it comes from its region
abbrev pub opened_buffer : RegionState → ℕ → Buffer
opened_buffer r index = record { region = r.region; index = index; bytes = cleared }

abbrev pub opened_buffers : RegionState → List Buffer
opened_buffers r = map (opened_buffer r) (range_with_len 2 r.buffers)

-- by which region and index buffers are told apart
abbrev pub name_of : Buffer → ℕ × ℕ
name_of b = (b.region, b.index)

abbrev pub names_of : List Buffer → List (ℕ × ℕ)
names_of bufs = map name_of bufs

-- the names of a region's buffers, by rising index
abbrev pub region_names : RegionState → List (ℕ × ℕ)
region_names r = map (λ (index : ℕ). (r.region, index)) (range_with_len 2 r.buffers)

-- all buffers of a region, each once, in any order and with any bytes
abbrev pub AreAllOf : RegionState → List Buffer → Type 0
AreAllOf r bufs = IsPermutation (region_names r) (names_of bufs)

abbrev pub indices_of : List Buffer → List ℕ
indices_of bufs = map (λ (b : Buffer). b.index) bufs
