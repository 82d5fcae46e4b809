-- Ethernet addresses: those of a frame, and the bucket of a learning table in which one is kept, the
-- xor of its three 16-bit words, modulo 1024.
use Rattle.std.specs.Prelude.{ℕ, Bool, not, ◌&&◌, ◌==◌, ◌+◌, ◌*◌, ◌%◌, nat_lt, List, length, take, drop, slice_index, bit_xor}
use Rattle.nm_types.specs.Frames.{Frame}
use Rattle.nm_types.specs.Limits.{buckets}

-- the frame is too short to have addresses and a type
abbrev pub is_short : Frame → Bool
is_short frame = nat_lt (length frame.bytes) 14

abbrev pub destination_address : Frame → List ℕ
destination_address frame = take 6 frame.bytes

abbrev pub source_address : Frame → List ℕ
source_address frame = take 6 (drop 6 frame.bytes)

-- the lowest bit of the first byte tells a group address
abbrev pub is_group : List ℕ → Bool
is_group address = slice_index address 0 % 2 == 1

abbrev pub is_learnable : Frame → Bool
is_learnable frame =
    not (is_short frame) && (not (is_group (source_address frame)) && not frame.no_learn)

abbrev pub word_at : List ℕ → ℕ → ℕ
word_at address i = 256 * slice_index address i + slice_index address (i + 1)

abbrev pub bucket_of : List ℕ → ℕ
bucket_of address = bit_xor (bit_xor (word_at address 0) (word_at address 2)) (word_at address 4) % buckets
