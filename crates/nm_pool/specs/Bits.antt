-- The words of a pool: the bit at k is set where the place at k has a buffer.
use Rattle.std.specs.Prelude.{ℕ, ◌≡◌, ◌/◌, ◌%◌, List, length, get_or, Option, Some, None}
use Rattle.std.specs.Int.{bit_at}
use Rattle.nm_region.specs.Buffers.{Buffer}

abbrev pub bit_of : List ℕ → ℕ → ℕ
bit_of words k = bit_at (get_or words (k / 64) 0) (k % 64)

abbrev pub mark : Option Buffer → ℕ
mark None = 0
mark (Some b) = 1

-- each bit says whether its place has a buffer, and no bit is set behind the places
abbrev pub AreBits : List ℕ → List (Option Buffer) → Type 0
AreBits words places = (k : ℕ) → bit_of words k ≡ mark (get_or places k None)
