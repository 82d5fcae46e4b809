-- Bytes at a place of a buffer.
use Rattle.std.specs.Prelude.{◌≡◌, ◌≤◌, ◌<◌, ◌^◌, ◌-◌, ℕ, ◌+◌, ◌/◌, ◌%◌, List, ◌∷◌, ◌++◌, length, take, decimal}

-- new has xs behind the first `at` bytes of old, up to `end`
pub record Placed (old new : List ℕ) (at : ℕ) (xs : List ℕ) (end : ℕ) : Type 0 where
  pub bytes : take end new ≡ take at old ++ xs
  pub moved : end ≡ at + length xs
  pub len : length new ≡ length old

-- and xs has at most so many bytes
pub record PlacedFew (old new : List ℕ) (at : ℕ) (xs : List ℕ) (end most : ℕ) : Type 0 where
  pub placed : Placed old new at xs end
  pub within : end ≤ at + most

-- the least of the numbers that have the same digits but for the last two, a comma and these digits, with more bytes,
-- and how long each of those numbers is behind a comma
pub record AreHundreds (from : ℕ) (text : List ℕ) (size : ℕ) : Type 0 where
  pub some : 100 ≤ from
  pub fits : from < 2 ^ 32
  pub whole : from % 100 ≡ 0
  pub spelled : take (size - 2) text ≡ 44 ∷ decimal (from / 100)
  pub long : size ≡ 3 + length (decimal (from / 100))
  pub short : size ≤ 18
  pub len : length text ≡ 16
