-- Numbers by index, of which a stretch lies in memory; all before it and behind it are 0.
use Rattle.std.specs.Prelude.{ℕ, ◌≡◌, ◌<◌, ◌≤◌, ◌+◌, ◌-◌, ◌^◌, ◌++◌, List, length, replicate}
use Rattle.std.specs.Vec.{vec_capacity}
use Rattle.nm_hold.specs.declared.number_table.NumberTable.TheInside.{Inside}

abbrev pub zeros : ℕ → List ℕ
zeros count = replicate count 0

-- so many numbers, of which these are those from the index `first` on
abbrev pub among_zeros : ℕ → ℕ → List ℕ → List ℕ
among_zeros first count numbers = zeros first ++ (numbers ++ zeros (count - (first + length numbers)))

pub record IsNumberTable (t : Inside) : Type 0 where
  pub within : t.first + length t.numbers.items ≤ t.count
  pub room : t.count ≤ vec_capacity t.numbers

-- the place of an index among numbers that begin at another, past each place for one before that
pub record IsPlace (first idx place : ℕ) : Type 0 where
  pub behind : first ≤ idx → place + first ≡ idx
  pub before : idx < first → 2 ^ 64 ≤ place + first

-- the number of an index lies in memory, and all numbers are what they were
pub record Reaches (idx first : ℕ) (old : List ℕ) (start : ℕ) (new : List ℕ) : Type 0 where
  pub begun : start ≤ idx
  pub there : idx < start + length new
  pub within : (count : ℕ) → idx < count → first + length old ≤ count → start + length new ≤ count
  pub same : (count : ℕ) → idx < count → first + length old ≤ count → among_zeros start count new ≡ among_zeros first count old
