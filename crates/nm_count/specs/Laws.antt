-- What a tally answers after an opening, an addition and a removal.
use Rattle.std.specs.Prelude.{ℕ, ◌≡◌, ◌==◌, if◌then◌else◌, List, Some, None, option_map}
use Rattle.nm_types.specs.declared.id.Counts.{Counts}
use Rattle.nm_types.specs.declared.id.PortId.{PortId}
use Rattle.nm_count.specs.declared.tally.Tallied.{Tallied}
use Rattle.nm_types.specs.Counters.{zero_counts, sum_of_counts}
use Rattle.nm_count.specs.Tallies.{counts_of, tally_with, tally_after_add, tally_without}

-- an tally_with port has counted nothing, and no other port's counts change
abbrev pub OpeningStartsAtZero : Type 0
OpeningStartsAtZero = (tally : List Tallied) (port : PortId) (other : ℕ)
    → counts_of (tally_with port tally) other ≡ (if port.0 == other then Some zero_counts else counts_of tally other)

abbrev pub sum_if_port : ℕ → ℕ → Counts → Counts → Counts
sum_if_port port other more counts = if port == other then sum_of_counts counts more else counts

-- what is tally_after_add goes to the port's counts alone
abbrev pub AddingSums : Type 0
AddingSums = (tally : List Tallied) (port : ℕ) (more : Counts) (other : ℕ)
    → counts_of (tally_after_add port more tally) other ≡ option_map (sum_if_port port other more) (counts_of tally other)

-- a removed port has no counts, and no other port's counts change
abbrev pub GoneIsOut : Type 0
GoneIsOut = (tally : List Tallied) (port other : ℕ)
    → counts_of (tally_without port tally) other ≡ (if port == other then None else counts_of tally other)
