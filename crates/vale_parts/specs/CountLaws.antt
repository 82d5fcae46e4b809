-- Laws of what the ports have counted.
use Rattle.std.specs.Prelude.{ℕ, ◌≡◌, ◌+◌, ◌<◌, ◌≤◌, ◌^◌, List, [], ◌∷◌, ◌++◌, length, Some, None, IsSome}
use Rattle.std.specs.List.{AllByRecursion}
use Rattle.nm_types.specs.declared.id.Counts.{Counts}
use Rattle.nm_types.specs.Counters.{zero_counts, SumFits}
use Rattle.nm_types.specs.Limits.{most_pool}
use Rattle.nm_count.specs.declared.tally.Tallied.{Tallied}
use Rattle.nm_count.specs.Tallies.{counts_of, tally_after_add}
use Rattle.vale_entry.specs.declared.entry.Entry.{Entry}
use Rattle.vale_entry.specs.World.{World, Port, PortCounts, open_port}
use Rattle.vale_entry.specs.Closing.{shutting_port}
use Rattle.vale_entry.specs.Counters.{counted_in}
use Rattle.vale_entry.specs.Counters.{counts_of as world_counts}
use Rattle.vale_entry.specs.Legal.{standing_of, world_of, IsLegal, Follows}
use Rattle.vale_parts.specs.WorldCounts.{CountsAre, tally_after}
use Rattle.vale_parts.specs.Adding.{AddsFit}

abbrev pub CountsFollow : Type 0
CountsFollow = (pool : ℕ) (history : List Entry) (entry : Entry) (tally : List Tallied) → IsLegal pool history → Follows (standing_of pool history) entry
    → CountsAre (world_of pool history) tally → CountsAre (world_of pool (history ++ entry ∷ [])) (tally_after (world_of pool history) entry.ask entry.reply tally)

-- an open port's counters are those that a Stat tells
abbrev pub OpenPortsAreCounted : Type 0
OpenPortsAreCounted = (pool : ℕ) (history : List Entry) (tally : List Tallied) (id : ℕ) (port : Port) → IsLegal pool history → CountsAre (world_of pool history) tally
    → open_port (world_of pool history).ports id ≡ Some port → counts_of tally id ≡ Some (world_counts (world_of pool history).counts id)

-- a shutting port has counters, which go with it
abbrev pub ShuttingPortsAreCounted : Type 0
ShuttingPortsAreCounted = (pool : ℕ) (history : List Entry) (tally : List Tallied) (id : ℕ) (port : Port) → IsLegal pool history → CountsAre (world_of pool history) tally
    → shutting_port (world_of pool history).ports id ≡ Some port → IsSome (counts_of tally id)

-- a port that is opened next has none yet
abbrev pub NextPortsAreNot : Type 0
NextPortsAreNot = (pool : ℕ) (history : List Entry) (tally : List Tallied) → IsLegal pool history → CountsAre (world_of pool history) tally
    → counts_of tally ((world_of pool history).entry_count + 1) ≡ None

abbrev pub AsManyAreCounted : Type 0
AsManyAreCounted = (pool : ℕ) (history : List Entry) (tally : List Tallied) → IsLegal pool history → CountsAre (world_of pool history) tally
    → length tally ≡ length (world_of pool history).ports

-- what counts nothing need not be added, nor what counts at a port that is not there
abbrev pub NothingIsAdded : Type 0
NothingIsAdded = (tally : List Tallied) (port : ℕ) → tally_after_add port zero_counts tally ≡ tally

abbrev pub NowhereIsAdded : Type 0
NowhereIsAdded = (tally : List Tallied) (port : ℕ) (more : Counts) → counts_of tally port ≡ None → tally_after_add port more tally ≡ tally

abbrev pub FitsAt : World → Entry → PortCounts → Type 0
FitsAt w entry counted = SumFits counted.counts (counted_in counted.port w entry)

-- with fewer than 2^32 entries no sum passes 2^64 - 1
abbrev pub SumsFit : Type 0
SumsFit = (pool : ℕ) (history : List Entry) (entry : Entry) → pool ≤ most_pool → IsLegal pool history → Follows (standing_of pool history) entry → length history < 2 ^ 32
    → AllByRecursion (FitsAt (world_of pool history) entry) (world_of pool history).counts

-- so each addition to the tally may be made
abbrev pub AdditionsFit : Type 0
AdditionsFit = (pool : ℕ) (history : List Entry) (entry : Entry) (tally : List Tallied) → pool ≤ most_pool → IsLegal pool history → Follows (standing_of pool history) entry
    → length history < 2 ^ 32 → CountsAre (world_of pool history) tally → AddsFit (world_of pool history) entry.ask entry.reply tally
