-- How many frames entries tell of, in sums.
use Rattle.std.specs.Prelude.{◌+◌}
use Rattle.nm_types.specs.Counters.{zero_counts, sum_of_counts}
use Rattle.vale_told.specs.declared.tally.Tally.{Tally}

abbrev pub zero_tally : Tally
zero_tally = record { counts = zero_counts; gone = 0; unread = 0 }

-- number by number
abbrev pub sum_of_tallies : Tally → Tally → Tally
sum_of_tallies tally more = record {
  counts = sum_of_counts tally.counts more.counts;
  gone = tally.gone + more.gone;
  unread = tally.unread + more.unread;
}
