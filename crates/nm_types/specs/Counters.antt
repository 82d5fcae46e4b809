-- What ports count, in frames.
use Rattle.std.specs.Prelude.{◌+◌, ◌<◌, ◌^◌}
use Rattle.nm_types.specs.declared.id.Counts.{Counts}

abbrev pub zero_counts : Counts
zero_counts = record { sent = 0; short = 0; lone = 0; given = 0; full = 0; read = 0 }

-- field by field
abbrev pub sum_of_counts : Counts → Counts → Counts
sum_of_counts counts more = record {
  sent = counts.sent + more.sent;
  short = counts.short + more.short;
  lone = counts.lone + more.lone;
  given = counts.given + more.given;
  full = counts.full + more.full;
  read = counts.read + more.read;
}

-- no sum passes 2^64 - 1
pub record SumFits (counts more : Counts) : Type 0 where
  pub sent : counts.sent + more.sent < 2 ^ 64
  pub short : counts.short + more.short < 2 ^ 64
  pub lone : counts.lone + more.lone < 2 ^ 64
  pub given : counts.given + more.given < 2 ^ 64
  pub full : counts.full + more.full < 2 ^ 64
  pub read : counts.read + more.read < 2 ^ 64
