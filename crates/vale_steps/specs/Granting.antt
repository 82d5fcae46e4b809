-- What a grant records.
use Rattle.std.specs.Prelude.{ℕ, Option, Some, None}
use Rattle.nm_types.specs.declared.id.PortId.{PortId}
pub use Rattle.nm_types.specs.Ids.{lease_id}
use Rattle.nm_types.specs.declared.id.SessionId.{SessionId}
use Rattle.vale_line.specs.Leased.{Leased, count_of}
use Rattle.vale_entry.specs.declared.entry.Ask.TheVariants.{Grant}
use Rattle.vale_entry.specs.declared.entry.Reply.TheVariants.{Shared}
use Rattle.vale_entry.specs.declared.entry.Entry.{Entry}

-- as many frames as the lease is for
abbrev pub given_by : Option Leased → ℕ
given_by None = 0
given_by (Some lease) = count_of lease

abbrev pub grant_entry : SessionId → ℕ → PortId → ℕ → ℕ → ℕ → Entry
grant_entry session origin to given full gone = record { session = session; ask = Grant origin to; reply = Shared given full gone }
