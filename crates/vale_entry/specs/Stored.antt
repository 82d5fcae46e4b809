-- A record of entries within limits: how many entries and bytes of frames it may hold, the entries
-- promised to come, and those for which memory is kept.
use Rattle.std.specs.Prelude.{ℕ, ◌≡◌, ◌+◌, ◌<◌, ◌≤◌, List, length}
use Rattle.nm_types.specs.declared.limits.Limits.{Limits}
use Rattle.nm_types.specs.declared.fault.StepFault.{StepFault}
use Rattle.nm_types.specs.declared.fault.StepFault.TheVariants.{RecordFull, NoMemory}
use Rattle.nm_types.specs.declared.fault.Part.TheVariants.{Entries, Bytes}
use Rattle.vale_entry.specs.declared.entry.Entry.{Entry}
use Rattle.vale_entry.specs.Room.{frame_bytes}

pub record Stored : Type 0 where
  pub entries : List Entry
  pub limits : Limits
  pub promised : ℕ
  pub spare : ℕ

abbrev pub entries_of : Stored → ℕ
entries_of stored = length stored.entries + stored.promised

-- there is room for so many entries more and so many bytes
abbrev pub Fits : Stored → ℕ → ℕ → Type 0
Fits stored entries bytes =
    (entries_of stored + entries ≤ stored.limits.entries)
    × (frame_bytes stored.entries + bytes ≤ stored.limits.bytes)

-- the refusal names the part whose limit is passed, what is used of it and what is wanted; entries
-- are tested before bytes, and want of memory needs no reason
abbrev pub IsFull : Stored → ℕ → ℕ → StepFault → Type 0
IsFull stored entries bytes (RecordFull Entries used want) =
    (used ≡ entries_of stored) × (want ≡ entries) × (stored.limits.entries < used + want)
IsFull stored entries bytes (RecordFull Bytes used want) =
    (entries_of stored + entries ≤ stored.limits.entries) × (used ≡ frame_bytes stored.entries)
    × (want ≡ bytes) × (stored.limits.bytes < used + want)
IsFull stored entries bytes NoMemory = Unit {0}
