-- What a record uses, and what a call that is refused wants beside it, as statements: so a sum of
-- the two fits 64 bits.
use Rattle.std.specs.Prelude.{ℕ, ◌+◌, ◌<◌, ◌≤◌, ◌^◌, take}
use Rattle.nm_types.specs.Limits.{most_bytes, most_entries}
use Rattle.nm_types.specs.declared.fault.Part.{Part}
use Rattle.nm_types.specs.declared.fault.StepFault.TheVariants.{RecordFull}
use Rattle.vale_entry.specs.declared.entry.Ask.{Ask}
use Rattle.vale_entry.specs.Legal.{IsLegal}
use Rattle.vale_own.specs.Recorded.{Recorded, HadRoom, IsRefusal, IsWithinLimits}

-- a record each of whose entries had room is within its limits
abbrev pub HadRoomIsWithin : Type 0
HadRoomIsWithin = (b : Recorded) → IsLegal b.pool b.entries → HadRoom b → IsWithinLimits b

-- the first entries of such a record had room too
abbrev pub PrefixHadRoom : Type 0
PrefixHadRoom =
    (b : Recorded) (count : ℕ) → HadRoom b → HadRoom (record b { entries = take count b.entries })

-- so the record was within its limits at each time
abbrev pub PrefixIsWithin : Type 0
PrefixIsWithin =
    (b : Recorded) (count : ℕ) → IsLegal b.pool b.entries → HadRoom b
    → IsWithinLimits (record b { entries = take count b.entries })

-- where no more entries and bytes are allowed than a record may have, what it uses and what a call that it
-- has no room for wants are together a number of 64 bits
abbrev pub RefusalsFit : Type 0
RefusalsFit =
    (b : Recorded) (call : Ask) (what : Part) (used want : ℕ) → IsLegal b.pool b.entries → HadRoom b
    → b.limits.entries ≤ most_entries → b.limits.bytes ≤ most_bytes
    → IsRefusal b call (RecordFull what used want) → used + want < 2 ^ 64
