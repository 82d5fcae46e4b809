-- What a record uses and a refused call wants is together a number of 64 bits.
use Rattle.std.proofs.Common.{ℕ, ◌+◌, ◌<◌, ◌≤◌, ◌^◌, length, Option, Some, None, arith}
use Rattle.nm_types.specs.Limits.{most_entries, most_bytes}
use Rattle.nm_types.specs.declared.fault.Part.{Part}
use Rattle.nm_types.specs.declared.fault.Part.TheVariants.{Entries, Bytes}
use Rattle.nm_types.specs.declared.fault.StepFault.TheVariants.{RecordFull}
use Rattle.vale_entry.specs.declared.entry.Ask.{Ask}
use Rattle.vale_entry.specs.Legal.{Outcome, step}
use Rattle.vale_own.specs.Recorded.{Recorded, standing, IsWithinLimits, refused_by}
use Rattle.vale_own.proofs.Rooms.{within-had}
use Rattle.vale_book.specs.Fitting.{RefusalsFit}
use Rattle.vale_book.proofs.FittingWants.{Little, ports-few, step-little}

sum-by :
    (b : Recorded) (call : Ask) (made : Option Outcome) (what : Part) (used want ports : ℕ)
    → Little ports call made → ports ≤ length b.entries → IsWithinLimits b
    → b.limits.entries ≤ most_entries → b.limits.bytes ≤ most_bytes
    → refused_by b call (RecordFull what used want) made → used + want < 2 ^ 64
sum-by b call None what used want ports little few within entries bytes refused = absurd refused
sum-by b call (Some made) Entries used want ports little few within entries bytes refused =
    let room = little.room in
    let count = within.0 in
    let is = refused.0 in
    let wants = refused.1 in
    omega (arith, room, few, count, is, wants, entries)
sum-by b call (Some made) Bytes used want ports little few within entries bytes refused =
    let most = little.bytes in
    let count = within.1 in
    let is = refused.1 in
    let wants = refused.2 in
    omega (arith, most, count, is, wants, bytes)

pub refusals-fit : RefusalsFit
refusals-fit b call what used want legal had entries bytes refused =
    sum-by b call (step (standing b) call) what used want (length (standing b).world.ports)
    (step-little (standing b) call) (ports-few b.pool b.entries) (within-had b legal had) entries
    bytes refused
