-- How a migration ends.
use Rattle.std.proofs.Common.{ℕ, ◌+◌, ◌<◌, ◌≤◌, ◌≡◌, ◌⊎◌, inl, inr, List, length, string_bytes, Option, Some, None, refl, sym, subst}
use Rattle.nm_io.specs.Held.{grown, GrowsByPrefix}
use Rattle.vale_entry.specs.declared.entry.Entry.{Entry}
use Rattle.vale_captures.specs.Inputs.{HasContents}
use Rattle.vale_text.specs.Reading.{IsTextWith, IsTextOf, IsFirstBad}
use Rattle.vale_run.specs.Run.{Io, HasRisen, WritesNothing}
use Rattle.nm_types.specs.Limits.{most_text}
use Rattle.vale_run.specs.Migrate.{Migrated, TextEnds, EndsText, MigrateEnds}
use Rattle.vale_run.specs.Complete.{IsMigratable, Completes}
use Rattle.vale_run.specs.Writing.{NamesFile, NamesText, WroteText}
use Rattle.vale_run.specs.declared.status.What.TheVariants.{Script, Lines, Counts, Inputs, Frames, Entries, Bytes, Text}
use Rattle.vale_run.specs.declared.status.Status.{Status}
use Rattle.vale_run.specs.declared.status.Status.TheVariants.{Done, Usage, BadScript, ReadFault, WriteFault, BadPcap, Over, NoMemory, BadText}
use Rattle.vale_run.proofs.Completing.{one-content, not-longer}

-- the text was read and written
pub ends-wrote : (bytes name : List ℕ) (faults : ℕ × ℕ) (old new : Option (List ℕ)) (version pool : ℕ) (entries : List Entry) (free : ℕ) (status : Status)
    → IsTextWith 1 bytes version pool entries free → WroteText pool entries free faults old new status → TextEnds bytes name faults old new status
ends-wrote bytes name faults old new version pool entries free status is wrote = by_status status wrote
  where
    read : Migrated bytes
    read = record { version = version; pool = pool; entries = entries; free = free; is = is }

    by_status : (status : Status) → WroteText pool entries free faults old new status → TextEnds bytes name faults old new status
    by_status Done w = (read, w)
    by_status WriteFault w = (read, w)
    by_status NoMemory w = inr (read, w)
    by_status Usage w = absurd w
    by_status (BadScript line cause) w = absurd w
    by_status (ReadFault which) w = absurd w
    by_status (BadPcap which offset cause) w = absurd w
    by_status (Over what count limit) w = absurd w
    by_status (BadText which line) w = absurd w

-- it was not read
pub ends-blamed : (bytes name : List ℕ) (faults : ℕ × ℕ) (old new : Option (List ℕ)) (line : ℕ) (status : Status)
    → IsFirstBad 1 bytes line → new ≡ old → NamesText name line status → TextEnds bytes name faults old new status
ends-blamed bytes name faults old new line (BadText which at) bad nothing names =
    (names.0, (subst (IsFirstBad 1 bytes) (sym names.1) bad, nothing))
ends-blamed bytes name faults old new line NoMemory bad nothing names = inl nothing
ends-blamed bytes name faults old new line Done bad nothing names = absurd names
ends-blamed bytes name faults old new line Usage bad nothing names = absurd names
ends-blamed bytes name faults old new line WriteFault bad nothing names = absurd names
ends-blamed bytes name faults old new line (BadScript at cause) bad nothing names = absurd names
ends-blamed bytes name faults old new line (ReadFault which) bad nothing names = absurd names
ends-blamed bytes name faults old new line (BadPcap which offset cause) bad nothing names = absurd names
ends-blamed bytes name faults old new line (Over what count limit) bad nothing names = absurd names

-- a file was read, and its text
pub ends-text : (io : Io) (name text : List ℕ) (status : Status) → HasContents io.files name text → length text ≤ most_text
    → TextEnds text name io.writes io.holds io.new_holds status → io.new_files ≡ io.files → MigrateEnds io name status
ends-text io name text status told short ends shelf = by_status status ends
  where
    whole : (status : Status) → TextEnds text name io.writes io.holds io.new_holds status → EndsText io name status
    whole status ends = record { text = text; told = told; short = short; ends = ends; shelf = shelf }

    by_status : (status : Status) → TextEnds text name io.writes io.holds io.new_holds status → MigrateEnds io name status
    by_status NoMemory e = inr (whole NoMemory e)
    by_status Done e = whole Done e
    by_status WriteFault e = whole WriteFault e
    by_status (BadText which line) e = whole (BadText which line) e
    by_status Usage e = absurd e
    by_status (BadScript line cause) e = absurd e
    by_status (ReadFault which) e = absurd e
    by_status (BadPcap which offset cause) e = absurd e
    by_status (Over what count limit) e = absurd e

-- the file was not read
pub migrates-unread : (io : Io) (name : List ℕ) (status : Status) → HasRisen (io.reads name) → WritesNothing io → NamesFile name status → MigrateEnds io name status
migrates-unread io name (ReadFault which) rose nothing names = (names, (rose, nothing))
migrates-unread io name NoMemory rose nothing names = inl nothing
migrates-unread io name Done rose nothing names = absurd names
migrates-unread io name Usage rose nothing names = absurd names
migrates-unread io name WriteFault rose nothing names = absurd names
migrates-unread io name (BadScript line cause) rose nothing names = absurd names
migrates-unread io name (BadPcap which offset cause) rose nothing names = absurd names
migrates-unread io name (BadText which line) rose nothing names = absurd names
migrates-unread io name (Over what count limit) rose nothing names = absurd names

-- a text of either version is migrated, or memory was wanting
pub migrates : (io : Io) (name : List ℕ) (status : Status) → IsMigratable io name → MigrateEnds io name status → (status ≡ Done) ⊎ (status ≡ NoMemory)
migrates io name Done m e = inl refl
migrates io name NoMemory m e = inr refl
migrates io name WriteFault m e = absurd (m.faultless.writes e.ends.1.1)
migrates io name (ReadFault which) m e = absurd (m.faultless.reads name e.1.0)
migrates io name (BadText which line) m e =
    let same : e.text ≡ m.text = one-content io.files m.told name e.text m.text e.told m.has in
    absurd (e.ends.1.0.none m.entries (subst (λ (t : List ℕ). IsTextOf 1 t m.entries) (sym same) m.is))
migrates io name (Over Text count limit) m e = absurd (not-longer io.files m.told name m.text most_text m.has m.short e.1.1.0)
migrates io name Usage m e = absurd e.ends
migrates io name (BadScript line cause) m e = absurd e.ends
migrates io name (BadPcap which offset cause) m e = absurd e.ends
migrates io name (Over Script count limit) m e = absurd e.ends
migrates io name (Over Lines count limit) m e = absurd e.ends
migrates io name (Over Counts count limit) m e = absurd e.ends
migrates io name (Over Inputs count limit) m e = absurd e.ends
migrates io name (Over Frames count limit) m e = absurd e.ends
migrates io name (Over Entries count limit) m e = absurd e.ends
migrates io name (Over Bytes count limit) m e = absurd e.ends

-- the words name a text alone
pub named-migrates : (script : Option (List ℕ)) (load : Option ℕ) (text : Option (List ℕ)) (name : List ℕ) (io : Io) (status : Status)
    → script ≡ None → load ≡ None → text ≡ Some name → MigrateEnds io name status → Completes script load text io status
named-migrates script load text name io status no_script no_load named ends =
    subst (λ (s : Option (List ℕ)). Completes s load text io status) (sym no_script)
    (subst (λ (n : Option ℕ). Completes None n text io status) (sym no_load)
    (subst (λ (t : Option (List ℕ)). Completes None None t io status) (sym named) (λ m. migrates io name status m ends)))
