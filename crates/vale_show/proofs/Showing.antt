-- How a run ends.
use Rattle.std.proofs.Common.{ℕ, ◌≤◌, ◌≡◌, List, length, Option, Some, IfSome, sym, subst}
use Rattle.nm_io.specs.Counts.{Rose}
use Rattle.nm_io.specs.Files.{Files}
use Rattle.nm_types.specs.Limits.{most_text}
use Rattle.vale_entry.specs.declared.entry.Entry.{Entry}
use Rattle.vale_text.specs.Reading.{IsTextWith, IsFirstBad}
use Rattle.vale_show.specs.declared.views.View.{View}
use Rattle.vale_show.specs.declared.status.Status.{Status}
use Rattle.vale_show.specs.declared.status.Status.TheVariants.{Done, Usage, ReadFault, WriteFault, TooLong, NoMemory, BadText}
use Rattle.vale_show.specs.Show.{view_text, Transcript, WroteText, NamesFile, NamesText, EndsText, EndsFile, Ends}

-- the transcript was read and shown
pub ends-shown :
    (view : View) (bytes name : List ℕ) (faults : ℕ × ℕ) (old new : Option (List ℕ))
    (version pool : ℕ) (entries : List Entry) (free : ℕ) (status : Status)
    → IsTextWith 1 bytes version pool entries free
    → WroteText (view_text view version pool entries free) faults old new status
    → EndsText view bytes name faults old new status
ends-shown view bytes name faults old new version pool entries free status is wrote =
    by_status status wrote
  where
    read : Transcript bytes
    read = record { version = version; pool = pool; entries = entries; free = free; is = is }

    by_status : (status : Status)
        → WroteText (view_text view version pool entries free) faults old new status
        → EndsText view bytes name faults old new status
    by_status Done w = (read, w)
    by_status WriteFault w = (read, w)
    by_status NoMemory w = w
    by_status Usage w = absurd w
    by_status TooLong w = absurd w
    by_status (ReadFault which) w = absurd w
    by_status (BadText which line) w = absurd w

-- it was none
pub ends-blamed :
    (view : View) (bytes name : List ℕ) (faults : ℕ × ℕ) (old new : Option (List ℕ)) (line : ℕ)
    (status : Status) → IsFirstBad 1 bytes line → new ≡ old → NamesText name line status
    → EndsText view bytes name faults old new status
ends-blamed view bytes name faults old new line (BadText which at) bad nothing names =
    (names.0, (subst (IsFirstBad 1 bytes) (sym names.1) bad, nothing))
ends-blamed view bytes name faults old new line NoMemory bad nothing names = nothing
ends-blamed view bytes name faults old new line Done bad nothing names = absurd names
ends-blamed view bytes name faults old new line Usage bad nothing names = absurd names
ends-blamed view bytes name faults old new line WriteFault bad nothing names = absurd names
ends-blamed view bytes name faults old new line TooLong bad nothing names = absurd names
ends-blamed view bytes name faults old new line (ReadFault which) bad nothing names = absurd names

-- a file was read
pub ends-read :
    (view : View) (files : Option Files) (name bytes : List ℕ) (reads faults : ℕ × ℕ)
    (old new : Option (List ℕ)) (status : Status) → IfSome files (λ all. all name ≡ Some bytes)
    → length bytes ≤ most_text → EndsText view bytes name faults old new status
    → Ends view files name reads faults old new status
ends-read view files name bytes reads faults old new status told short ends = by_status status ends
  where
    whole : (status : Status) → EndsText view bytes name faults old new status
        → EndsFile view files name faults old new status
    whole status ends = record { bytes = bytes; told = told; short = short; ends = ends }

    by_status : (status : Status) → EndsText view bytes name faults old new status
        → Ends view files name reads faults old new status
    by_status NoMemory e = e
    by_status Done e = whole Done e
    by_status WriteFault e = whole WriteFault e
    by_status (BadText which line) e = whole (BadText which line) e
    by_status Usage e = absurd e
    by_status TooLong e = absurd e
    by_status (ReadFault which) e = absurd e

-- it was not read
pub ends-unread :
    (view : View) (files : Option Files) (name : List ℕ) (reads faults : ℕ × ℕ)
    (old new : Option (List ℕ)) (status : Status) → Rose reads.0 reads.1 → new ≡ old
    → NamesFile name status → Ends view files name reads faults old new status
ends-unread view files name reads faults old new (ReadFault which) rose nothing names =
    (names, (rose, nothing))
ends-unread view files name reads faults old new NoMemory rose nothing names = nothing
ends-unread view files name reads faults old new Done rose nothing names = absurd names
ends-unread view files name reads faults old new Usage rose nothing names = absurd names
ends-unread view files name reads faults old new WriteFault rose nothing names = absurd names
ends-unread view files name reads faults old new TooLong rose nothing names = absurd names
ends-unread view files name reads faults old new (BadText which line) rose nothing names =
    absurd names
