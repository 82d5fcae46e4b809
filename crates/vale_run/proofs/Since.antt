-- How a run ends since an earlier call: the files were the same then, and no count of faults was greater.
use Rattle.std.proofs.Common.{ℕ, ◌-◌, Bool, true, false, ◌≡◌, ◌≤◌, ◌⊎◌, inl, inr, List, string_bytes, Option, subst}
use Rattle.nm_io.specs.Files.{Files}
use Rattle.nm_io.specs.declared.shelf.Shelf as shelves
use Rattle.nm_io.specs.declared.sink.Sink as sinks
use Rattle.nm_types.specs.Limits.{most_capture_bytes}
use Rattle.nm_types.specs.declared.limits.Limits.{Limits}
use Rattle.vale_captures.specs.declared.inputs.InputFault.{InputFault}
use Rattle.vale_captures.specs.declared.inputs.InputFault.TheVariants as inputs
use Rattle.vale_captures.specs.Inputs.{StopsAtFile}
use Rattle.vale_captures.specs.Outputs.{OutputFile, StopsAtOutput}
use Rattle.vale_captures.proofs.Pages.{rose-since}
use Rattle.vale_captures.proofs.Reading.{blames-since}
use Rattle.vale_run.specs.Run.{Io, io_of, HasRisen, WritesNothing, StopsAtInput, WritesPart, Ends, text_in, saved_in}
use Rattle.vale_run.specs.declared.status.What.TheVariants.{Script, Lines, Counts, Inputs, Frames, Entries, Bytes, Text}
use Rattle.vale_run.specs.declared.status.Status.{Status}
use Rattle.vale_run.specs.declared.status.Status.TheVariants.{Done, Usage, BadScript, ReadFault, WriteFault, BadPcap, Over, NoMemory, BadText}

module _ (io : Io) (first_reads first_appends : List ℕ → ℕ)
    (reads_later : (other : List ℕ) → first_reads other ≤ (io.reads other).0)
    (appends_later : (other : List ℕ) → first_appends other ≤ (io.appends other).0) where
  -- the same, seen from an earlier call on
  abbrev first : Io
  first = record io {
    reads = λ name. (first_reads name, (io.reads name).1);
    appends = λ name. (first_appends name, (io.appends name).1);
  }

  nothing-since : WritesNothing io → WritesNothing first
  nothing-since w = record { sink = w.sink; shelf = w.shelf }

  stops-since : (names : List (List ℕ)) (at : ℕ) (fault : InputFault)
      (s : StopsAtFile io.files names most_capture_bytes io.reads at fault)
      → StopsAtFile io.files names most_capture_bytes first.reads at fault
  stops-since names at fault s = record {
    before = s.before;
    used = s.used;
    blames = blames-since io.files s.name (most_capture_bytes - s.used) (first_reads s.name)
        (io.reads s.name).0 (io.reads s.name).1 fault (reads_later s.name) s.blames;
    read = s.read;
    within = s.within;
    name = s.name;
    there = s.there;
  }

  input-since : (name : List ℕ) (fault : InputFault) (which : List ℕ)
      → StopsAtInput io.files io.reads name fault which
      → StopsAtInput io.files first.reads name fault which
  unfolding stops-since
  input-since name fault which s = record {
    program = s.program;
    counted = s.counted;
    at = s.at;
    stops = stops-since s.program.files s.at fault s.stops;
    name_is = s.name_is;
  }

  output-since : (saved : List OutputFile) (failed : Bool)
      → StopsAtOutput io.files io.new_files saved io.appends failed
      → StopsAtOutput io.files io.new_files saved first.appends failed
  output-since saved failed s = record {
    at = s.at;
    output = s.output;
    there = s.there;
    part = s.part;
    rose = λ is. rose-since (first_appends s.output.file) (io.appends s.output.file).0
        (io.appends s.output.file).1 (appends_later s.output.file) (s.rose is);
  }

  part-since : (text : List ℕ) (saved : List OutputFile) (failed : Bool)
      → WritesPart text saved io failed → WritesPart text saved first failed
  part-since text saved failed (inl w) = inl
      (record { sink = w.sink; shelf = w.shelf; rose = w.rose })
  part-since text saved failed (inr w) = inr
      (record { sink = w.sink; shelf = output-since saved failed w.shelf })

  read-since : (name : List ℕ) (which : List ℕ)
      → ((which ≡ name) × HasRisen (io.reads name)) ⊎ StopsAtInput io.files io.reads name
      inputs.Failed which
      → ((which ≡ name) × HasRisen (first.reads name)) ⊎ StopsAtInput io.files first.reads name
      inputs.Failed which
  read-since name which (inl one) = inl (
    one.0,
    rose-since (first_reads name) (io.reads name).0 (io.reads name).1 (reads_later name) one.1,
  )
  read-since name which (inr s) = inr (input-since name inputs.Failed which s)

  memory-since : (limits : Limits) (name : List ℕ) → Ends limits io name NoMemory
      → Ends limits first name NoMemory
  memory-since limits name (inl w) = inl (nothing-since w)
  memory-since limits name (inr w) = inr (w.0, part-since (text_in w.0) (saved_in w.0) false w.1)

  pub ends-first : (limits : Limits) (name : List ℕ) (status : Status)
      → Ends limits io name status → Ends limits first name status
  ends-first limits name Usage e = absurd e
  ends-first limits name (BadText which line) e = absurd e
  ends-first limits name (Over Text count limit) e = absurd e
  ends-first limits name (ReadFault which) e =
      (read-since name (string_bytes which) e.0, nothing-since e.1)
  ends-first limits name (Over Script count limit) e =
      (e.0, (e.1.0, (e.1.1.0, nothing-since e.1.1.1)))
  ends-first limits name (Over Lines count limit) e =
      (e.0, (e.1.0, (e.1.1.0, (e.1.1.1.0, (e.1.1.1.1.0, nothing-since e.1.1.1.1.1)))))
  ends-first limits name (BadScript line cause) e =
      (e.0, (e.1.0, (e.1.1.0, (e.1.1.1.0, nothing-since e.1.1.1.1))))
  ends-first limits name (Over Counts count limit) e =
      (e.0, (e.1.0, (e.1.1.0, (e.1.1.1.0, (e.1.1.1.1.0, nothing-since e.1.1.1.1.1)))))
  ends-first limits name (Over Inputs count limit) e = (
    e.0,
    (
      input-since name inputs.TooLong e.0 e.1.0,
      (e.1.1.0, (e.1.1.1.0, nothing-since e.1.1.1.1)),
    ),
  )
  ends-first limits name (BadPcap which offset cause) e = (
    input-since name (inputs.BadPcap cause) (string_bytes which) e.0,
    (e.1.0, nothing-since e.1.1),
  )
  ends-first limits name (Over Frames count limit) e = (
    e.0,
    (
      e.1.0,
      (
        e.1.1.0,
        (
          e.1.1.1.0,
          (e.1.1.1.1.0, (e.1.1.1.1.1.0, nothing-since e.1.1.1.1.1.1)),
        ),
      ),
    ),
  )
  ends-first limits name (Over Entries count limit) e = (e.0, (e.1.0, nothing-since e.1.1))
  ends-first limits name (Over Bytes count limit) e = (e.0, (e.1.0, nothing-since e.1.1))
  ends-first limits name WriteFault e = (e.0, part-since (text_in e.0) (saved_in e.0) true e.1)
  ends-first limits name NoMemory e = memory-since limits name e
  ends-first limits name Done e = (e.0, record { sink = e.1.sink; shelf = e.1.shelf })

pub ends-since : {S K : Type 0} (s : shelves.Ghosts S) (k : sinks.Ghosts K) (old mid new : S)
    (out new_out : K) (limits : Limits) (name : List ℕ) (status : Status)
    → s.files mid ≡ s.files old
    → ((other : List ℕ) → s.read_faults old other ≤ s.read_faults mid other)
    → ((other : List ℕ) → s.append_faults old other ≤ s.append_faults mid other)
    → Ends limits (io_of s k mid new out new_out) name status
    → Ends limits (io_of s k old new out new_out) name status
ends-since s k old mid new out new_out limits name status same reads_later appends_later ends =
    subst (λ (files : Option Files).
    Ends limits (record (io_of s k old new out new_out) { files = files }) name status) same
    (ends-first (io_of s k mid new out new_out) (s.read_faults old) (s.append_faults old)
    reads_later appends_later limits name status ends)
