-- How a run ends that did not read a file, and what is written behind its transcript.
use Rattle.std.proofs.Common.{ℕ, true, false, ◌≡◌, inl, inr, List, string_bytes, Option, refl, sym, subst}
use Rattle.std.proofs.lemmas.Option.{slice_get_within}
use Rattle.nm_io.specs.Files.{Files}
use Rattle.nm_io.specs.Held.{grown, GrowsByPrefix}
use Rattle.nm_types.specs.Limits.{most_capture_bytes}
use Rattle.nm_types.specs.declared.limits.Limits.{Limits}
use Rattle.pcap_io.specs.declared.fault.PcapFault.{PcapFault}
use Rattle.vale_script.specs.Script.{Program}
use Rattle.vale_captures.specs.declared.inputs.InputFault.{InputFault}
use Rattle.vale_captures.specs.declared.inputs.InputFault.TheVariants as inputs
use Rattle.vale_captures.specs.Inputs.{StopsAtFile, StopsReading}
use Rattle.vale_text.specs.declared.transcript.PutError.{PutError}
use Rattle.vale_text.specs.declared.transcript.PutError.TheVariants as puts
use Rattle.vale_text.specs.Written.{BlamesSink}
use Rattle.vale_captures.specs.Outputs.{OutputFile}
use Rattle.vale_run.specs.Run.{Io, HasRisen, WritesNothing, IsCounted, StopsAtInput, WritesPart, Ends}
use Rattle.vale_run.specs.Writing.{NamesFile, BlamesFile, NamesInput, BlamesInput, Saves, Written}
use Rattle.vale_run.specs.declared.status.Status.{Status}
use Rattle.vale_run.specs.declared.status.Status.TheVariants.{Done, Usage, BadScript, ReadFault, WriteFault, BadPcap, Over, NoMemory, BadText}

-- the script was not read
pub ends-unread : (limits : Limits) (io : Io) (name : List ℕ) (status : Status)
    → HasRisen (io.reads name) → WritesNothing io → NamesFile name status
    → Ends limits io name status
ends-unread limits io name (ReadFault which) rose nothing names = (inl (names, rose), nothing)
ends-unread limits io name NoMemory rose nothing names = inl nothing
ends-unread limits io name Done rose nothing names = absurd names
ends-unread limits io name Usage rose nothing names = absurd names
ends-unread limits io name (BadScript line cause) rose nothing names = absurd names
ends-unread limits io name WriteFault rose nothing names = absurd names
ends-unread limits io name (BadPcap which offset cause) rose nothing names = absurd names
ends-unread limits io name (Over what count limit) rose nothing names = absurd names
ends-unread limits io name (BadText which line) rose nothing names = absurd names

-- the place where the reading stopped is there
pub stops-there : (files : Option Files) (names : List (List ℕ)) (limit : ℕ)
    (reads : List ℕ → ℕ × ℕ) (at : ℕ) (fault : InputFault)
    → StopsReading files names limit reads (at, fault) → NamesInput fault at names
stops-there files names limit reads at inputs.Failed s = slice_get_within names at s.name s.there
stops-there files names limit reads at inputs.TooLong s = slice_get_within names at s.name s.there
stops-there files names limit reads at (inputs.BadPcap fault) s = slice_get_within names at s.name
    s.there
stops-there files names limit reads at inputs.NoMemory s = tt

module _ (limits : Limits) (io : Io) (name : List ℕ) (program : Program)
    (counted : IsCounted io.files name program) (nothing : WritesNothing io) where
  input-at : (at : ℕ) (fault : InputFault) (which : List ℕ)
      → (s : StopsAtFile io.files program.files most_capture_bytes io.reads at fault) → which ≡ s.name
      → StopsAtInput io.files io.reads name fault which
  input-at at fault which s same = record
      { program = program; counted = counted; at = at; stops = s; name_is = sym same }

  ends-failed : (at : ℕ) (status : Status)
      (s : StopsAtFile io.files program.files most_capture_bytes io.reads at inputs.Failed)
      → NamesFile s.name status → Ends limits io name status
  ends-failed at (ReadFault which) s names =
      (inr (input-at at inputs.Failed (string_bytes which) s names), nothing)
  ends-failed at NoMemory s names = inl nothing
  ends-failed at Done s names = absurd names
  ends-failed at Usage s names = absurd names
  ends-failed at (BadScript line cause) s names = absurd names
  ends-failed at WriteFault s names = absurd names
  ends-failed at (BadPcap which offset cause) s names = absurd names
  ends-failed at (Over what count limit) s names = absurd names
  ends-failed at (BadText which line) s names = absurd names

  ends-blamed : (at : ℕ) (fault : PcapFault) (status : Status)
      (s : StopsAtFile io.files program.files most_capture_bytes io.reads at (inputs.BadPcap fault))
      → BlamesFile s.name fault status → Ends limits io name status
  ends-blamed at fault (BadPcap which offset cause) s names = (
    subst (λ (f : PcapFault). StopsAtInput io.files io.reads name (inputs.BadPcap f)
        (string_bytes which)) (sym names.1.1)
        (input-at at (inputs.BadPcap fault) (string_bytes which) s names.0),
    (names.1.0, nothing),
  )
  ends-blamed at fault NoMemory s names = inl nothing
  ends-blamed at fault Done s names = absurd names
  ends-blamed at fault Usage s names = absurd names
  ends-blamed at fault (BadScript line cause) s names = absurd names
  ends-blamed at fault WriteFault s names = absurd names
  ends-blamed at fault (ReadFault which) s names = absurd names
  ends-blamed at fault (Over what count limit) s names = absurd names
  ends-blamed at fault (BadText which line) s names = absurd names

  pub ends-input : (at : ℕ) (fault : InputFault) (status : Status)
      → StopsReading io.files program.files most_capture_bytes io.reads (at, fault)
      → BlamesInput program.files at fault status → Ends limits io name status
  ends-input at inputs.Failed status s blames = ends-failed at status s (blames s.name s.there)
  ends-input at inputs.TooLong status s blames = subst (Ends limits io name) (sym blames)
      (s.name, (input-at at inputs.TooLong s.name s refl, (refl, (refl, nothing))))
  ends-input at (inputs.BadPcap fault) status s blames = ends-blamed at fault status s
      (blames s.name s.there)
  ends-input at inputs.NoMemory status s blames = subst (Ends limits io name) (sym blames)
      (inl nothing)

-- the transcript was written, and then the captures
pub written-saved : (text : List ℕ) (io : Io) (saved : List OutputFile) (status : Status)
    → io.new_holds ≡ grown io.holds text → Saves io.files io.new_files saved io.appends status
    → Written text saved io status
written-saved text io saved Done sink saves = record { sink = sink; shelf = saves }
written-saved text io saved WriteFault sink saves = inr (record { sink = sink; shelf = saves })
written-saved text io saved NoMemory sink saves = inr (record { sink = sink; shelf = saves })
written-saved text io saved Usage sink saves = absurd saves
written-saved text io saved (BadScript line cause) sink saves = absurd saves
written-saved text io saved (ReadFault which) sink saves = absurd saves
written-saved text io saved (BadPcap which offset cause) sink saves = absurd saves
written-saved text io saved (Over what count limit) sink saves = absurd saves
written-saved text io saved (BadText which line) sink saves = absurd saves

-- it was not written whole
pub text-failed : (text : List ℕ) (io : Io) (saved : List OutputFile) (error : PutError)
    → error ≡ puts.Failed → GrowsByPrefix io.holds io.new_holds text → io.new_files ≡ io.files
    → BlamesSink io.writes.0 io.writes.1 error → WritesPart text saved io true
text-failed text io saved error is sink shelf blames = inl
    (record {
      sink = sink;
      shelf = shelf;
      rose = λ _. subst (BlamesSink io.writes.0 io.writes.1) is
          blames;
    })

pub text-cut : (text : List ℕ) (io : Io) (saved : List OutputFile)
    → GrowsByPrefix io.holds io.new_holds text → io.new_files ≡ io.files
    → WritesPart text saved io false
text-cut text io saved sink shelf = inl (record
    { sink = sink; shelf = shelf; rose = λ is. absurd cc })
