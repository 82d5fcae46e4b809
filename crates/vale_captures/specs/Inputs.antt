-- The captures that a script plays, as they are read.
use Rattle.std.specs.Prelude.{ℕ, ◌≡◌, ◌<◌, ◌≤◌, ◌+◌, ◌-◌, if◌then◌else◌, List, [], ◌∷◌, length, map, take, slice_get, bytes_eq, Option, Some, IfSome, IsSomeAnd}
use Rattle.nm_io.specs.Counts.{Rose}
use Rattle.nm_io.specs.Files.{Files}
use Rattle.pcap_io.specs.Capture.{IsCapture}
use Rattle.pcap_io.specs.Faults.{first_fault}
use Rattle.pcap_io.specs.declared.fault.PcapFault.{PcapFault}
use Rattle.pcap_io.specs.declared.record.Record.{Record}
use Rattle.vale_captures.specs.declared.inputs.InputFault.{InputFault}
use Rattle.vale_captures.specs.declared.inputs.InputFault.TheVariants.{Failed, TooLong, BadPcap, NoMemory}

-- a file by its name, with the captured bytes of each of its records
pub record InputFile : Type 0 where
  pub file : List ℕ
  pub frames : List (List ℕ)

abbrev pub captured : Record → List ℕ
captured r = r.bytes

abbrev pub name_of : InputFile → List ℕ
name_of input = input.file

abbrev pub frames_of : InputFile → List (List ℕ)
frames_of input = input.frames

-- the frames of the first file of this name, none where there is no such file
abbrev pub records_in : List InputFile → List ℕ → List (List ℕ)
records_in [] file = []
records_in (input ∷ inputs) file = if bytes_eq input.file file then input.frames else records_in inputs file

-- the shelf has these contents under the name, if it tells
abbrev pub HasContents : Option Files → List ℕ → List ℕ → Type 0
HasContents files name contents = IfSome files (λ all. all name ≡ Some contents)

-- what was read of a file of this name: a capture of so many bytes
pub record IsInput (files : Option Files) (name : List ℕ) (input : InputFile) (size : ℕ) : Type 0 where
  pub contents : List ℕ
  pub told : HasContents files name contents
  pub records : List Record
  pub capture : IsCapture contents records
  pub file : input.file ≡ name
  pub frames : input.frames ≡ map captured records
  pub sized : size ≡ length contents

-- and of files one after another, of so many bytes together
abbrev pub AreInputs : Option Files → List (List ℕ) → List InputFile → ℕ → Type 0
AreInputs files [] [] size = size ≡ 0
AreInputs files (name ∷ names) (input ∷ inputs) size =
    (first rest : ℕ) × (IsInput files name input first × (AreInputs files names inputs rest × (size ≡ first + rest)))
AreInputs files _ _ size = ⊥

-- a file that the shelf tells is no capture, and this is what is wrong with it first
pub record IsBadCapture (files : Option Files) (name : List ℕ) (left : ℕ) (fault : Option PcapFault) : Type 0 where
  pub contents : List ℕ
  pub told : HasContents files name contents
  pub short : length contents ≤ left
  pub first : first_fault contents ≡ fault

-- why a file was not read, of which so many bytes may be read; `before` and `now` are the shelf's
-- counts of its read faults
abbrev pub BlamesFile : Option Files → List ℕ → ℕ → ℕ → ℕ → InputFault → Type 0
BlamesFile files name left before now Failed = Rose before now
BlamesFile files name left before now TooLong = IfSome files (λ all. IsSomeAnd (all name) (λ contents. left < length contents))
BlamesFile files name left before now (BadPcap fault) = IsBadCapture files name left (Some fault)
BlamesFile files name left before now NoMemory = Unit {0}

-- the files before one were read, and that one was not
pub record StopsAtFile (files : Option Files) (names : List (List ℕ)) (limit : ℕ) (reads : List ℕ → ℕ × ℕ) (at : ℕ) (fault : InputFault) : Type 0 where
  pub before : List InputFile
  pub used : ℕ
  pub read : AreInputs files (take at names) before used
  pub within : used ≤ limit
  pub name : List ℕ
  pub there : slice_get names at ≡ Some name
  pub blames : BlamesFile files name (limit - used) (reads name).0 (reads name).1 fault

-- why not all files were read; `reads` are the shelf's counts of read faults, before and now
abbrev pub StopsReading : Option Files → List (List ℕ) → ℕ → (List ℕ → ℕ × ℕ) → ℕ × InputFault → Type 0
StopsReading files names limit reads (at, NoMemory) = Unit {0}
StopsReading files names limit reads (at, fault) = StopsAtFile files names limit reads at fault
