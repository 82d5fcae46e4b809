-- Which runs are done but for want of memory.
use Rattle.std.specs.Prelude.{ℕ, ◌≡◌, ◌≤◌, ◌⊎◌, List, length, Option, Some, None, IsSome}
use Rattle.vale_script.specs.Script.{Program}
use Rattle.vale_captures.specs.Inputs.{InputFile, HasContents}
use Rattle.vale_entry.specs.declared.entry.Entry.{Entry}
use Rattle.vale_text.specs.Reading.{IsTextOf}
use Rattle.vale_cost.specs.FewFrames.{IsLight}
use Rattle.vale_run.specs.Run.{Io, HasRisen, IsReady}
use Rattle.nm_types.specs.Limits.{most_text}
use Rattle.vale_run.specs.declared.status.Status.{Status}
use Rattle.vale_run.specs.declared.status.Status.TheVariants.{Done, NoMemory}

-- no count of faults rose
pub record CountsNoFault (io : Io) : Type 0 where
  pub reads : (file : List ℕ) → ¬ HasRisen (io.reads file)
  pub appends : (file : List ℕ) → ¬ HasRisen (io.appends file)
  pub writes : ¬ HasRisen io.writes

-- The shelf tells its files. Of this name it has a script that is accepted, and the captures that the script
-- plays; both are within the limits. The script puts and plays few frames, and writes no positions. No fault
-- is counted.
pub record NothingHinders (io : Io) (name : List ℕ) : Type 0 where
  pub told : IsSome io.files
  pub program : Program
  pub played : List InputFile
  pub ready : IsReady io.files name program played
  pub light : IsLight program played
  pub faultless : CountsNoFault io

-- The shelf tells its files. Of this name it has the text of a history within the limit, in version 1 or 2.
-- No fault is counted.
pub record IsMigratable (io : Io) (name : List ℕ) : Type 0 where
  pub told : IsSome io.files
  pub text : List ℕ
  pub has : HasContents io.files name text
  pub short : length text ≤ most_text
  pub entries : List Entry
  pub is : IsTextOf 1 text entries
  pub faultless : CountsNoFault io

-- a run that nothing hinders is done, or memory was wanting, and so is a migration
abbrev pub Completes : Option (List ℕ) → Option ℕ → Option (List ℕ) → Io → Status → Type 0
Completes (Some name) load text io status = NothingHinders io name → (status ≡ Done) ⊎ (status ≡ NoMemory)
Completes None (Some n) text io status = Unit {0}
Completes None None (Some name) io status = IsMigratable io name → (status ≡ Done) ⊎ (status ≡ NoMemory)
Completes None None None io status = Unit {0}
