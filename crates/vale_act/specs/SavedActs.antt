-- The files that a script's acts save, by the notes of its users' ports.
use Rattle.std.specs.Prelude.{Some, None, flat_map, ℕ, ◌≡◌, ◌++◌, List, bytes_eq, find, filter_map, map, option_map, Option, Result, OnOk}
use Rattle.std.specs.List.{AllByRecursion}
use Rattle.nm_types.specs.declared.fault.NoMemory.{NoMemory}
use Rattle.vale_entry.specs.declared.entry.Entry.{Entry}
use Rattle.vale_script.specs.declared.script.Act.{Act}
use Rattle.vale_script.specs.declared.script.Act.TheVariants as acts
use Rattle.vale_script.specs.Script.{Program}
use Rattle.vale_captures.specs.Outputs.{OutputFile, IsWritable}
use Rattle.vale_replay.specs.Machine.{Save}
use Rattle.vale_replay.specs.Saved.{saved_file, file_of_save, acts_of_unit}
use Rattle.vale_player.specs.Kept.{KeptFrames, AreWhole}
use Rattle.vale_act.specs.declared.outputs.Notes.{Notes}
use Rattle.vale_act.specs.Outputs.{output_of}

-- the first note of a file
abbrev pub note_of : List Save → List ℕ → Option Save
note_of saves file = find (λ (save : Save). bytes_eq save.file file) saves

abbrev pub outputs_of_acts : ℕ → List Entry → List Save → List Act → List OutputFile
outputs_of_acts pool history saves acts =
    map output_of (filter_map (λ (file : List ℕ). option_map (saved_file pool history) (note_of saves file)) (filter_map file_of_save acts))

-- they stand behind others, wherever what is kept is all that the ports gave
abbrev pub OutputsAre : List Save → List KeptFrames → List Act → List OutputFile → List OutputFile → Type 0
OutputsAre saves kept acts before after =
    (pool : ℕ) (history : List Entry) → AreWhole pool history kept → after ≡ before ++ outputs_of_acts pool history saves acts

-- the files that these acts save were put behind others, unless memory was wanting: by these notes, and by
-- what was kept of the ports
pub record Adds (notes : Notes) (acts : List Act) (old new : List OutputFile) (done : Result (Unit {0}) NoMemory) : Type 0 where
  pub made : OnOk done (OutputsAre notes.saves.now notes.kept.now acts old new)
  pub writable : AllByRecursion IsWritable old → OnOk done (AllByRecursion IsWritable new)

-- the names of the ports whose frames a script saves
abbrev pub name_of_save : Act → Option (List ℕ)
name_of_save (acts.Save name file) = Some name
name_of_save _ = None

abbrev pub names_of_acts : List Act → List (List ℕ)
names_of_acts list = filter_map name_of_save list

abbrev pub names_saved : Program → List (List ℕ)
names_saved program = names_of_acts (flat_map acts_of_unit program.units)
