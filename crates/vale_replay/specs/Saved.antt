-- The frames that go into a saved file: those that the Syncs and Gets of its port gave, in order.
use Rattle.std.specs.Prelude.{ℕ, ◌+◌, List, [], ◌∷◌, flat_map, filter_map, find, map, bytes_eq, Option, Some, None, option_map}
use Rattle.nm_types.specs.Frames.{Frame}
use Rattle.vale_entry.specs.declared.entry.Entry.{Entry}
use Rattle.vale_entry.specs.World.{World}
use Rattle.vale_entry.specs.Delivered.{told, read_by}
use Rattle.vale_script.specs.declared.script.Act.{Act}
use Rattle.vale_script.specs.declared.script.Act.TheVariants as acts
use Rattle.vale_script.specs.declared.script.Unit.{Unit as ReadUnit}
use Rattle.vale_script.specs.declared.script.Unit.TheVariants as parts
use Rattle.vale_script.specs.Script.{Program}
use Rattle.vale_replay.specs.Machine.{Machine, Save}
use Rattle.vale_replay.specs.Replay.{act_of}

-- a record of a saved capture: the number of the entry in place of seconds, and the frame's place
-- in it in place of their fraction
pub record SavedFrame : Type 0 where
  pub seconds : ℕ
  pub fraction : ℕ
  pub bytes : List ℕ

abbrev pub saved_from : ℕ → ℕ → List Frame → List SavedFrame
saved_from number place [] = []
saved_from number place (frame ∷ frames) =
    record { seconds = number; fraction = place; bytes = frame.bytes } ∷ saved_from number (place + 1) frames

-- those of an entry that reads at the port
abbrev pub saved_in : ℕ → World → Entry → List SavedFrame
saved_in port w entry = saved_from (w.entry_count + 1) 0 (read_by port w entry.ask entry.reply)

abbrev pub saved_frames : ℕ → List Entry → ℕ → List SavedFrame
saved_frames pool history port = told (saved_in port) pool history

-- a file that is saved, with its records
pub record SavedFile : Type 0 where
  pub file : List ℕ
  pub frames : List SavedFrame

abbrev pub saved_file : ℕ → List Entry → Save → SavedFile
saved_file pool history save =
    record { file = save.file; frames = saved_frames pool history save.port.0 }

-- the files of a script's `save` lines, in their order
abbrev pub file_of_save : Act → Option (List ℕ)
file_of_save (acts.Save name file) = Some file
file_of_save _ = None

abbrev pub acts_of_unit : ReadUnit → List Act
acts_of_unit (parts.Single line) = line.act ∷ []
acts_of_unit (parts.Block lines) = map act_of lines

abbrev pub files_saved : Program → List (List ℕ)
files_saved program = filter_map file_of_save (flat_map acts_of_unit program.units)

abbrev pub saves_of : List Machine → List Save
saves_of users = flat_map (λ (user : Machine). user.saves) users

abbrev pub save_into : List Machine → List ℕ → Option Save
save_into users file = find (λ (save : Save). bytes_eq save.file file) (saves_of users)

-- The files that a script has saved once its history is at its end, with what the users' ports
-- gave; a line that saves a port whose opening was refused saves no file.
abbrev pub saved_files : Program → List Entry → List Machine → List SavedFile
saved_files program history users =
    filter_map (λ file. option_map (saved_file program.pool history) (save_into users file))
    (files_saved program)
