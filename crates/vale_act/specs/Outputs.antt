-- The files that a script saves, as captures that can be written.
use Rattle.std.specs.Prelude.{List, map}
use Rattle.vale_entry.specs.declared.entry.Entry.{Entry}
use Rattle.vale_script.specs.Script.{Program}
use Rattle.vale_captures.specs.Outputs.{OutputFile}
use Rattle.vale_replay.specs.Machine.{Machine}
use Rattle.vale_replay.specs.Saved.{SavedFile, saved_files}
use Rattle.vale_player.specs.Kept.{record_of}

abbrev pub output_of : SavedFile → OutputFile
output_of saved = record { file = saved.file; records = map record_of saved.frames }

-- once a script's history is at its end and has brought its users to these states
abbrev pub outputs_of : Program → List Entry → List Machine → List OutputFile
outputs_of program history users = map output_of (saved_files program history users)
