-- Scripts that put and play few frames: their tasks are few for the limits, whatever else their lines do.
use Rattle.std.specs.Prelude.{ℕ, ◌≡◌, ◌+◌, ◌*◌, ◌≤◌, ◌⊎◌, List, length, map, filter, flat_map, sum_by, Ok}
use Rattle.std.specs.List.{AllByRecursion}
use Rattle.std.specs.Str.Lines.{lines}
use Rattle.nm_types.specs.Limits.{most_entries, most_bytes, most_script_lines}
use Rattle.nm_types.specs.declared.limits.Limits.{Limits}
use Rattle.vale_script.specs.declared.script.Act.{Act}
use Rattle.vale_script.specs.declared.script.Act.TheVariants as acts
use Rattle.vale_script.specs.Grammar.{script_of}
use Rattle.vale_script.specs.Script.{Program}
use Rattle.vale_captures.specs.Counting.{counts_of, frames_played}
use Rattle.vale_captures.specs.Inputs.{InputFile, name_of, frames_of, records_in}
use Rattle.vale_replay.specs.Saved.{acts_of_unit}
use Rattle.vale_replay.specs.Tasks.{fits_to_play}
use Rattle.vale_cost.specs.Completeness.{IsPlainAct, TasksFit, opens_by}

-- so many frames that are put or played fit a record, with all else that the lines of a script do
abbrev pub most_light_frames : ℕ
most_light_frames = 20000

-- or so many, where so few ports are opened on each switch
abbrev pub most_narrow_frames : ℕ
most_narrow_frames = 200000

abbrev pub most_narrow_ports : ℕ
most_narrow_ports = 16

-- and so many bytes of them
abbrev pub most_light_bytes : ℕ
most_light_bytes = 409600000

-- The frames of `hex` lines are not counted, nor are their bytes, since there are no more of them than lines.
abbrev pub frames_put_in : Program → List InputFile → ℕ
frames_put_in program played = counts_of program + frames_played program played

-- the bytes of the frames that a line puts; a record that is too long to be put has none
abbrev pub bytes_by : List InputFile → Act → ℕ
bytes_by played (acts.Put name count to from len fill) = count * len
bytes_by played (acts.Play name file batch) = sum_by length (filter (fits_to_play name) (records_in played file))
bytes_by played _ = 0

abbrev pub bytes_put_in : Program → List InputFile → ℕ
bytes_put_in program played = sum_by (bytes_by played) (flat_map acts_of_unit program.units)

abbrev pub opens_of : List ℕ → Program → ℕ
opens_of switch program = sum_by (opens_by switch) (flat_map acts_of_unit program.units)

-- The lines of a script and the captures that it plays have few frames of few bytes, and no line forwards
-- frames or moves a position.
pub record IsLight (program : Program) (played : List InputFile) : Type 0 where
  pub few :
      (frames_put_in program played ≤ most_light_frames)
      ⊎ ((frames_put_in program played ≤ most_narrow_frames) × ((switch : List ℕ) → opens_of switch program ≤ most_narrow_ports))
  pub short : bytes_put_in program played ≤ most_light_bytes
  pub plain : AllByRecursion IsPlainAct (flat_map acts_of_unit program.units)

-- the tasks of a light script of few lines are few for the limits of version 2
abbrev pub LightScriptsFit : Type 0
LightScriptsFit =
    (script : List ℕ) (program : Program) (played : List InputFile) (limits : Limits)
    → script_of script ≡ Ok program → length (lines script) ≤ most_script_lines
    → map name_of played ≡ program.files → IsLight program played
    → most_entries ≤ limits.entries → most_bytes ≤ limits.bytes
    → TasksFit program (map frames_of played) limits
