-- The frames that a script puts, forwards and plays.
use Rattle.std.specs.Prelude.{ℕ, ◌≡◌, ◌<◌, ◌^◌, List, length, sum_by, flat_map, Option, Ok}
use Rattle.std.specs.Str.Lines.{lines}
use Rattle.nm_io.specs.Files.{Files}
use Rattle.vale_script.specs.declared.script.Act.{Act}
use Rattle.vale_script.specs.declared.script.Act.TheVariants as acts
use Rattle.vale_script.specs.Grammar.{script_of}
use Rattle.vale_script.specs.Script.{Program}
use Rattle.vale_script.specs.Sound.{IsSound}
use Rattle.vale_captures.specs.Inputs.{InputFile, AreInputs, records_in}
use Rattle.vale_replay.specs.Saved.{acts_of_unit}

-- what a line counts: the frames that it puts, or forwards at most
abbrev pub count_of : Act → ℕ
count_of (acts.Put name count to from len fill) = count
count_of (acts.Fwd from to count) = count
count_of _ = 0

abbrev pub counts_of : Program → ℕ
counts_of program = sum_by count_of (flat_map acts_of_unit program.units)

-- the records of the file that a line plays, those too that are too long to be put
abbrev pub frames_by : List InputFile → Act → ℕ
frames_by played (acts.Play name file batch) = length (records_in played file)
frames_by played _ = 0

abbrev pub frames_played : Program → List InputFile → ℕ
frames_played program played = sum_by (frames_by played) (flat_map acts_of_unit program.units)

-- The laws: these sums are numbers of 64 bits.

abbrev pub CountsFew : Type 0
CountsFew =
    (script : List ℕ) (program : Program)
    → script_of script ≡ Ok program → IsSound program → length (lines script) < 2 ^ 32 → counts_of program < 2 ^ 64

abbrev pub PlaysFew : Type 0
PlaysFew =
    (files : Option Files) (names : List (List ℕ)) (played : List InputFile) (size : ℕ) (script : List ℕ) (program : Program)
    → script_of script ≡ Ok program → length (lines script) < 2 ^ 32 → AreInputs files names played size → size < 2 ^ 31
    → frames_played program played < 2 ^ 64
