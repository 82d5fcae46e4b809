-- The files that a script plays, as its users play them.
use Rattle.std.specs.Prelude.{ℕ, List, map}
use Rattle.vale_captures.specs.Inputs.{InputFile, name_of, frames_of}
use Rattle.vale_replay.specs.Tasks.{Captures, records_of}

abbrev pub names_of : List InputFile → List (List ℕ)
names_of inputs = map name_of inputs

abbrev pub captures_of : List InputFile → Captures
captures_of inputs = map frames_of inputs

-- the captured bytes of a file's records; none where there is no such file
abbrev pub records_in : List InputFile → List ℕ → List (List ℕ)
records_in inputs = records_of (names_of inputs) (captures_of inputs)
