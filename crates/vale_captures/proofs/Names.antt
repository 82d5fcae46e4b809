-- The records of a file, found by its name.
use Rattle.std.proofs.Common.{ℕ, ◌≡◌, cond, List, [], ◌∷◌, map, refl, ap}
use Rattle.std.specs.Prelude.{bytes_eq}
use Rattle.vale_captures.specs.Inputs.{InputFile, frames_of, name_of, records_in}
use Rattle.vale_replay.specs.Tasks.{records_of}

-- they are those found among the records of all files
pub records-same : (inputs : List InputFile) (file : List ℕ) → records_in inputs file ≡ records_of (map name_of inputs) (map frames_of inputs) file
records-same [] file = refl
records-same (input ∷ inputs) file = ap (λ (rest : List (List ℕ)). cond (bytes_eq input.file file) input.frames rest) (records-same inputs file)
