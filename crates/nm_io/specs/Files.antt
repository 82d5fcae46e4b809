use Rattle.std.specs.Prelude.{◌≡◌, ℕ, ◌<◌, ◌≤◌, List, [], ◌++◌, length, take, drop, Option, None, Some, unwrap_or, Result, MatchResult, ◌⊎◌, if◌then◌else◌}
use Rattle.std.specs.Str.{bytes_eq}

-- the contents of the files by their names; `None`: there is no such file
abbrev pub Files : Type 0
Files = List ℕ → Option (List ℕ)

-- the files once these bytes are added at the end of one, which starts empty where it was not there
abbrev pub appended : Files → List ℕ → List ℕ → Files
appended files name bytes =
    λ other. if bytes_eq name other then Some (unwrap_or (files name) [] ++ bytes) else files other

-- the same, where the files are told
abbrev pub appended_told : Option Files → List ℕ → List ℕ → Option Files
appended_told None name bytes = None
appended_told (Some files) name bytes = Some (appended files name bytes)

-- the files once one has these contents in place of what it had
abbrev pub replaced : Files → List ℕ → List ℕ → Files
replaced files name bytes = λ other. if bytes_eq name other then Some bytes else files other

-- the first `n` bytes of the room are the next ones of the file, of which there are none past its
-- end
pub record ReadsPart (file : Option (List ℕ)) (at n : ℕ) (room : List ℕ) : Type 0 where
  pub contents : List ℕ
  pub there : file ≡ Some contents
  pub bytes : take n room ≡ take n (drop at contents)
  pub within : n ≤ length (drop at contents)
  pub moves : 0 < length room → at < length contents → 0 < n

-- a prefix of the bytes was added at the end of a file; a file of which no call succeeded is as it
-- was
pub record AppendsPrefix (old new : Option Files) (name bytes : List ℕ) : Type 0 where
  pub count : ℕ
  pub within : count ≤ length bytes
  pub files : (new ≡ old) ⊎ (new ≡ appended_told old name (take count bytes))

-- a call that adds these bytes at the end of a file: all of them, or by its failure a prefix
abbrev pub Appends : {T E : Type 0}
    → Option Files → Option Files → List ℕ → Result T E → List ℕ → Type 0
Appends old new name result bytes =
    MatchResult result (λ _. new ≡ appended_told old name bytes)
    (λ _. AppendsPrefix old new name bytes)
