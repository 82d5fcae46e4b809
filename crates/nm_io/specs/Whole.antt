use Rattle.std.specs.Prelude.{◌≡◌, ℕ, ◌<◌, List, length, take, Option, IfSome, IsSomeAnd}
use Rattle.nm_io.specs.Counts.{Rose}
use Rattle.nm_io.specs.Files.{Files}
use Rattle.nm_io.specs.declared.read_error.ReadError.{ReadError}
use Rattle.nm_io.specs.declared.read_error.ReadError.TheVariants.{TooLong, Failed, NoMemory}

-- why a file was not read whole: where its contents are told, they are longer than the limit; the
-- count of its read faults rose; or memory was wanting
abbrev pub Blames : Option Files → List ℕ → ℕ → ℕ → ℕ → ReadError → Type 0
Blames files name limit before now TooLong =
    IfSome files (λ all. IsSomeAnd (all name) (λ contents. limit < length contents))
Blames files name limit before now Failed = Rose before now
Blames files name limit before now NoMemory = Unit {0}

-- these bytes are the first of the file, where it is told
abbrev pub IsFront : Option Files → List ℕ → List ℕ → Type 0
IsFront files name front =
    IfSome files (λ all. IfSome (all name) (λ contents. front ≡ take (length front) contents))
