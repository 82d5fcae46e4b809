-- Files read one after another.
use Rattle.std.proofs.Common.{◌≡◌, ◌+◌, ◌≤◌, ◌<◌, ℕ, List, [], ◌∷◌, ◌++◌, length, take, get_or, Option, Some, slice_get, refl, arith, sym, ap, ◌∙◌, subst}
use Rattle.std.proofs.lemmas.Option.{slice_get_read}
use Rattle.nm_io.specs.Files.{Files}
use Rattle.vale_captures.specs.Inputs.{InputFile, IsInput, AreInputs, BlamesFile, StopsAtFile, StopsReading}
use Rattle.vale_captures.specs.declared.inputs.InputFault.{InputFault}
use Rattle.vale_captures.specs.declared.inputs.InputFault.TheVariants.{Failed, TooLong, BadPcap, NoMemory}
use Rattle.vale_captures.proofs.Pages.{taken-next, rose-since}

pub inputs-next : (files : Option Files) (names : List (List ℕ)) (inputs : List InputFile) (size : ℕ) (name : List ℕ) (input : InputFile) (more : ℕ)
    → AreInputs files names inputs size → IsInput files name input more → AreInputs files (names ++ name ∷ []) (inputs ++ input ∷ []) (size + more)
inputs-next files [] [] size name input more none one = (more, 0, (one, (refl, omega (arith, none))))
inputs-next files (n ∷ names) [] size name input more are one = absurd are
inputs-next files [] (i ∷ inputs) size name input more are one = absurd are
inputs-next files (n ∷ names) (i ∷ inputs) size name input more are one =
    let total = are.2.1.1 in
    (are.0, are.1 + more, (are.2.0, (inputs-next files names inputs are.1 name input more are.2.1.0 one, omega (arith, total))))

-- the name of the file at a place
pub named-at : (names : List (List ℕ)) (at : ℕ) (word name : List ℕ) → at < length names
    → word ≡ get_or names at word → name ≡ word → slice_get names at ≡ Some name
named-at names at word name within is same =
    slice_get_read names (length names) at word refl within is
    ∙ ap (λ (n : List ℕ). Some n) (sym same)

pub inputs-taken : (files : Option Files) (names : List (List ℕ)) (at : ℕ) (inputs : List InputFile) (size : ℕ) (name : List ℕ) (input : InputFile) (more : ℕ)
    → slice_get names at ≡ Some name → AreInputs files (take at names) inputs size → IsInput files name input more
    → AreInputs files (take (at + 1) names) (inputs ++ input ∷ []) (size + more)
inputs-taken files names at inputs size name input more there are one =
    subst (λ (ns : List (List ℕ)). AreInputs files ns (inputs ++ input ∷ []) (size + more)) (sym (taken-next names at name there))
    (inputs-next files (take at names) inputs size name input more are one)

-- the blame of a file since an earlier count
pub blames-since : (files : Option Files) (name : List ℕ) (left first before now : ℕ) (fault : InputFault) → first ≤ before → BlamesFile files name left before now fault → BlamesFile files name left first now fault
blames-since files name left first before now Failed le b = rose-since first before now le b
blames-since files name left first before now TooLong le b = b
blames-since files name left first before now (BadPcap fault) le b = b
blames-since files name left first before now NoMemory le b = tt

pub stops-at : (files : Option Files) (names : List (List ℕ)) (limit : ℕ) (reads : List ℕ → ℕ × ℕ) (at : ℕ) (fault : InputFault) → StopsAtFile files names limit reads at fault → StopsReading files names limit reads (at, fault)
stops-at files names limit reads at Failed s = s
stops-at files names limit reads at TooLong s = s
stops-at files names limit reads at (BadPcap fault) s = s
stops-at files names limit reads at NoMemory s = tt
