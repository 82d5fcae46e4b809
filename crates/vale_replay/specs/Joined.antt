-- What the users of a script promise, each of its own entries alone. Nothing says of one such
-- promise that it has all entries of its unit: that is said once, of the numbers of all of them.
use Rattle.std.specs.Prelude.{ℕ, ◌≡◌, ◌<◌, ◌≤◌, ◌↔◌, List, [], ◌∷◌, ◌++◌, length, take, flat_map}
use Rattle.std.specs.List.{AllByRecursion}
use Rattle.vale_entry.specs.declared.entry.Entry.{Entry}
use Rattle.vale_script.specs.Script.{Program}
use Rattle.vale_replay.specs.Machine.{Machine}
use Rattle.vale_replay.specs.Replay.{Cast, UnitShare, ScriptUnit, EachShare, PlaysUser, AreSplit, HasCaptures, HasPlayed, cast_after, cast_of, starting, units_of}
use Rattle.vale_replay.specs.Tasks.{Captures}

-- a share's user plays its lines by its entries
abbrev pub PlaysShare : ℕ → List Entry → UnitShare → Machine → List ℕ → Machine → Type 0
PlaysShare pool history share before numbers after =
    PlaysUser pool history (starting share before) numbers after

-- the number is behind the first ones, and not past the last one
abbrev pub IsWithin : ℕ → ℕ → ℕ → Type 0
IsWithin first last number = (first < number) × (number ≤ last)

-- the users of a unit play it, each by entries of the unit's range
pub record TurnsOfUnit (pool : ℕ) (history : List Entry) (cast : Cast) (first : ℕ) (unit : ScriptUnit) (lists : List (List ℕ)) (next : Cast) (last : ℕ) : Type 0 where
  pub afters : List Machine
  pub forward : first ≤ last
  pub plays : EachShare (PlaysShare pool history) cast unit lists afters
  pub inside : AllByRecursion (AllByRecursion (IsWithin first last)) lists
  pub others : next ≡ cast_after unit afters cast

-- units one after another, with the lists of each
abbrev pub TurnsOfUnits : ℕ → List Entry → Cast → ℕ → List ScriptUnit → List (List (List ℕ)) → Cast → ℕ
    → Type 0
TurnsOfUnits pool history cast first [] [] next last = (next ≡ cast) × (last ≡ first)
TurnsOfUnits pool history cast first (unit ∷ units) (lists ∷ more) next last =
    (between : Cast) × ((number : ℕ)
    × (TurnsOfUnit pool history cast first unit lists between number
    × TurnsOfUnits pool history between number units more next last))
TurnsOfUnits pool history cast first _ _ next last = ⊥

abbrev pub lists_in : List (List (List ℕ)) → List (List ℕ)
lists_in units = flat_map (λ (lists : List (List ℕ)). lists) units

-- what users promise is read in the history up to the last of their entries
abbrev pub TurnsReadToTheirLast : Type 0
TurnsReadToTheirLast =
    (pool : ℕ) (history : List Entry) (count : ℕ) (cast : Cast) (first : ℕ) (units : List ScriptUnit) (lists : List (List (List ℕ))) (next : Cast) (last : ℕ)
    → last ≤ count
    → TurnsOfUnits pool history cast first units lists next last
    ↔ TurnsOfUnits pool (take count history) cast first units lists next last

-- a unit behind other units
abbrev pub TurnsGoOn : Type 0
TurnsGoOn =
    (pool : ℕ) (history : List Entry) (cast : Cast) (first : ℕ) (units : List ScriptUnit) (lists : List (List (List ℕ))) (between : Cast) (number : ℕ) (unit : ScriptUnit) (unit_lists : List (List ℕ)) (next : Cast) (last : ℕ)
    → TurnsOfUnits pool history cast first units lists between number
    → TurnsOfUnit pool history between number unit unit_lists next last
    → TurnsOfUnits pool history cast first (units ++ unit ∷ []) (lists ++ unit_lists ∷ []) next last

-- the users of a script play each of its units, up to the history's last entry
pub record HasTurns (program : Program) (captures : Captures) (history : List Entry) (lists : List (List (List ℕ))) (cast : Cast) : Type 0 where
  pub files : HasCaptures program captures
  pub turns : TurnsOfUnits program.pool history (cast_of program) 0 (units_of program captures) lists cast (length history)

-- where their numbers are all numbers of the history, each once, it plays the script
abbrev pub JoinsUsers : Type 0
JoinsUsers =
    (program : Program) (captures : Captures) (history : List Entry) (lists : List (List (List ℕ))) (cast : Cast)
    → HasTurns program captures history lists cast
    → AreSplit 0 (length history) (lists_in lists) → HasPlayed program captures history cast

-- and a history that plays the script is put together of such turns
abbrev pub PlayedIsOfTurns : Type 0
PlayedIsOfTurns =
    (program : Program) (captures : Captures) (history : List Entry) (cast : Cast)
    → HasPlayed program captures history cast
    → (lists : List (List (List ℕ)))
    × (HasTurns program captures history lists cast × AreSplit 0 (length history) (lists_in lists))
