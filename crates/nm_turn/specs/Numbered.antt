-- Entries with their numbers, and which of them belong to whom.
use Rattle.std.specs.Prelude.{◌≡◌, ℕ, ◌+◌, ◌⊎◌, ◌==◌, if◌then◌else◌, nat_lt, List, [], ◌∷◌, map}

-- the entries, numbered from n on
abbrev pub numbered : {E : Type 0} → ℕ → List E → List (ℕ × E)
numbered n [] = []
numbered n (e ∷ es) = (n, e) ∷ numbered (n + 1) es

-- the entries without their numbers, and the numbers without their entries
abbrev pub values : {E : Type 0} → List (ℕ × E) → List E
values mine = map (λ m. m.1) mine

abbrev pub numbers : {E : Type 0} → List (ℕ × E) → List ℕ
numbers mine = map (λ m. m.0) mine

-- those whose owner is j, where the lists give the owners and the entries from number n on
abbrev pub owned : {E : Type 0} → ℕ → ℕ → List ℕ → List E → List (ℕ × E)
owned j n [] es = []
owned j n (o ∷ os) [] = []
owned j n (o ∷ os) (e ∷ es) =
    if o == j then (n, e) ∷ owned j (n + 1) os es else owned j (n + 1) os es

-- one more entry, at its place by number
abbrev pub inserted : {E : Type 0} → ℕ × E → List (ℕ × E) → List (ℕ × E)
inserted x [] = x ∷ []
inserted x (y ∷ ys) = if nat_lt x.0 y.0 then x ∷ y ∷ ys else y ∷ inserted x ys

-- both lists in one, by number
abbrev pub merged : {E : Type 0} → List (ℕ × E) → List (ℕ × E) → List (ℕ × E)
merged [] ys = ys
merged (x ∷ xs) ys = inserted x (merged xs ys)

-- an entry of the list has this number
abbrev pub Stands : {E : Type 0} → ℕ → List (ℕ × E) → Type 0
Stands n [] = ⊥
Stands n (x ∷ xs) = (n ≡ x.0) ⊎ Stands n xs

-- the first list is part of the second, in its order
abbrev pub IsPicked : {X : Type 0} → List X → List X → Type 0
IsPicked [] ys = Unit {0}
IsPicked (x ∷ xs) [] = ⊥
IsPicked (x ∷ xs) (y ∷ ys) = ((x ≡ y) × IsPicked xs ys) ⊎ IsPicked (x ∷ xs) ys
