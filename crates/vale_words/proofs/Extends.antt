-- What a list holds once all that a chain yields was added to it.
use Rattle.std.proofs.Common.{◌≡◌, ℕ, List, map, Option, Ok, sym, subst}
use Rattle.std.specs.Iterator.{Drains}
use Rattle.std.proofs.lemmas.Iterator.{YieldsList}
use Rattle.std.proofs.lemmas.Iterator.Adapters.{fact_from_extend}

pub list_from_extend : {T A C Q : Type 0} {steps : T → Option A → T → Type 0} {all : List C} {P : List A → Type 0} {s : T} (v : A → C)
    → ((it : T) × (xs : List A) × (it ≡ s) × P xs × Drains steps it xs) → YieldsList steps v s all → ((xs : List A) → map v xs ≡ all → P xs → Q) → Q
list_from_extend {steps = steps} {all = all} v ran road says =
    fact_from_extend {E = ℕ} v (Ok tt) ran (λ it b. subst (λ i. YieldsList steps v i all) (sym b) road) says
