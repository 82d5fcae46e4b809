-- What a search by position finds.
use Rattle.std.proofs.Common.{ℕ, suc, ◌≡◌, ◌≤◌, ◌<◌, ◌+◌, Bool, true, false, cond, not, nat_lt, List, [], ◌∷◌, length, position, slice_get, get_or, Option, Some, None, is_some, refl, sym, arith}
use Rattle.std.specs.List.{list_any, position_or_len}
use Rattle.std.proofs.lemmas.Bool.{ltb-false}
use Rattle.std.proofs.lemmas.List.Folds.{list_any_at}
use Rattle.std.proofs.lemmas.List.Quantifiers.{position-Some}
use Rattle.std.proofs.lemmas.Option.{slice_get-get_or}

past_parts : (b : Bool) (n m : ℕ) → suc n ≤ cond (not b) (1 + m) 0 → (b ≡ false) × (n ≤ m)
past_parts true n m h = absurd (omega arith)
past_parts false n m h = (refl, omega arith)

none_is : {X : Type 0} (b : Bool) (x : X) → cond b (Some x) None ≡ None → b ≡ false
none_is true x e = cc
none_is false x e = refl

past-all : {X : Type 0} (test : X → Bool) (xs : List X) → length xs ≤ position_or_len test xs → list_any test xs ≡ false
past-all test [] h = refl
past-all test (x ∷ xs) h =
    let parts = past_parts (test x) (length xs) (position_or_len test xs) h in
    rw (parts.0) (past-all test xs parts.1)

-- where nothing is found nothing passes
pub none-passes : {X : Type 0} (test : X → Bool) (xs : List X) → position test xs ≡ None → list_any test xs ≡ false
none-passes test xs none =
    past-all test xs (ltb-false (position_or_len test xs) (length xs) (none_is (nat_lt (position_or_len test xs) (length xs)) (position_or_len test xs) none))

-- what is found is there, and passes
pub record IsAt {X : Type 0} (test : X → Bool) (xs : List X) (place : ℕ) : Type 0 where
  pub it : X
  pub here : slice_get xs place ≡ Some it
  pub passes : test it ≡ true
  pub within : place < length xs

pub found-at : {X : Type 0} (test : X → Bool) (xs : List X) (place : ℕ) → position test xs ≡ Some place → IsAt test xs place
found-at test [] place e = absurd cc
found-at test (x ∷ xs) place e =
    let at = position-Some test (x ∷ xs) place x e in
    record { it = get_or (x ∷ xs) place x; here = slice_get-get_or (x ∷ xs) place x at.0; passes = at.1; within = at.0 }

some-at : {X : Type 0} (test : X → Bool) (xs : List X) (place : ℕ) → position test xs ≡ Some place → list_any test xs ≡ true
some-at test [] place e = absurd cc
some-at test (x ∷ xs) place e =
    let at = position-Some test (x ∷ xs) place x e in
    list_any_at test (x ∷ xs) place x at.0 at.1

-- whether anything passes is whether it is found
pub some-passes : {X : Type 0} (test : X → Bool) (xs : List X) → is_some (position test xs) ≡ list_any test xs
some-passes test xs = by (position test xs) refl
  where
    by : (found : Option ℕ) → position test xs ≡ found → is_some found ≡ list_any test xs
    by None e = sym (none-passes test xs e)
    by (Some place) e = sym (some-at test xs place e)
