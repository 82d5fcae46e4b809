-- A search among the elements that pass a test.
use Rattle.std.proofs.Common.{◌≡◌, Bool, true, false, cond, not, ◌&&◌, ◌||◌, ◌==◌, ℕ, List, [], ◌∷◌, ◌++◌, filter, find, Option, Some, None, refl, sym, ◌∙◌}
use Rattle.std.specs.Prelude.{option_map}
use Rattle.std.proofs.lemmas.Map.Entries.{option_filter}
use Rattle.std.specs.List.{AllByRecursion as Each, list_any}
use Rattle.std.proofs.Math.Bool.{and-false, and-true}
use Rattle.vale_entry.proofs.Each.{each-weaker}
use Rattle.vale_entry.specs.Legal.{is_met}
use Rattle.vale_own.specs.Own.{is_empty}
use Rattle.vale_own.specs.Asker.{is_asker}

find-none : {X : Type 0} (p q : X → Bool) (xs : List X) → Each (λ x. q x ≡ true → p x ≡ false) xs → find q (filter p xs) ≡ None
find-none p q [] all = refl
find-none {X} p q (x ∷ xs) all = by (p x) (q x) refl refl (find-none p q xs all.1)
  where
    by : (b c : Bool) → p x ≡ b → q x ≡ c → find q (filter p xs) ≡ None → find q (cond (p x) (x ∷ filter p xs) (filter p xs)) ≡ None
    by true true h t rest = absurd (let no = all.0 t in cc)
    by true false h t rest = rw (h, t) rest
    by false c h t rest = rw h rest

-- where all that are looked for pass, or none, as the first does
pub find-kept : {X : Type 0} (p q : X → Bool) (xs : List X) → ((y : X) → find q xs ≡ Some y → Each (λ z. q z ≡ true → p z ≡ p y) xs) → find q (filter p xs) ≡ option_filter p (find q xs)
find-kept p q [] alike = refl
find-kept {X} p q (x ∷ xs) alike = by (p x) (q x) refl refl (find-kept p q xs)
  where
    by : (b c : Bool) → p x ≡ b → q x ≡ c → (((y : X) → find q xs ≡ Some y → Each (λ z. q z ≡ true → p z ≡ p y) xs) → find q (filter p xs) ≡ option_filter p (find q xs))
        → find q (cond (p x) (x ∷ filter p xs) (filter p xs)) ≡ option_filter p (cond (q x) (Some x) (find q xs))
    by true true h t rest = rw (h, t, h) refl
    by false true h t rest =
        let found : cond (q x) (Some x) (find q xs) ≡ Some x = rw t refl in
        let none = find-none p q xs (each-weaker (λ z. q z ≡ true → p z ≡ p x) (λ z. q z ≡ true → p z ≡ false) (λ z same is. same is ∙ h) xs (alike x found).1) in
        rw (h, t, h) none
    by true false h t rest = rw (h, t) (rest (λ y e. (alike y (rw t e)).1))
    by false false h t rest = rw (h, t) (rest (λ y e. (alike y (rw t e)).1))

-- what was found and is of a session
pub kept-met : {X : Type 0} (owner : X → ℕ) (session : ℕ) (test : X → Bool) (found : Option X)
    → is_met test (option_filter (λ x. owner x == session) found) ≡ (is_met test found && is_asker (option_map owner found) session)
kept-met owner session test None = refl
kept-met {X} owner session test (Some x) = by (owner x == session) refl
  where
    by : (b : Bool) → (owner x == session) ≡ b → is_met test (cond (owner x == session) (Some x) None) ≡ (test x && (owner x == session))
    by true t = rw t (sym (and-true (test x)))
    by false t = rw t (sym (and-false (test x)))

-- the first of the elements that pass
pub empty-append : {X : Type 0} (xs ys : List X) → is_empty (xs ++ ys) ≡ (is_empty xs && is_empty ys)
empty-append [] ys = refl
empty-append (x ∷ xs) ys = refl

pub any-empty : {X : Type 0} (p : X → Bool) (xs : List X) → not (list_any p xs) ≡ is_empty (filter p xs)
any-empty p [] = refl
any-empty {X} p (x ∷ xs) = by (p x) refl (any-empty p xs)
  where
    by : (b : Bool) → p x ≡ b → not (list_any p xs) ≡ is_empty (filter p xs) → not (p x || list_any p xs) ≡ is_empty (cond (p x) (x ∷ filter p xs) (filter p xs))
    by true t rest = rw t refl
    by false t rest = rw t rest
