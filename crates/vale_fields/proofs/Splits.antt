-- Texts that are cut at a separator are cut into what was joined.
use Rattle.std.specs.List.{AllByRecursion as Each, join_with_byte, slice_split, onto_first, position_or_len}
use Rattle.std.proofs.Common.{ℕ, suc, ◌+◌, ◌<◌, ◌≡◌, ◌==◌, nat_lt, Bool, true, false, not, cond, if◌then◌else◌, List, [], ◌∷◌, ◌++◌, length, take, drop, codes, bytes_eq, Some, None, refl, sym, ◌∙◌, ap, arith}
use Rattle.std.proofs.lemmas.Bool.{false_from_ne_true, eqb-true}
use Rattle.std.proofs.lemmas.Bool.Decides.{nat_tests}
use Rattle.std.proofs.lemmas.List.Splits.{slice_split-cons_yes, slice_split-cons_no}
use Rattle.std.proofs.lemmas.Slice.Eq.{bytes_eq-Decides}
use Rattle.vale_entry.specs.Transcript.{list_text}
use Rattle.vale_entry.proofs.Each.{each-weaker}
use Rattle.vale_fields.specs.Fields.{mark_in}
use Rattle.vale_fields.specs.Lists.{is_comma, parts_of}
use Rattle.vale_fields.proofs.Cuts.{IsPartByte, IsPart, no-comma, list-same}

pub unequal : (b m : ℕ) → (b ≡ m → ⊥) → (b == m) ≡ false
unequal b m apart = false_from_ne_true (b == m) (λ e. apart (eqb-true b m e))

-- a part without the separator, the separator, and what stands behind it
pub split-front : (p : ℕ → Bool) (s : ℕ) (w rest : List ℕ) → p s ≡ true → Each (λ b. p b ≡ false) w → slice_split p (w ++ s ∷ rest) ≡ w ∷ slice_split p rest
split-front p s [] rest is none = slice_split-cons_yes p s rest is
split-front p s (x ∷ w) rest is none = slice_split-cons_no p x (w ++ s ∷ rest) none.0 ∙ ap (onto_first x) (split-front p s w rest is none.1)

pub split-last : (p : ℕ → Bool) (w : List ℕ) → Each (λ b. p b ≡ false) w → slice_split p w ≡ w ∷ []
split-last p [] none = refl
split-last p (x ∷ w) none = slice_split-cons_no p x w none.0 ∙ ap (onto_first x) (split-last p w none.1)

abbrev pub IsFree : (ℕ → Bool) → List ℕ → Type 0
IsFree p w = Each (λ b. p b ≡ false) w

split-join : (p : ℕ → Bool) (s : ℕ) (x : List ℕ) (xs : List (List ℕ)) → p s ≡ true → Each (IsFree p) (x ∷ xs) → slice_split p (join_with_byte s (x ∷ xs)) ≡ x ∷ xs
split-join p s x [] is all = split-last p x all.0
split-join p s x (y ∷ ys) is all = split-front p s x (join_with_byte s (y ∷ ys)) is all.0 ∙ ap (λ (t : List (List ℕ)). x ∷ t) (split-join p s y ys is all.1)

comma-free : (b : ℕ) → IsPartByte b → is_comma b ≡ false
comma-free b h = unequal b 44 (λ e. no-comma (rw (sym e) h))

part-free : (w : List ℕ) → IsPart w → IsFree is_comma w
part-free w h = each-weaker IsPartByte (λ b. is_comma b ≡ false) comma-free w h.bytes

-- the parts of a list are read from its text
pub list-back : (items : List (List ℕ)) → Each IsPart items → parts_of (list_text items) ≡ items
unfolding parts_of
list-back [] all = refl
list-back (x ∷ xs) all =
    let dash : bytes_eq (list_text (x ∷ xs)) (codes "-") ≡ false =
    false_from_ne_true (bytes_eq (list_text (x ∷ xs)) (codes "-")) (λ e. nothing (list-same (x ∷ xs) [] all tt ((bytes_eq-Decides (list_text (x ∷ xs)) (codes "-")).0 e))) in
    ap (λ (b : Bool). if b then [] else slice_split is_comma (list_text (x ∷ xs))) dash
    ∙ split-join is_comma 44 x xs refl (each-weaker IsPart (IsFree is_comma) part-free (x ∷ xs) all)
  where
    nothing : x ∷ xs ≡ [] → ⊥
    nothing e = cc

-- Texts that are cut at a mark.

marked-at : (m : ℕ) (xs ys : List ℕ) → (m == m) ≡ true → IsFree (λ b. b == m) xs → position_or_len (λ b. b == m) (xs ++ m ∷ ys) ≡ length xs
marked-at m [] ys is none = ap (λ (b : Bool). cond (not b) (1 + position_or_len (λ b. b == m) ys) 0) is
marked-at m (x ∷ xs) ys is none =
    let rest = marked-at m xs ys is none.1 in
    let next : 1 + position_or_len (λ b. b == m) (xs ++ m ∷ ys) ≡ suc (length xs) = omega (arith, rest) in
    ap (λ (b : Bool). cond (not b) (1 + position_or_len (λ b. b == m) (xs ++ m ∷ ys)) 0) none.0 ∙ next

less : (m : ℕ) (xs ys : List ℕ) → length xs < length (xs ++ m ∷ ys)
less m [] ys = omega arith
less m (x ∷ xs) ys = let rest = less m xs ys in omega (arith, rest)

longer : (m : ℕ) (xs ys : List ℕ) → nat_lt (length xs) (length (xs ++ m ∷ ys)) ≡ true
longer m xs ys = let shorter = less m xs ys in grind (arith, nat_tests, shorter)

pub mark-found : (m : ℕ) (xs ys : List ℕ) → (m == m) ≡ true → IsFree (λ b. b == m) xs → mark_in m (xs ++ m ∷ ys) ≡ Some (length xs)
mark-found m xs ys is none =
    ap (λ (k : ℕ). cond (nat_lt k (length (xs ++ m ∷ ys))) (Some k) None) (marked-at m xs ys is none)
    ∙ ap (λ (b : Bool). cond b (Some (length xs)) None) (longer m xs ys)

unmarked-len : (m : ℕ) (xs : List ℕ) → IsFree (λ b. b == m) xs → position_or_len (λ b. b == m) xs ≡ length xs
unmarked-len m [] none = refl
unmarked-len m (x ∷ xs) none =
    let rest = unmarked-len m xs none.1 in
    let next : 1 + position_or_len (λ b. b == m) xs ≡ suc (length xs) = omega (arith, rest) in
    ap (λ (b : Bool). cond (not b) (1 + position_or_len (λ b. b == m) xs) 0) none.0 ∙ next

pub mark-missed : (m : ℕ) (xs : List ℕ) → IsFree (λ b. b == m) xs → mark_in m xs ≡ None
mark-missed m xs none =
    let test : nat_lt (length xs) (length xs) ≡ false = grind (arith, nat_tests) in
    ap (λ (k : ℕ). cond (nat_lt k (length xs)) (Some k) None) (unmarked-len m xs none)
    ∙ ap (λ (b : Bool). cond b (Some (length xs)) None) test

pub take-front : (xs ys : List ℕ) → take (length xs) (xs ++ ys) ≡ xs
take-front [] ys = refl
take-front (x ∷ xs) ys = ap (λ (t : List ℕ). x ∷ t) (take-front xs ys)

pub drop-front : (m : ℕ) (xs ys : List ℕ) → drop (length xs + 1) (xs ++ m ∷ ys) ≡ ys
drop-front m [] ys = refl
drop-front m (x ∷ xs) ys =
    let next : suc (length xs) + 1 ≡ suc (length xs + 1) = omega arith in
    ap (λ (n : ℕ). drop n (x ∷ (xs ++ m ∷ ys))) next ∙ drop-front m xs ys
