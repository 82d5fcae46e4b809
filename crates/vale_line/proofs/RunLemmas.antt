-- The cells of a run in its two parts: those up to the end of the field, and those from cell 0 on.
use Rattle.std.proofs.Common.{ℕ, ◌≡◌, ◌+◌, ◌-◌, ◌≤◌, List, ◌++◌, length, take, drop, map, Option, subst, sym, ap, ◌∙◌, arith}
use Rattle.std.proofs.lemmas.List.{append_assoc, length-append, take-append-drop}
use Rattle.vale_line.specs.declared.got.Got.{Got}
use Rattle.vale_line.specs.Cells.{gots_in, AreFull, AreEmpty, emptied}
use Rattle.vale_line.proofs.CellLemmas.{gots-append, gots-emptied, full-parts, empty-parts, first_written, second_written, taken-back, taken-all, put-front, put-all}

abbrev Cells : Type 0
Cells = List (Option Got)

pub front-full : (n : ℕ) (vs front : Cells) → front ≡ take n vs → AreFull vs → AreFull front
front-full n vs front is full = subst AreFull (sym is) (full-parts (take n vs) (drop n vs) (subst AreFull (sym (take-append-drop n vs)) full)).0

pub front-most : (n : ℕ) (vs front : Cells) → front ≡ take n vs → length front ≤ length vs
front-most n vs front is =
    let same = ap length is in
    let whole = ap length (take-append-drop n vs) in
    let parts = length-append (take n vs) (drop n vs) in
    omega (arith, same, whole, parts)

-- the first part is emptied, then the second
pub record FrontEmptied (n : ℕ) (vs front w back : Cells) : Type 0 where
  pub front_is : front ≡ take n vs
  pub w_is : w ≡ map emptied front
  pub back_is : back ≡ drop n (first_written n vs w)

module _ {n : ℕ} {vs front w back : Cells} (e : FrontEmptied n vs front w back) where
  w_at : w ≡ map emptied (take n vs)
  w_at = e.w_is ∙ ap (λ (cs : Cells). map emptied cs) e.front_is

  back_at : back ≡ drop n vs
  back_at = e.back_is ∙ taken-back n vs w w_at

  both : front ++ back ≡ vs
  both = ap (λ (cs : Cells). cs ++ back) e.front_is ∙ (ap (λ (cs : Cells). take n vs ++ cs) back_at ∙ take-append-drop n vs)

  pub back-full : AreFull vs → AreFull back
  back-full full = subst AreFull (sym back_at) (full-parts (take n vs) (drop n vs) (subst AreFull (sym (take-append-drop n vs)) full)).1

  pub counts-both : length front + length back ≡ length vs
  counts-both = sym (length-append front back) ∙ ap length both

  pub gots-both : gots_in front ++ gots_in back ≡ gots_in vs
  gots-both = sym (gots-append front back) ∙ ap gots_in both

  pub all-empty : (w2 : Cells) → w2 ≡ map emptied back → AreEmpty (second_written n (first_written n vs w) w2)
  all-empty w2 is = subst AreEmpty (sym (taken-all n vs w w2 w_at (is ∙ ap (λ (cs : Cells). map emptied cs) e.back_is))) (gots-emptied vs)

  -- what is in both parts comes behind others
  pub moved-both : {X : Type 0} (f : List Got → List X) → ((gs hs : List Got) → f (gs ++ hs) ≡ f gs ++ f hs) → (given middle all : List X)
      → middle ≡ given ++ f (gots_in front) → all ≡ middle ++ f (gots_in back) → all ≡ given ++ f (gots_in vs)
  moved-both {X = X} f parts given middle all first then =
      then ∙ (ap (λ (xs : List X). xs ++ f (gots_in back)) first
      ∙ (append_assoc given (f (gots_in front)) (f (gots_in back)) ∙ ap (λ (xs : List X). given ++ xs) (sym (parts (gots_in front) (gots_in back)) ∙ ap f gots-both)))

pub back-empty : (n : ℕ) (vs back : Cells) → back ≡ drop n vs → AreEmpty vs → AreEmpty back
back-empty n vs back is empty = subst AreEmpty (sym is) (empty-parts (take n vs) (drop n vs) (subst AreEmpty (sym (take-append-drop n vs)) empty)).1

-- the second part is filled with the last of what is given, then the first with the others
module _ {G : Type 0} (f : G → Option Got) (n : ℕ) (vs back w front : Cells) (gs gs1 : List G) (count : length gs ≡ length vs) (back_is : back ≡ drop n vs)
    (w_is : w ≡ map f (drop (length gs - length back) gs)) (rest_is : gs1 ≡ take (length gs - length back) gs) (front_is : front ≡ take n (second_written n vs w)) where
  put_at : w ≡ map f (drop (length gs - length (drop n vs)) gs)
  put_at = w_is ∙ ap (λ (cs : Cells). map f (drop (length gs - length cs) gs)) back_is

  rest_at : gs1 ≡ take (length gs - length (drop n vs)) gs
  rest_at = rest_is ∙ ap (λ (cs : Cells). take (length gs - length cs) gs) back_is

  pub front-empty : AreEmpty vs → AreEmpty front
  front-empty empty =
      subst AreEmpty (sym (front_is ∙ put-front f n vs w w gs gs1 count put_at rest_at))
      (empty-parts (take n vs) (drop n vs) (subst AreEmpty (sym (take-append-drop n vs)) empty)).0

  pub all-put : (w2 : Cells) → w2 ≡ map f (drop (length gs1 - length front) gs1) → first_written n (second_written n vs w) w2 ≡ map f gs
  all-put w2 is = put-all f n vs w w2 gs gs1 count put_at rest_at (is ∙ ap (λ (cs : Cells). map f (drop (length gs1 - length cs) gs1)) front_is)
