-- What the steps of a call tell together.
use Rattle.std.proofs.Common.{◌≡◌, ℕ, ◌+◌, ◌-◌, ◌≤◌, Bool, true, false, List, [], ◌∷◌, ◌++◌, length, slice_get, Some, refl, sym, ap, ◌∙◌, subst, inl, inr, ⊎_elim, arith, append-nil}
use mathlib.Core.List.{IsPrefix}
use Rattle.std.proofs.lemmas.Option.{slice_get_within}
use Rattle.nm_turn.specs.declared.view.PassView.{PassView}
use Rattle.nm_turn.specs.Numbered.{numbered, Stands, IsPicked}
use Rattle.nm_turn.specs.Passes.{Knows, Told, longer, new_since}
use Rattle.nm_turn.specs.Turns.{AddsOne}
use Rattle.nm_turn.proofs.Prefixes.{prefix_trans, prefix_length, prefix_get, longer-begins, no_root-begins, get_joined, get_right, numbered-get, numbered-Stands, numbered-append, new_since-more}
use Rattle.nm_turn.proofs.Joining.{picked_more}

-- what two passes know of one history, they know of the longer of what they saw
pub known_both : {E : Type 0} (root : E → ℕ → ℕ) (history xs ys : List E) (m n : List (ℕ × E)) → Knows root history xs m → Knows root history ys n → Knows root (longer xs ys) xs m × Knows root (longer xs ys) ys n
known_both root history xs ys m n k l =
    let b = longer-begins xs ys history k.begins l.begins in (
      record { begins = b.0; no_root = no_root-begins root xs (longer xs ys) history m b.2 k.no_root; together = λ at e h st. k.together at e (prefix_get (longer xs ys) history at e b.2 h) st; stands = k.stands },
      record { begins = b.1; no_root = no_root-begins root ys (longer xs ys) history n b.2 l.no_root; together = λ at e h st. l.together at e (prefix_get (longer xs ys) history at e b.2 h) st; stands = l.stands },
    )

-- nothing is new in a history that stays
pub new_since-same : {E : Type 0} (before after : List E) → after ≡ before → new_since before after ≡ []
new_since-same before after e = ap (new_since before) (e ∙ sym (append-nil before)) ∙ new_since-more before []

picked_self : {X : Type 0} (xs : List X) → IsPicked xs xs
picked_self [] = tt
picked_self (x ∷ xs) = inl (refl, picked_self xs)

picked_behind : {X : Type 0} (ys zs : List X) → IsPicked zs (ys ++ zs)
picked_behind [] zs = picked_self zs
picked_behind (y ∷ ys) [] = tt
picked_behind (y ∷ ys) (z ∷ zs) = inr (picked_behind ys (z ∷ zs))

-- what is picked of a list is picked of what goes on, with all that is new
picked_both : {X : Type 0} (xs ys zs : List X) → IsPicked xs ys → IsPicked (xs ++ zs) (ys ++ zs)
picked_both [] ys zs p = picked_behind ys zs
picked_both (x ∷ xs) [] zs p = absurd p
picked_both (x ∷ xs) (y ∷ ys) zs p = ⊎_elim (λ (t : (x ≡ y) × IsPicked xs ys). inl (t.0, picked_both xs ys zs t.1)) (λ (t : IsPicked (x ∷ xs) ys). inr (picked_both (x ∷ xs) ys zs t)) p

-- a pass's own entries are among those that it has seen
picked_left : {E F : Type 0} (root : E → ℕ → ℕ) (v w : PassView E F) (before more : List E) → Knows root before v.seen v.mine → w.seen ≡ before ++ more → w.mine ≡ v.mine ++ new_since before (before ++ more)
    → IsPicked w.mine (numbered 1 w.seen)
picked_left {E} root v w before more k seen mine =
    let news : List (ℕ × E) = numbered (1 + length before) more in
    let own : w.mine ≡ v.mine ++ news = mine ∙ ap (λ (l : List (ℕ × E)). v.mine ++ l) (new_since-more before more) in
    let all : numbered 1 w.seen ≡ numbered 1 before ++ news = ap (numbered 1) seen ∙ numbered-append 1 before more in
    let longer_seen : numbered 1 v.seen ++ numbered (1 + length v.seen) k.begins.0 ≡ numbered 1 before = sym (numbered-append 1 v.seen k.begins.0) ∙ ap (numbered 1) k.begins.1 in
    let in_before : IsPicked v.mine (numbered 1 before) = subst (IsPicked v.mine) longer_seen (picked_more v.mine (numbered 1 v.seen) (numbered (1 + length v.seen) k.begins.0) k.stands) in
    subst (λ (t : List (ℕ × E) × List (ℕ × E)). IsPicked t.0 t.1) (λ i. (sym own i, sym all i)) (picked_both v.mine (numbered 1 before) news in_before)

-- what a call tells that ends with the history `before` and more
pub told_more : {E F : Type 0} (root : E → ℕ → ℕ) (v w : PassView E F) (before more : List E) → Knows root before v.seen v.mine → w.seen ≡ before ++ more → w.part ≡ v.part → w.mine ≡ v.mine ++ new_since before (before ++ more)
    → Told root v w (before ++ more) (new_since before (before ++ more))
told_more {E} root v w before more k seen part mine =
    let added : List (ℕ × E) = new_since before (before ++ more) in
    let is : added ≡ numbered (1 + length before) more = new_since-more before more in
    let le = prefix_length v.seen before k.begins in record {
      begins = prefix_trans v.seen before (before ++ more) k.begins (more, refl);
      seen = seen;
      part = part;
      mine = mine;
      picked = picked_left root v w before more k seen mine;
      stand = λ i number e h.
          let t = numbered-get (1 + length before) more i number e (ap (λ (l : List (ℕ × E)). slice_get l i) (sym is) ∙ h) in
          let n = t.0 in
          let at : number - 1 ≡ length before + i = omega arith in
          (omega arith, ap (slice_get (before ++ more)) at ∙ get_right before more i e t.1);
      others = λ at e past h not. ⊎_elim (λ (a : slice_get before at ≡ Some e). k.no_root at e past a)
          (λ (b : (length before ≤ at) × (slice_get more (at - length before) ≡ Some e)).
          let lt = slice_get_within more (at - length before) e b.1 in
          let ge = b.0 in
          let number : 1 + length before + (at - length before) ≡ at + 1 = omega arith in
          absurd (not (subst (λ (l : List (ℕ × E)). Stands (at + 1) l) (sym is) (subst (λ (n : ℕ). Stands n (numbered (1 + length before) more)) number (numbered-Stands (1 + length before) (at - length before) more lt)))))
          (get_joined before more at e h);
    }

-- what a call tells after which the history begins with `before`
pub told_by : {E F : Type 0} (root : E → ℕ → ℕ) (v w : PassView E F) (before after : List E) → IsPrefix before after → Knows root before v.seen v.mine → w.seen ≡ after → w.part ≡ v.part → w.mine ≡ v.mine ++ new_since before after
    → Told root v w after (new_since before after)
told_by {E} root v w before after p k seen part mine =
    subst (λ (l : List E). Told root v w l (new_since before l)) p.1 (told_more root v w before p.0 k (seen ∙ sym p.1) part (mine ∙ ap (λ (l : List E). v.mine ++ new_since before l) (sym p.1)))

-- a value that is left begins with what was entered
pub begins_left : {E : Type 0} (root : E → ℕ → ℕ) (before : List E) (mine : List (ℕ × E)) (after : List E) (made : Bool) → (made ≡ false → after ≡ before) → (made ≡ true → AddsOne root before mine after) → IsPrefix before after
begins_left {E} root before mine after true same more = let t = more refl in (t.0 ∷ [], sym t.1)
begins_left {E} root before mine after false same more = ([], append-nil before ∙ sym (same refl))
