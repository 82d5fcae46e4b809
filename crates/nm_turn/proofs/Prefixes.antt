-- Beginnings of one list, and what stands past them.
use Rattle.std.proofs.Common.{◌≡◌, ℕ, zero, suc, ◌+◌, ◌-◌, ◌<◌, ◌≤◌, ◌⊎◌, if◌then◌else◌, Bool, List, [], ◌∷◌, ◌++◌, length, drop, slice_get, Some, refl, ap, sym, subst, ◌∙◌, inl, inr, ⊎_elim, arith, append_assoc, length-append}
use mathlib.Core.Logic.{dite}
use mathlib.Core.List.{IsPrefix}
use native.Mathlib.Decide.{dec_le}
use Rattle.std.proofs.lemmas.Option.{slice_get_within}
use Rattle.std.proofs.lemmas.Bool.{le-leb, lt-leb}
use Rattle.nm_turn.specs.Numbered.{numbered, Stands}
use Rattle.nm_turn.specs.Passes.{NoRootPast, longer, new_since}

module _ {A : Type 0} where
  -- each list begins with itself
  pub prefix_self : (xs : List A) → IsPrefix xs xs
  prefix_self [] = ([], refl)
  prefix_self (x ∷ xs) = (let r = prefix_self xs in r.0, ap (λ ys. x ∷ ys) (prefix_self xs).1)

  pub prefix_trans : (xs ys zs : List A) → IsPrefix xs ys → IsPrefix ys zs → IsPrefix xs zs
  prefix_trans xs ys zs p q = (p.0 ++ q.0, sym (append_assoc xs p.0 q.0) ∙ (ap (λ w. w ++ q.0) p.1 ∙ q.1))

  pub prefix_push : (xs ys : List A) (e : A) → IsPrefix xs ys → IsPrefix xs (ys ++ e ∷ [])
  prefix_push xs ys e p = prefix_trans xs ys (ys ++ e ∷ []) p (e ∷ [], refl)

  -- of two beginnings of one list the shorter begins the longer
  pub prefix_shorter : (xs ys zs : List A) → IsPrefix xs zs → IsPrefix ys zs → length xs ≤ length ys → IsPrefix xs ys
  prefix_shorter [] ys zs p q le = (ys, refl)
  prefix_shorter (x ∷ xs) [] zs p q le = absurd (omega arith)
  prefix_shorter (x ∷ xs) (y ∷ ys) [] p q le = absurd (cc (p.1))
  prefix_shorter (x ∷ xs) (y ∷ ys) (z ∷ zs) p q le =
      let heads : x ≡ y = cc (p.1, q.1) in
      let rest = prefix_shorter xs ys zs (p.0, cc (p.1)) (q.0, cc (q.1)) (omega arith) in
      (rest.0, cc (heads, rest.1))

  -- a beginning as long as the whole is the whole
  pub prefix_whole : (xs ys : List A) → IsPrefix xs ys → length ys ≤ length xs → xs ≡ ys
  prefix_whole [] [] p le = refl
  prefix_whole [] (y ∷ ys) p le = absurd (omega arith)
  prefix_whole (x ∷ xs) [] p le = absurd (cc (p.1))
  prefix_whole (x ∷ xs) (y ∷ ys) p le =
      let rest = prefix_whole xs ys (p.0, cc (p.1)) (omega arith) in cc (p.1, rest)

  pub prefix_length : (xs ys : List A) → IsPrefix xs ys → length xs ≤ length ys
  prefix_length xs ys p = omega (arith, sym (ap length p.1) ∙ length-append xs p.0)

  -- what stands in a beginning stands in the whole, at the same place
  pub prefix_get : (xs ys : List A) (k : ℕ) (x : A) → IsPrefix xs ys → slice_get xs k ≡ Some x → slice_get ys k ≡ Some x
  prefix_get [] ys k x p h = absurd cc
  prefix_get (y ∷ xs) [] k x p h = absurd (cc (p.1))
  prefix_get (y ∷ xs) (z ∷ ys) zero x p h = cc (p.1, h)
  prefix_get (y ∷ xs) (z ∷ ys) (suc k) x p h = prefix_get xs ys k x (p.0, cc (p.1)) h

  -- what stands in the whole, within a beginning, stands in the beginning
  pub prefix_within : (xs ys : List A) (k : ℕ) (x : A) → IsPrefix xs ys → k < length xs → slice_get ys k ≡ Some x → slice_get xs k ≡ Some x
  prefix_within [] ys k x p lt h = absurd (omega arith)
  prefix_within (y ∷ xs) [] k x p lt h = absurd (cc (p.1))
  prefix_within (y ∷ xs) (z ∷ ys) zero x p lt h = cc (p.1, h)
  prefix_within (y ∷ xs) (z ∷ ys) (suc k) x p lt h = prefix_within xs ys k x (p.0, cc (p.1)) (omega arith) h

  -- what stands in two lists joined stands in the first or the second
  pub get_joined : (xs ys : List A) (k : ℕ) (x : A) → slice_get (xs ++ ys) k ≡ Some x → (slice_get xs k ≡ Some x) ⊎ ((length xs ≤ k) × (slice_get ys (k - length xs) ≡ Some x))
  get_joined [] ys k x h = inr (omega arith, let e : k - 0 ≡ k = omega arith in ap (slice_get ys) e ∙ h)
  get_joined (y ∷ xs) ys zero x h = inl h
  get_joined (y ∷ xs) ys (suc k) x h = ⊎_elim (λ (a : slice_get xs k ≡ Some x). inl a)
      (λ (b : (length xs ≤ k) × (slice_get ys (k - length xs) ≡ Some x)). let le = b.0 in inr (omega arith, let e : suc k - suc (length xs) ≡ k - length xs = omega arith in ap (slice_get ys) e ∙ b.1)) (get_joined xs ys k x h)

  pub get_right : (xs ys : List A) (k : ℕ) (x : A) → slice_get ys k ≡ Some x → slice_get (xs ++ ys) (length xs + k) ≡ Some x
  get_right [] ys k x h = let e : 0 + k ≡ k = omega arith in ap (slice_get ys) e ∙ h
  get_right (y ∷ xs) ys k x h = let e : suc (length xs) + k ≡ suc (length xs + k) = omega arith in ap (slice_get (y ∷ (xs ++ ys))) e ∙ get_right xs ys k x h

  longer_left : (xs ys : List A) → length ys ≤ length xs → longer xs ys ≡ xs
  longer_left xs ys le = ap (λ (b : Bool). if b then xs else ys) (le-leb (length ys) (length xs) le)

  longer_right : (xs ys : List A) → length xs < length ys → longer xs ys ≡ ys
  longer_right xs ys lt = ap (λ (b : Bool). if b then xs else ys) (lt-leb (length ys) (length xs) lt)

  -- of two beginnings of one list, both begin the longer, which begins the list
  pub longer-begins : (xs ys zs : List A) → IsPrefix xs zs → IsPrefix ys zs → IsPrefix xs (longer xs ys) × IsPrefix ys (longer xs ys) × IsPrefix (longer xs ys) zs
  longer-begins xs ys zs p q = dite (dec_le (length ys) (length xs))
      (λ le. subst (λ (l : List A). IsPrefix xs l × IsPrefix ys l × IsPrefix l zs) (sym (longer_left xs ys le)) (prefix_self xs, prefix_shorter ys xs zs q p le, p))
      (λ no. let lt : length xs < length ys = omega arith in subst (λ (l : List A). IsPrefix xs l × IsPrefix ys l × IsPrefix l zs) (sym (longer_right xs ys lt)) (prefix_shorter xs ys zs p q (omega arith), prefix_self ys, q))

module _ {E : Type 0} (root : E → ℕ → ℕ) where
  pub no_root-begins : (seen new history : List E) (mine : List (ℕ × E)) → IsPrefix new history → NoRootPast root seen mine history → NoRootPast root seen mine new
  no_root-begins seen new history mine p none at e le h = none at e le (prefix_get new history at e p h)

  pub no_root-later : (seen later history : List E) (mine : List (ℕ × E)) → length seen ≤ length later → NoRootPast root seen mine history → NoRootPast root later mine history
  no_root-later seen later history mine le none at e le' h = none at e (omega arith) h

  pub no_root-whole : (history : List E) (mine : List (ℕ × E)) → NoRootPast root history mine history
  no_root-whole history mine at e le h = let lt = slice_get_within history at e h in absurd (omega arith)

  pub no_root-push : (seen history : List E) (mine : List (ℕ × E)) (e : E) → ¬ Stands (root e (length history + 1)) mine → NoRootPast root seen mine history → NoRootPast root seen mine (history ++ e ∷ [])
  no_root-push seen history mine e not none at x le h = ⊎_elim (λ (a : slice_get history at ≡ Some x). none at x le a)
      (λ (b : (length history ≤ at) × (slice_get (e ∷ []) (at - length history) ≡ Some x)).
      let lt = slice_get_within (e ∷ []) (at - length history) x b.1 in
      let here : at - length history ≡ 0 = omega arith in
      let same : e ≡ x = cc (ap (slice_get (e ∷ [])) (sym here) ∙ b.1) in
      let le' = b.0 in
      let number : length history ≡ at = omega arith in
      subst (λ (t : E × ℕ). ¬ Stands (root t.0 (t.1 + 1)) mine) (λ i. (same i, number i)) not) (get_joined history (e ∷ []) at x h)

zero_more : (n number : ℕ) → n ≡ number → number ≡ n + 0
zero_more n number e = omega arith

module _ {E : Type 0} where
  pub numbered-append : (n : ℕ) (xs ys : List E) → numbered n (xs ++ ys) ≡ numbered n xs ++ numbered (n + length xs) ys
  numbered-append n [] ys = let e : n ≡ n + 0 = omega arith in ap (λ (k : ℕ). numbered k ys) e
  numbered-append n (x ∷ xs) ys = let e : n + 1 + length xs ≡ n + suc (length xs) = omega arith in ap (λ (l : List (ℕ × E)). (n, x) ∷ l) (numbered-append (n + 1) xs ys ∙ ap (λ (k : ℕ). numbered (n + 1) xs ++ numbered k ys) e)

  drop_numbered : (n : ℕ) (xs : List E) (rest : List (ℕ × E)) → drop (length xs) (numbered n xs ++ rest) ≡ rest
  drop_numbered n [] rest = refl
  drop_numbered n (x ∷ xs) rest = drop_numbered (n + 1) xs rest

  -- what is new in a history that goes on
  pub new_since-more : (xs ys : List E) → new_since xs (xs ++ ys) ≡ numbered (1 + length xs) ys
  new_since-more xs ys = ap (drop (length xs)) (numbered-append 1 xs ys) ∙ drop_numbered 1 xs (numbered (1 + length xs) ys)

  pub numbered-get : (n : ℕ) (es : List E) (k number : ℕ) (e : E) → slice_get (numbered n es) k ≡ Some (number, e) → (number ≡ n + k) × (slice_get es k ≡ Some e)
  numbered-get n [] k number e h = absurd cc
  numbered-get n (x ∷ es) zero number e h = let p : (n, x) ≡ (number, e) = cc h in (zero_more n number (ap (λ (q : ℕ × E). q.0) p), ap (λ (q : ℕ × E). Some q.1) p)
  numbered-get n (x ∷ es) (suc k) number e h = let t = numbered-get (n + 1) es k number e h in let a = t.0 in (omega arith, t.1)

  pub numbered-Stands : (n i : ℕ) (es : List E) → i < length es → Stands (n + i) (numbered n es)
  numbered-Stands n i [] lt = absurd (omega arith)
  numbered-Stands n zero (x ∷ es) lt = inl (omega arith)
  numbered-Stands n (suc i) (x ∷ es) lt = let e : n + 1 + i ≡ n + suc i = omega arith in inr (subst (λ (m : ℕ). Stands m (numbered (n + 1) es)) e (numbered-Stands (n + 1) i es (omega arith)))
