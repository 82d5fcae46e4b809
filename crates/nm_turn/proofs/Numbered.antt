-- Entries by owner and number.
use Rattle.std.proofs.Common.{◌≡◌, ◌≢◌, ℕ, zero, suc, ◌+◌, ◌-◌, ◌<◌, ◌≤◌, ◌⊎◌, ◌==◌, if◌then◌else◌, nat_lt, Bool, true, false, List, [], ◌∷◌, ◌++◌, map, length, slice_get, Some, refl, sym, ap, ◌∙◌, subst, inl, inr, ⊎_elim, arith, eq-eqb, ne_eqb}
use mathlib.Core.List.{IsPrefix}
use mathlib.Core.Logic.{dite}
use native.Mathlib.Decide.{ℕ_discrete}
use Rattle.std.proofs.Math.Decide.{dec_lt}
use Rattle.std.proofs.lemmas.Bool.{lt-ltb, le-ltb}
use Rattle.nm_turn.specs.Numbered.{numbered, owned, inserted, merged, Stands, IsPicked}

-- the two cases of a test of owners
by_owner : (o j : ℕ) (P : Bool → Type 0) → (o ≡ j → P true) → (o ≢ j → P false) → P (o == j)
by_owner o j P same other = dite (ℕ_discrete o j) (λ e. subst P (sym (eq-eqb o j e)) (same e)) (λ ne. subst P (sym (ne_eqb o j ne)) (other ne))

-- the two cases of a test of numbers
pub by_number : (a b : ℕ) (P : Bool → Type 0) → (a < b → P true) → (b ≤ a → P false) → P (nat_lt a b)
by_number a b P less more = dite (dec_lt a b) (λ h. subst P (sym (lt-ltb a b h)) (less h)) (λ n. let h : b ≤ a = omega arith in subst P (sym (le-ltb a b h)) (more h))

-- what j owned goes to i
abbrev pub renamed : ℕ → ℕ → ℕ → ℕ
renamed i j o = if o == j then i else o

renamed_same : (i j o : ℕ) → o ≡ j → renamed i j o ≡ i
renamed_same i j o e = by_owner o j (λ b. (if b then i else o) ≡ i) (λ _. refl) (λ ne. absurd (ne e))

renamed_other : (i j o : ℕ) → o ≢ j → renamed i j o ≡ o
renamed_other i j o ne = by_owner o j (λ b. (if b then i else o) ≡ o) (λ e. absurd (ne e)) (λ _. refl)

module _ {E : Type 0} where
  owned-mine : (j n : ℕ) (o : ℕ) (os : List ℕ) (x : E) (es : List E) → o ≡ j → owned j n (o ∷ os) (x ∷ es) ≡ (n, x) ∷ owned j (n + 1) os es
  owned-mine j n o os x es e = let rest : List (ℕ × E) = owned j (n + 1) os es in let more : List (ℕ × E) = (n, x) ∷ rest in by_owner o j (λ b. (if b then more else rest) ≡ more) (λ _. refl) (λ ne. absurd (ne e))

  owned-else : (j n : ℕ) (o : ℕ) (os : List ℕ) (x : E) (es : List E) → o ≢ j → owned j n (o ∷ os) (x ∷ es) ≡ owned j (n + 1) os es
  owned-else j n o os x es ne = let rest : List (ℕ × E) = owned j (n + 1) os es in let more : List (ℕ × E) = (n, x) ∷ rest in by_owner o j (λ b. (if b then more else rest) ≡ rest) (λ e. absurd (ne e)) (λ _. refl)

  pub owned-push_mine : (j n : ℕ) (os : List ℕ) (es : List E) (e : E) → length os ≡ length es → owned j n (os ++ j ∷ []) (es ++ e ∷ []) ≡ owned j n os es ++ (n + length es, e) ∷ []
  owned-push_mine j n [] [] e same = owned-mine j n j [] e [] refl ∙ (let k : n ≡ n + 0 = omega arith in ap (λ (m : ℕ). (m, e) ∷ []) k)
  owned-push_mine j n [] (x ∷ es) e same = absurd (omega arith)
  owned-push_mine j n (o ∷ os) [] e same = absurd (omega arith)
  owned-push_mine j n (o ∷ os) (x ∷ es) e same =
      let k : n + 1 + length es ≡ n + suc (length es) = omega arith in
      let next : owned j (n + 1) (os ++ j ∷ []) (es ++ e ∷ []) ≡ owned j (n + 1) os es ++ (n + suc (length es), e) ∷ [] = owned-push_mine j (n + 1) os es e (omega arith) ∙ ap (λ (m : ℕ). owned j (n + 1) os es ++ (m, e) ∷ []) k in
      dite (ℕ_discrete o j)
      (λ q. owned-mine j n o (os ++ j ∷ []) x (es ++ e ∷ []) q ∙ (ap (λ (l : List (ℕ × E)). (n, x) ∷ l) next ∙ ap (λ (l : List (ℕ × E)). l ++ (n + suc (length es), e) ∷ []) (sym (owned-mine j n o os x es q))))
      (λ q. owned-else j n o (os ++ j ∷ []) x (es ++ e ∷ []) q ∙ (next ∙ ap (λ (l : List (ℕ × E)). l ++ (n + suc (length es), e) ∷ []) (sym (owned-else j n o os x es q))))

  pub owned-push_other : (j n : ℕ) (os : List ℕ) (es : List E) (o : ℕ) (e : E) → length os ≡ length es → o ≢ j → owned j n (os ++ o ∷ []) (es ++ e ∷ []) ≡ owned j n os es
  owned-push_other j n [] [] o e same ne = owned-else j n o [] e [] ne
  owned-push_other j n [] (x ∷ es) o e same ne = absurd (omega arith)
  owned-push_other j n (p ∷ os) [] o e same ne = absurd (omega arith)
  owned-push_other j n (p ∷ os) (x ∷ es) o e same ne =
      let next = owned-push_other j (n + 1) os es o e (omega arith) ne in
      dite (ℕ_discrete p j)
      (λ q. owned-mine j n p (os ++ o ∷ []) x (es ++ e ∷ []) q ∙ (ap (λ (l : List (ℕ × E)). (n, x) ∷ l) next ∙ sym (owned-mine j n p os x es q)))
      (λ q. owned-else j n p (os ++ o ∷ []) x (es ++ e ∷ []) q ∙ (next ∙ sym (owned-else j n p os x es q)))

  -- a view that came after all owners owns nothing
  pub owned-none : (j n : ℕ) (os : List ℕ) (es : List E) → ((i o : ℕ) → slice_get os i ≡ Some o → o < j) → owned j n os es ≡ []
  owned-none j n [] es all = refl
  owned-none j n (o ∷ os) [] all = refl
  owned-none j n (o ∷ os) (x ∷ es) all =
      let here : o < j = all 0 o refl in
      let next = owned-none j (n + 1) os es (λ i p at. all (suc i) p at) in
      by_owner o j (λ b. (if b then (n, x) ∷ owned j (n + 1) os es else owned j (n + 1) os es) ≡ []) (λ e. absurd (omega arith)) (λ _. next)

  pub Stands-append : (k : ℕ) (xs ys : List (ℕ × E)) → Stands k (xs ++ ys) → Stands k xs ⊎ Stands k ys
  Stands-append k [] ys s = inr s
  Stands-append k (x ∷ xs) ys s = ⊎_elim (λ (e : k ≡ x.0). inl (inl e)) (λ (r : Stands k (xs ++ ys)). ⊎_elim (λ (a : Stands k xs). inl (inr a)) (λ (b : Stands k ys). inr b) (Stands-append k xs ys r)) s

  pub Stands-left : (k : ℕ) (xs ys : List (ℕ × E)) → Stands k xs → Stands k (xs ++ ys)
  Stands-left k [] ys s = absurd s
  Stands-left k (x ∷ xs) ys s = ⊎_elim (λ (e : k ≡ x.0). inl e) (λ (r : Stands k xs). inr (Stands-left k xs ys r)) s

  pub Stands-right : (k : ℕ) (xs ys : List (ℕ × E)) → Stands k ys → Stands k (xs ++ ys)
  Stands-right k [] ys s = s
  Stands-right k (x ∷ xs) ys s = inr (Stands-right k xs ys s)

  -- the owner of a number among the owned
  pub Stands-owned : (k j n : ℕ) (os : List ℕ) (es : List E) → Stands k (owned j n os es) → (n ≤ k) × (k < n + length es) × (slice_get os (k - n) ≡ Some j)
  Stands-owned k j n [] es s = absurd s
  Stands-owned k j n (o ∷ os) [] s = absurd s
  Stands-owned k j n (o ∷ os) (x ∷ es) s =
      let Goal : Type 0 = (n ≤ k) × (k < n + suc (length es)) × (slice_get (o ∷ os) (k - n) ≡ Some j) in
      let later : Stands k (owned j (n + 1) os es) → Goal = λ r. let t = Stands-owned k j (n + 1) os es r in
      let le : n + 1 ≤ k = t.0 in let lt : k < n + 1 + length es = t.1 in
      let e : k - n ≡ suc (k - (n + 1)) = omega arith in (omega arith, omega arith, ap (slice_get (o ∷ os)) e ∙ t.2) in
      by_owner o j (λ b. Stands k (if b then (n, x) ∷ owned j (n + 1) os es else owned j (n + 1) os es) → Goal)
      (λ e. λ r. ⊎_elim (λ (h : k ≡ n). let z : k - n ≡ 0 = omega arith in (omega arith, omega arith, ap (slice_get (o ∷ os)) z ∙ ap Some e)) later r)
      (λ _. later) s

  pub owned-Stands : (j n i : ℕ) (os : List ℕ) (es : List E) → length os ≡ length es → slice_get os i ≡ Some j → Stands (n + i) (owned j n os es)
  owned-Stands j n i [] es same at = absurd cc
  owned-Stands j n i (o ∷ os) [] same at = absurd (omega arith)
  owned-Stands j n zero (o ∷ os) (x ∷ es) same at =
      let e : o ≡ j = cc at in let z : n + 0 ≡ n = omega arith in
      by_owner o j (λ b. Stands (n + 0) (if b then (n, x) ∷ owned j (n + 1) os es else owned j (n + 1) os es)) (λ _. inl z) (λ ne. absurd (ne e))
  owned-Stands j n (suc i) (o ∷ os) (x ∷ es) same at =
      let k : n + 1 + i ≡ n + suc i = omega arith in
      let next : Stands (n + suc i) (owned j (n + 1) os es) = subst (λ (m : ℕ). Stands m (owned j (n + 1) os es)) k (owned-Stands j (n + 1) i os es (omega arith) at) in
      by_owner o j (λ b. Stands (n + suc i) (if b then (n, x) ∷ owned j (n + 1) os es else owned j (n + 1) os es)) (λ _. inr next) (λ _. next)

  -- who owns every entry has them all
  pub owned-all : (j n : ℕ) (os : List ℕ) (es : List E) → length os ≡ length es → ((i o : ℕ) → slice_get os i ≡ Some o → o ≡ j) → owned j n os es ≡ numbered n es
  owned-all j n [] [] same all = refl
  owned-all j n [] (x ∷ es) same all = absurd (omega arith)
  owned-all j n (o ∷ os) [] same all = absurd (omega arith)
  owned-all j n (o ∷ os) (x ∷ es) same all =
      let e : o ≡ j = all 0 o refl in
      let next = owned-all j (n + 1) os es (omega arith) (λ i p at. all (suc i) p at) in
      by_owner o j (λ b. (if b then (n, x) ∷ owned j (n + 1) os es else owned j (n + 1) os es) ≡ (n, x) ∷ numbered (n + 1) es) (λ _. ap (λ (l : List (ℕ × E)). (n, x) ∷ l) next) (λ ne. absurd (ne e))

  Stands-inserted : (k : ℕ) (x : ℕ × E) (ys : List (ℕ × E)) → Stands k (inserted x ys) → (k ≡ x.0) ⊎ Stands k ys
  Stands-inserted k x [] s = ⊎_elim (λ (e : k ≡ x.0). inl e) (λ (r : ⊥). absurd r) s
  Stands-inserted k x (y ∷ ys) s =
      by_number x.0 y.0 (λ b. Stands k (if b then x ∷ y ∷ ys else y ∷ inserted x ys) → (k ≡ x.0) ⊎ Stands k (y ∷ ys))
      (λ _ r. r)
      (λ _ r. ⊎_elim (λ (e : k ≡ y.0). inr (inl e)) (λ (t : Stands k (inserted x ys)). ⊎_elim (λ (e : k ≡ x.0). inl e) (λ (u : Stands k ys). inr (inr u)) (Stands-inserted k x ys t)) r) s

  pub Stands-merged : (k : ℕ) (xs ys : List (ℕ × E)) → Stands k (merged xs ys) → Stands k xs ⊎ Stands k ys
  Stands-merged k [] ys s = inr s
  Stands-merged k (x ∷ xs) ys s = ⊎_elim (λ (e : k ≡ x.0). inl (inl e)) (λ (r : Stands k (merged xs ys)). ⊎_elim (λ (a : Stands k xs). inl (inr a)) (λ (b : Stands k ys). inr b) (Stands-merged k xs ys r)) (Stands-inserted k x (merged xs ys) s)

  inserted-Stands : (k : ℕ) (x : ℕ × E) (ys : List (ℕ × E)) → (k ≡ x.0) ⊎ Stands k ys → Stands k (inserted x ys)
  inserted-Stands k x [] s = s
  inserted-Stands k x (y ∷ ys) s =
      by_number x.0 y.0 (λ b. Stands k (if b then x ∷ y ∷ ys else y ∷ inserted x ys))
      (λ _. s)
      (λ _. ⊎_elim (λ (e : k ≡ x.0). inr (inserted-Stands k x ys (inl e))) (λ (r : Stands k (y ∷ ys)). ⊎_elim (λ (e : k ≡ y.0). inl e) (λ (t : Stands k ys). inr (inserted-Stands k x ys (inr t))) r) s)

  pub merged-Stands_left : (k : ℕ) (xs ys : List (ℕ × E)) → Stands k xs → Stands k (merged xs ys)
  merged-Stands_left k [] ys s = absurd s
  merged-Stands_left k (x ∷ xs) ys s = inserted-Stands k x (merged xs ys) (⊎_elim (λ (e : k ≡ x.0). inl e) (λ (r : Stands k xs). inr (merged-Stands_left k xs ys r)) s)

  pub merged-Stands_right : (k : ℕ) (xs ys : List (ℕ × E)) → Stands k ys → Stands k (merged xs ys)
  merged-Stands_right k [] ys s = s
  merged-Stands_right k (x ∷ xs) ys s = inserted-Stands k x (merged xs ys) (inr (merged-Stands_right k xs ys s))

  -- a number below all others goes to the front
  inserted-front : (x : ℕ × E) (ys : List (ℕ × E)) → ((k : ℕ) → Stands k ys → x.0 < k) → inserted x ys ≡ x ∷ ys
  inserted-front x [] low = refl
  inserted-front x (y ∷ ys) low =
      let lt = low y.0 (inl refl) in
      by_number x.0 y.0 (λ b. (if b then x ∷ y ∷ ys else y ∷ inserted x ys) ≡ x ∷ y ∷ ys) (λ _. refl) (λ ge. absurd (omega arith))

  merged-front : (xs : List (ℕ × E)) (y : ℕ × E) (ys : List (ℕ × E)) → ((k : ℕ) → Stands k xs → y.0 < k) → merged xs (y ∷ ys) ≡ y ∷ merged xs ys
  merged-front [] y ys low = refl
  merged-front (x ∷ xs) y ys low =
      let lt = low x.0 (inl refl) in
      let next = merged-front xs y ys (λ k s. low k (inr s)) in
      ap (inserted x) next ∙ by_number x.0 y.0 (λ b. (if b then x ∷ y ∷ merged xs ys else y ∷ inserted x (merged xs ys)) ≡ y ∷ inserted x (merged xs ys)) (λ less. absurd (omega arith)) (λ _. refl)

  later : (k j n : ℕ) (os : List ℕ) (es : List E) → Stands k (owned j (n + 1) os es) → n < k
  later k j n os es s = let t = (Stands-owned k j (n + 1) os es s).0 in omega arith

module _ {E : Type 0} where
  pub owned-renamed_both : (i j n : ℕ) (os : List ℕ) (es : List E) → i ≢ j → merged (owned i n os es) (owned j n os es) ≡ owned i n (map (renamed i j) os) es
  owned-renamed_both i j n [] es ne = refl
  owned-renamed_both i j n (o ∷ os) [] ne = refl
  owned-renamed_both i j n (o ∷ os) (x ∷ es) ne =
      let A : List (ℕ × E) = owned i (n + 1) os es in
      let B : List (ℕ × E) = owned j (n + 1) os es in
      let rest : List ℕ = map (renamed i j) os in
      let next : merged A B ≡ owned i (n + 1) rest es = owned-renamed_both i j (n + 1) os es ne in
      let low : (k : ℕ) → Stands k (merged A B) → n < k = λ k s. ⊎_elim (λ (a : Stands k A). later k i n os es a) (λ (b : Stands k B). later k j n os es b) (Stands-merged k A B s) in
      let here : merged A B ≡ owned i (n + 1) rest es → (n, x) ∷ merged A B ≡ (n, x) ∷ owned i (n + 1) rest es = λ e. ap (λ (l : List (ℕ × E)). (n, x) ∷ l) e in
      dite (ℕ_discrete o j)
      (λ q. ap (λ (l : List (ℕ × E)). merged l (owned j n (o ∷ os) (x ∷ es))) (owned-else i n o os x es (λ h. ne (sym h ∙ q)))
      ∙ (ap (merged A) (owned-mine j n o os x es q)
      ∙ (merged-front A (n, x) B (λ k s. later k i n os es s) ∙ (here next ∙ sym (owned-mine i n (renamed i j o) rest x es (renamed_same i j o q))))))
      (λ q. dite (ℕ_discrete o i)
      (λ p. ap (λ (l : List (ℕ × E)). merged l (owned j n (o ∷ os) (x ∷ es))) (owned-mine i n o os x es p)
      ∙ (ap (merged ((n, x) ∷ A)) (owned-else j n o os x es q)
      ∙ (inserted-front (n, x) (merged A B) low ∙ (here next ∙ sym (owned-mine i n (renamed i j o) rest x es (renamed_other i j o q ∙ p))))))
      (λ p. ap (λ (l : List (ℕ × E)). merged l (owned j n (o ∷ os) (x ∷ es))) (owned-else i n o os x es p)
      ∙ (ap (merged A) (owned-else j n o os x es q)
      ∙ (next ∙ sym (owned-else i n (renamed i j o) rest x es (λ h. p (sym (renamed_other i j o q) ∙ h)))))))

  pub owned-renamed_gone : (i j n : ℕ) (os : List ℕ) (es : List E) → i ≢ j → owned j n (map (renamed i j) os) es ≡ []
  owned-renamed_gone i j n [] es ne = refl
  owned-renamed_gone i j n (o ∷ os) [] ne = refl
  owned-renamed_gone i j n (o ∷ os) (x ∷ es) ne =
      let next = owned-renamed_gone i j (n + 1) os es ne in
      owned-else j n (renamed i j o) (map (renamed i j) os) x es (dite (ℕ_discrete o j) (λ e h. ne (sym (renamed_same i j o e) ∙ h)) (λ no h. no (sym (renamed_other i j o no) ∙ h))) ∙ next

  pub owned-renamed_other : (i j k n : ℕ) (os : List ℕ) (es : List E) → k ≢ i → k ≢ j → owned k n (map (renamed i j) os) es ≡ owned k n os es
  owned-renamed_other i j k n [] es ni nj = refl
  owned-renamed_other i j k n (o ∷ os) [] ni nj = refl
  owned-renamed_other i j k n (o ∷ os) (x ∷ es) ni nj =
      let rest : List ℕ = map (renamed i j) os in
      let next : owned k (n + 1) rest es ≡ owned k (n + 1) os es = owned-renamed_other i j k (n + 1) os es ni nj in
      dite (ℕ_discrete o j)
      (λ q. owned-else k n (renamed i j o) rest x es (λ h. ni (sym h ∙ renamed_same i j o q)) ∙ (next ∙ sym (owned-else k n o os x es (λ h. nj (sym h ∙ q)))))
      (λ q. dite (ℕ_discrete o k)
      (λ p. owned-mine k n (renamed i j o) rest x es (renamed_other i j o q ∙ p) ∙ (ap (λ (l : List (ℕ × E)). (n, x) ∷ l) next ∙ sym (owned-mine k n o os x es p)))
      (λ p. owned-else k n (renamed i j o) rest x es (λ h. p (sym (renamed_other i j o q) ∙ h)) ∙ (next ∙ sym (owned-else k n o os x es p))))

picked_none : {X : Type 0} (xs ys : List X) → ((x : X) (more : List X) → ¬ (xs ≡ x ∷ more)) → IsPicked xs ys
picked_none [] ys none = tt
picked_none (x ∷ xs) ys none = absurd (none x xs refl)

picked_skip : {X : Type 0} (xs : List X) (y : X) (ys : List X) → IsPicked xs ys → IsPicked xs (y ∷ ys)
picked_skip [] y ys p = tt
picked_skip (x ∷ xs) y ys p = inr p

module _ {E : Type 0} where
  -- what is owned stands among what was seen, where it goes no further
  pub owned-picked : (j n : ℕ) (os : List ℕ) (seen es : List E) → IsPrefix seen es → ((k : ℕ) → Stands k (owned j n os es) → k < n + length seen) → IsPicked (owned j n os es) (numbered n seen)
  owned-picked j n [] seen es p within = tt
  owned-picked j n (o ∷ os) seen [] p within = tt
  owned-picked j n (o ∷ os) [] (x ∷ es) p within = picked_none (owned j n (o ∷ os) (x ∷ es)) [] (λ y more e.
      let st : Stands y.0 (owned j n (o ∷ os) (x ∷ es)) = subst (Stands y.0) (sym e) (inl refl) in
      let low = (Stands-owned y.0 j n (o ∷ os) (x ∷ es) st).0 in
      let high = within y.0 st in omega arith)
  owned-picked j n (o ∷ os) (y ∷ seen) (x ∷ es) p within =
      let heads : y ≡ x = cc (p.1) in
      let rest : List (ℕ × E) = owned j (n + 1) os es in
      let later : (k : ℕ) → Stands k rest → Stands k (owned j n (o ∷ os) (x ∷ es)) = λ k st. dite (ℕ_discrete o j) (λ q. subst (Stands k) (sym (owned-mine j n o os x es q)) (inr st)) (λ q. subst (Stands k) (sym (owned-else j n o os x es q)) st) in
      let next : IsPicked rest (numbered (n + 1) seen) = owned-picked j (n + 1) os seen es (p.0, cc (p.1)) (λ k st. let t = within k (later k st) in omega arith) in
      dite (ℕ_discrete o j)
      (λ q. subst (λ (l : List (ℕ × E)). IsPicked l ((n, y) ∷ numbered (n + 1) seen)) (sym (owned-mine j n o os x es q)) (inl ((λ i. (n, sym heads i)), next)))
      (λ q. subst (λ (l : List (ℕ × E)). IsPicked l ((n, y) ∷ numbered (n + 1) seen)) (sym (owned-else j n o os x es q)) (picked_skip rest (n, y) (numbered (n + 1) seen) next))

-- the owner that an entry has then
pub renamed-below : (i j m : ℕ) (os : List ℕ) → i < m → ((k o : ℕ) → slice_get os k ≡ Some o → o < m) → (k o : ℕ) → slice_get (map (renamed i j) os) k ≡ Some o → o < m
renamed-below i j m [] lt all k o at = absurd cc
renamed-below i j m (p ∷ os) lt all zero o at =
    let e : renamed i j p ≡ o = cc at in
    dite (ℕ_discrete p j) (λ q. subst (λ (n : ℕ). n < m) (sym (renamed_same i j p q) ∙ e) lt) (λ q. subst (λ (n : ℕ). n < m) (sym (renamed_other i j p q) ∙ e) (all 0 p refl))
renamed-below i j m (p ∷ os) lt all (suc k) o at = renamed-below i j m os lt (λ n r h. all (suc n) r h) k o at
