-- The first of a list are moved, one after another.
use Rattle.std.proofs.Common.{ℕ, zero, suc, ◌≡◌, ◌+◌, List, [], ◌∷◌, ◌++◌, take, drop, ◌∙◌, ap, arith}
use Rattle.std.specs.Prelude.{reverse}
use Rattle.std.proofs.lemmas.List.{reverse-append}

-- what is left, one less
pub record Next {X : Type 0} (xs : List X) (n : ℕ) (x : X) (left : List X) : Type 0 where
  pub front : take (n + 1) xs ≡ take n xs ++ x ∷ []
  pub behind : left ≡ drop (n + 1) xs

pub next-moved : {X : Type 0} (xs : List X) (n : ℕ) (x : X) (left : List X) → drop n xs ≡ x ∷ left → Next xs n x left
next-moved [] zero x left e = absurd (let wrong : [] ≡ x ∷ left = e in cc)
next-moved [] (suc n) x left e = absurd (let wrong : [] ≡ x ∷ left = e in cc)
next-moved (y ∷ ys) zero x left e =
    let same : y ≡ x = cc in
    let rest : left ≡ ys = cc in
    record { front = ap (λ z. z ∷ []) same; behind = rest }
next-moved (y ∷ ys) (suc n) x left e =
    let next : suc n + 1 ≡ suc (n + 1) = omega arith in
    let more = next-moved ys n x left e in
    record { front = rw next (ap (λ zs. y ∷ zs) more.front); behind = rw next more.behind }

pub popped : {X : Type 0} (old new : List X) (x : X) → old ≡ new ++ x ∷ [] → reverse old ≡ x ∷ reverse new
popped old new x is = ap reverse is ∙ reverse-append new (x ∷ [])

pub ruleset moved = (popped)
