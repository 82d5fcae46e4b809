-- For the tests: what the whole history is made of.
use Rattle.std.proofs.Common.{◌≡◌, ℕ, zero, suc, ◌+◌, ◌*◌, ◌<◌, nat_lt, if◌then◌else◌, List, [], ◌∷◌, ◌++◌, length, refl, sym, ap, ◌∙◌, arith, length-append}
use Rattle.nm_turn.specs.Numbered.{numbered, inserted, merged, values}
use Rattle.nm_turn.specs.Samples.{spread}
use Rattle.nm_turn.proofs.Numbered.{by_number}
use Rattle.nm_turn.proofs.Joining.{values-numbered}

module _ {E : Type 0} where
  -- two entries, the second later
  pub two_entries : (history : List E) (k l : ℕ) (x y : E) → k < l → merged ((k, x) ∷ []) ((l, y) ∷ []) ≡ numbered 1 history → history ≡ x ∷ y ∷ []
  two_entries history k l x y lt e =
      let a : List (ℕ × E) = (k, x) ∷ (l, y) ∷ [] in
      let b : List (ℕ × E) = (l, y) ∷ inserted (k, x) [] in
      let both : (if nat_lt k l then a else b) ≡ a = by_number k l (λ t. (if t then a else b) ≡ a) (λ _. refl) (λ ge. absurd (omega arith)) in
      sym (values-numbered 1 history) ∙ ap (λ (l : List (ℕ × E)). values l) (sym e ∙ both)

pub spread-none : (first : ℕ) → spread first 0 ≡ []
unfolding spread
spread-none first = refl

pub spread-more : (first count : ℕ) → spread first (count + 1) ≡ spread first count ++ (first + count * 2) ∷ []
unfolding spread
spread-more first count = let e : count + 1 ≡ suc count = omega arith in ap (spread first) e

pub length-spread : (first count : ℕ) → length (spread first count) ≡ count
unfolding spread
length-spread first zero = refl
length-spread first (suc count) = length-append (spread first count) ((first + count * 2) ∷ []) ∙ (let e = length-spread first count in omega arith)
