use Rattle.std.proofs.Common.{◌≡◌, ◌+◌, ◌++◌, ◌∷◌, [], ℕ, zero, suc, List, length, ap, sym, ◌∙◌, arith}
use Rattle.std.specs.List.{range_with_len}
use Rattle.std.proofs.lemmas.List.FromFn.{length-range_with_len}
use Rattle.vale_batch.proofs.sole.places.Goals as goal

-- one number more stands behind the others
counted-more : (a n : ℕ) → range_with_len a (suc n) ≡ range_with_len a n ++ (a + n) ∷ []
counted-more a zero = (let here : a ≡ a + 0 = omega arith in ap (λ (k : ℕ). k ∷ []) here)
counted-more a (suc n) =
    let there : a + 1 + n ≡ a + suc n = omega arith in
    ap (λ (ns : List ℕ). a ∷ ns) (counted-more (a + 1) n ∙ ap (λ (k : ℕ). range_with_len (a + 1) n ++ k ∷ []) there)

counted : (n : ℕ) → range_with_len 0 (n + 1) ≡ range_with_len 0 n ++ n ∷ []
counted n = (let more : n + 1 ≡ suc n = omega arith in
    let last : 0 + n ≡ n = omega arith in
    ap (range_with_len 0) more ∙ (counted-more 0 n ∙ ap (λ (k : ℕ). range_with_len 0 n ++ k ∷ []) last))

pub push_reserved-requires : goal.push_reserved-requires
push_reserved-requires c =
    let count : length c.loop-place.all.items ≡ c.loop-place.place = ap (λ (ns : List ℕ). length ns) c.loop-place.invariant.0 ∙ length-range_with_len 0 c.loop-place.place in
    omega (arith, count, c.loop-place.invariant.1, c.loop-place-test.true)

pub loop-place-preserved : goal.loop-place-preserved
loop-place-preserved c =
    let pushed : c.push_reserved.new.self.items ≡ c.loop-place.all.items ++ c.loop-place.place ∷ [] = c.push_reserved.ensures.items in (
      pushed ∙ (ap (λ (ns : List ℕ). ns ++ c.loop-place.place ∷ []) c.loop-place.invariant.0 ∙ sym (counted c.loop-place.place)),
      omega (arith, c.push_reserved.ensures.capacity, c.loop-place.invariant.1),
    )
