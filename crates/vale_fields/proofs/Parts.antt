-- The items of a list, one after another.
use Rattle.std.specs.Borrow.{Bor}
use Rattle.std.specs.List.{range_with_len}
use Rattle.std.proofs.Common.{◌≡◌, ℕ, zero, suc, ◌+◌, ◌<◌, List, [], ◌∷◌, ◌++◌, length, take, get_or, map, flat_map, refl, sym, ap, ◌∙◌, arith, append_assoc}
use Rattle.std.proofs.lemmas.List.{append-nil}
use Rattle.std.proofs.lemmas.Grind.{flat_map-append}
use Rattle.vale_entry.specs.Spans.{numbers_in}
use Rattle.vale_entry.proofs.Spans.{range-more}
use Rattle.vale_fields.specs.Fields.{span_of}

-- the next item
pub parts_more : {X : Type 0} (f : List ℕ → X) (xs : List (Bor (List ℕ))) (i : ℕ) (d : Bor (List ℕ)) → i < length xs
    → map f (take (i + 1) (map (λ w. w.now) xs)) ≡ map f (take i (map (λ w. w.now) xs)) ++ f (get_or xs i d).now ∷ []
parts_more f [] i d inside = absurd (omega arith)
parts_more f (x ∷ xs) zero d inside = refl
parts_more f (x ∷ xs) (suc i) d inside =
    let next : suc i + 1 ≡ suc (i + 1) = omega arith in
    ap (λ (n : ℕ). map f (take n (x.now ∷ map (λ w. w.now) xs))) next ∙ ap (λ (t : List _). f x.now ∷ t) (parts_more f xs i d (omega arith))

pub ruleset parts = (parts_more)

-- the next span
pub spans_more : (xs : List (Bor (List ℕ))) (i : ℕ) (d : Bor (List ℕ)) → i < length xs
    → flat_map numbers_in (map span_of (take (i + 1) (map (λ w. w.now) xs)))
    ≡ flat_map numbers_in (map span_of (take i (map (λ w. w.now) xs))) ++ numbers_in (span_of (get_or xs i d).now)
spans_more xs i d inside =
    ap (flat_map numbers_in) (parts_more span_of xs i d inside)
    ∙ (flat_map-append numbers_in (map span_of (take i (map (λ w. w.now) xs))) (span_of (get_or xs i d).now ∷ [])
    ∙ ap (λ (t : List ℕ). flat_map numbers_in (map span_of (take i (map (λ w. w.now) xs))) ++ t) (append-nil (numbers_in (span_of (get_or xs i d).now))))

-- the next number of a span
pub range_pushed : (old now : List ℕ) (first count : ℕ) → now ≡ old ++ range_with_len first count → now ++ (first + count) ∷ [] ≡ old ++ range_with_len first (count + 1)
range_pushed old now first count e =
    ap (λ (t : List ℕ). t ++ (first + count) ∷ []) e
    ∙ (append_assoc old (range_with_len first count) ((first + count) ∷ [])
    ∙ ap (λ (t : List ℕ). old ++ t) (sym (range-more first count)))

pub ruleset spans = (spans_more)
