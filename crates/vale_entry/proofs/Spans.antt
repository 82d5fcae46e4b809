-- The spans of numbers have these numbers, and are as long as they can be.
use Rattle.std.specs.List.{AllByRecursion as Each, range_with_len}
use Rattle.std.proofs.Common.{ℕ, zero, suc, ◌+◌, ◌-◌, ◌≤◌, ◌≡◌, ◌==◌, Bool, true, false, if◌then◌else◌, List, [], ◌∷◌, ◌++◌, map, flat_map, refl, sym, ◌∙◌, ap, subst, arith}
use Rattle.std.proofs.lemmas.Bool.{eqb-true, eqb-false, eq-eqb, false_from_ne_true}
use Rattle.vale_entry.specs.declared.entry.Span.{Span}
use Rattle.vale_entry.specs.Spans.{single_span, with_number, spans_of, spans_in, numbers_in, IsSpan, AreApart, AreSpansOf}
use Rattle.vale_entry.proofs.Each.{each-map}
use Rattle.vale_entry.specs.Laws.{SpansAreOfNumbers, SpansTellNumbers}

-- One number before spans.

numbers-from : (first count : ℕ) (n : ℕ) → count ≡ suc n → range_with_len first count ≡ first ∷ range_with_len (first + 1) n
numbers-from first count n e = ap (range_with_len first) e

single-numbers : (n : ℕ) → numbers_in (single_span n) ≡ n ∷ []
single-numbers n = numbers-from n (n + 1 - n) 0 (omega arith)

longer-numbers : (n first last : ℕ) → first ≡ n + 1 → first ≤ last → range_with_len n (last + 1 - n) ≡ n ∷ range_with_len first (last + 1 - first)
longer-numbers n first last e rises =
    numbers-from n (last + 1 - n) (last + 1 - first) (omega (arith, e, rises))
    ∙ ap (λ (k : ℕ). n ∷ range_with_len k (last + 1 - first)) (omega (arith, e))

-- only where the first span ends counts for the others
apart-from : (first other last : ℕ) (rest : List Span) → AreApart (record { first = first; last = last } ∷ rest) → AreApart (record { first = other; last = last } ∷ rest)
apart-from first other last [] apart = tt
apart-from first other last (next ∷ rest) apart = apart

with-spans : (n : ℕ) (numbers : List ℕ) (spans : List Span) → AreSpansOf numbers spans → AreSpansOf (n ∷ numbers) (with_number n spans)
with-spans n numbers [] are = record {
  numbers_are = ap (λ (t : List ℕ). t ++ []) (single-numbers n) ∙ ap (λ (t : List ℕ). n ∷ t) are.numbers_are;
  rise = (omega arith, tt);
  apart = tt;
}
with-spans n numbers (span ∷ spans) are = by_test (span.first == n + 1) refl
  where
    by_test : (b : Bool) → (span.first == n + 1) ≡ b
        → AreSpansOf (n ∷ numbers) (if b then record { first = n; last = span.last } ∷ spans else single_span n ∷ span ∷ spans)
    by_test true is =
        let next : span.first ≡ n + 1 = eqb-true span.first (n + 1) is in
        record {
          numbers_are = ap (λ (t : List ℕ). t ++ flat_map numbers_in spans) (longer-numbers n span.first span.last next are.rise.0)
              ∙ ap (λ (t : List ℕ). n ∷ t) are.numbers_are;
          rise = (omega (arith, next, are.rise.0), are.rise.1);
          apart = apart-from span.first n span.last spans are.apart;
        }
    by_test false is = record {
      numbers_are = ap (λ (t : List ℕ). t ++ (numbers_in span ++ flat_map numbers_in spans)) (single-numbers n) ∙ ap (λ (t : List ℕ). n ∷ t) are.numbers_are;
      rise = (omega arith, are.rise);
      apart = (eqb-false span.first (n + 1) is, are.apart);
    }

spans-are : (numbers : List ℕ) → AreSpansOf numbers (spans_of numbers)
spans-are [] = record { numbers_are = refl; rise = tt; apart = tt }
spans-are (n ∷ numbers) = with-spans n numbers (spans_of numbers) (spans-are numbers)

-- There are no other spans like that.

alone : (n : ℕ) (rest : List Span) → AreApart (single_span n ∷ rest) → with_number n rest ≡ single_span n ∷ rest
alone n [] apart = refl
alone n (next ∷ rest) apart =
    let test : (next.first == n + 1) ≡ false = false_from_ne_true (next.first == n + 1) (λ e. apart.0 (eqb-true next.first (n + 1) e)) in
    ap (λ (b : Bool). if b then record { first = n; last = next.last } ∷ rest else single_span n ∷ next ∷ rest) test

joined : (n last : ℕ) (rest : List Span) → with_number n (record { first = n + 1; last = last } ∷ rest) ≡ record { first = n; last = last } ∷ rest
joined n last rest =
    ap (λ (b : Bool). if b then record { first = n; last = last } ∷ rest else single_span n ∷ record { first = n + 1; last = last } ∷ rest) (eq-eqb (n + 1) (n + 1) refl)

spans-of-range : (first count last : ℕ) (ns : List ℕ) (rest : List Span) → first + count ≡ last → spans_of ns ≡ rest → AreApart (record { first = first; last = last } ∷ rest)
    → spans_of (range_with_len first (suc count) ++ ns) ≡ record { first = first; last = last } ∷ rest
spans-of-range first zero last ns rest e is apart =
    let same : last ≡ first = omega (arith, e) in
    ap (with_number first) is
    ∙ alone first rest (subst (λ (k : ℕ). AreApart (record { first = first; last = k } ∷ rest)) same apart)
    ∙ ap (λ (k : ℕ). record { first = first; last = k } ∷ rest) (sym same)
spans-of-range first (suc count) last ns rest e is apart =
    let next : first + 1 + count ≡ last = omega (arith, e) in
    ap (with_number first) (spans-of-range (first + 1) count last ns rest next is (apart-from first (first + 1) last rest apart))
    ∙ joined first last rest

tail-apart : (span : Span) (spans : List Span) → AreApart (span ∷ spans) → AreApart spans
tail-apart span [] apart = tt
tail-apart span (next ∷ spans) apart = apart.1

spans-back : (spans : List Span) → Each IsSpan spans → AreApart spans → spans ≡ spans_of (flat_map numbers_in spans)
spans-back [] rise apart = refl
spans-back (span ∷ spans) rise apart =
    let count : span.last + 1 - span.first ≡ suc (span.last - span.first) = omega (arith, rise.0) in
    let end : span.first + (span.last - span.first) ≡ span.last = omega (arith, rise.0) in
    let rest = spans-back spans rise.1 (tail-apart span spans apart) in
    sym (ap (λ (k : ℕ). spans_of (range_with_len span.first k ++ flat_map numbers_in spans)) count
    ∙ spans-of-range span.first (span.last - span.first) span.last (flat_map numbers_in spans) spans end (sym rest) apart)

pub spans-alone : SpansAreOfNumbers
spans-alone numbers spans = (
  λ are. spans-back spans are.rise are.apart ∙ ap spans_of are.numbers_are,
  λ e. subst (AreSpansOf numbers) (sym e) (spans-are numbers),
)

-- the span before other numbers, if they do not go on where it ends
apart-before : (span : Span) (n : ℕ) (spans : List Span) → (n ≡ span.last + 1 → ⊥)
    → AreApart (with_number n spans) → AreApart (span ∷ with_number n spans)
apart-before span n [] other apart = (other, apart)
apart-before span n (next ∷ spans) other apart = by_test (next.first == n + 1) apart
  where
    by_test :
        (b : Bool)
        → AreApart (if b then record { first = n; last = next.last } ∷ spans else single_span n ∷ next ∷ spans)
        → AreApart (span ∷ (if b then record { first = n; last = next.last } ∷ spans else single_span n ∷ next ∷ spans))
    by_test true apart = (other, apart)
    by_test false apart = (other, apart)

pub spans-of-run :
    (first count last : ℕ) (ns : List ℕ) → first + count ≡ last
    → ((next : ℕ) (rest : List ℕ) → ns ≡ next ∷ rest → next ≡ last + 1 → ⊥)
    → spans_of (range_with_len first (suc count) ++ ns) ≡ record { first = first; last = last } ∷ spans_of ns
spans-of-run first count last ns e stops =
    spans-of-range first count last ns (spans_of ns) e refl (apart ns stops)
  where
    apart :
        (ns : List ℕ) → ((next : ℕ) (rest : List ℕ) → ns ≡ next ∷ rest → next ≡ last + 1 → ⊥)
        → AreApart (record { first = first; last = last } ∷ spans_of ns)
    apart [] stops = tt
    apart (n ∷ ns) stops =
        apart-before (record { first = first; last = last }) n (spans_of ns) (stops n ns refl)
        (spans-are (n ∷ ns)).apart

-- the next number of a span
pub range-more :
    (first count : ℕ)
    → range_with_len first (count + 1) ≡ range_with_len first count ++ (first + count) ∷ []
range-more first zero = ap (λ (n : ℕ). n ∷ []) (omega arith)
range-more first (suc count) =
    let next : suc count + 1 ≡ suc (count + 1) = omega arith in
    let end : first + 1 + count ≡ first + suc count = omega arith in
    ap (range_with_len first) next
    ∙ ap (λ (t : List ℕ). first ∷ t) (range-more (first + 1) count ∙ ap (λ (n : ℕ). range_with_len (first + 1) count ++ n ∷ []) end)

-- A version's spans tell the numbers.

singles-tell : (numbers : List ℕ) → flat_map numbers_in (map single_span numbers) ≡ numbers
singles-tell [] = refl
singles-tell (n ∷ numbers) =
    ap (λ (t : List ℕ). t ++ flat_map numbers_in (map single_span numbers)) (single-numbers n)
    ∙ ap (λ (t : List ℕ). n ∷ t) (singles-tell numbers)

pub spans-tell : SpansTellNumbers
spans-tell version numbers = by_version (version == 1)
  where
    by_version : (b : Bool) → flat_map numbers_in (if b then map single_span numbers else spans_of numbers) ≡ numbers
    by_version true = singles-tell numbers
    by_version false = (spans-are numbers).numbers_are

singles-rise : (numbers : List ℕ) → Each IsSpan (map single_span numbers)
singles-rise [] = tt
singles-rise (n ∷ numbers) = (omega arith, singles-rise numbers)

pub spans-rise : (version : ℕ) (numbers : List ℕ) → Each IsSpan (spans_in version numbers)
spans-rise version numbers = by_version (version == 1)
  where
    by_version : (b : Bool) → Each IsSpan (if b then map single_span numbers else spans_of numbers)
    by_version true = singles-rise numbers
    by_version false = (spans-are numbers).rise

-- What holds of each number holds of a span's first and last.

abbrev pub EndsAre : (ℕ → Type 0) → Span → Type 0
EndsAre P span = P span.first × P span.last

with-ends : (P : ℕ → Type 0) (n : ℕ) (spans : List Span) → P n → Each (EndsAre P) spans → Each (EndsAre P) (with_number n spans)
with-ends P n [] here all = ((here, here), tt)
with-ends P n (span ∷ spans) here all = by_test (span.first == n + 1)
  where
    by_test : (b : Bool) → Each (EndsAre P) (if b then record { first = n; last = span.last } ∷ spans else single_span n ∷ span ∷ spans)
    by_test true = ((here, all.0.1), all.1)
    by_test false = ((here, here), all)

spans-ends : (P : ℕ → Type 0) (numbers : List ℕ) → Each P numbers → Each (EndsAre P) (spans_of numbers)
spans-ends P [] all = tt
spans-ends P (n ∷ numbers) all = with-ends P n (spans_of numbers) all.0 (spans-ends P numbers all.1)

pub ends-are : (P : ℕ → Type 0) (version : ℕ) (numbers : List ℕ) → Each P numbers → Each (EndsAre P) (spans_in version numbers)
ends-are P version numbers all = by_version (version == 1)
  where
    by_version : (b : Bool) → Each (EndsAre P) (if b then map single_span numbers else spans_of numbers)
    by_version true = each-map P (EndsAre P) single_span (λ n here. (here, here)) numbers all
    by_version false = spans-ends P numbers all
