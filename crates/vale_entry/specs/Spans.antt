-- Numbers as spans of neighbours.
use Rattle.std.specs.Prelude.{ℕ, ◌≡◌, ◌≤◌, ◌+◌, ◌-◌, ◌==◌, if◌then◌else◌, List, [], ◌∷◌, map, flat_map}
use Rattle.std.specs.List.{AllByRecursion, range_with_len}
use Rattle.vale_entry.specs.declared.entry.Span.{Span}

abbrev pub single_span : ℕ → Span
single_span n = record { first = n; last = n }

-- a number before spans: it lengthens the first one, if that begins with the number behind it
abbrev pub with_number : ℕ → List Span → List Span
with_number n [] = single_span n ∷ []
with_number n (span ∷ spans) =
    if span.first == n + 1 then record { first = n; last = span.last } ∷ spans
    else single_span n ∷ span ∷ spans

abbrev pub spans_of : List ℕ → List Span
spans_of [] = []
spans_of (n ∷ numbers) = with_number n (spans_of numbers)

-- the spans that a version of the transcript has: in the first one each number stands by itself
abbrev pub spans_in : ℕ → List ℕ → List Span
spans_in version numbers = if version == 1 then map single_span numbers else spans_of numbers

abbrev pub numbers_in : Span → List ℕ
numbers_in span = range_with_len span.first (span.last + 1 - span.first)

abbrev pub IsSpan : Span → Type 0
IsSpan span = span.first ≤ span.last

-- no span begins with the number behind the end of the one before it
abbrev pub AreApart : List Span → Type 0
AreApart [] = Unit {0}
AreApart (span ∷ []) = Unit {0}
AreApart (span ∷ next ∷ spans) = (next.first ≡ span.last + 1 → ⊥) × AreApart (next ∷ spans)

-- these numbers, one behind the other, in spans as long as they can be
pub record AreSpansOf (numbers : List ℕ) (spans : List Span) : Type 0 where
  pub numbers_are : flat_map numbers_in spans ≡ numbers
  pub rise : AllByRecursion IsSpan spans
  pub apart : AreApart spans
