-- Numbers before and behind which all are 0: more of them lie in memory.
use Rattle.std.proofs.Common.{ℕ, zero, suc, ◌≡◌, ◌≤◌, ◌<◌, ◌+◌, ◌-◌, ◌%◌, ◌^◌, List, [], ◌∷◌, ◌++◌, inl, inr, length, take, drop, slice_set, get_or, refl, sym, ◌∙◌, ap, arith, append_assoc}
use Rattle.std.specs.Prelude.{slice_index}
use Rattle.std.proofs.lemmas.List.{length-append, length-replicate, length-set, replicate-append-replicate, set-append_left, set-append_right, get_or-append_right, get_or_append_left, get_or-replicate, get_or_past, drop_at, take_at, nil_from_length}
use Rattle.std.proofs.lemmas.Bool.{cases_lt}
use Rattle.nm_hold.specs.NumberTables.{among_zeros, zeros, IsPlace, Reaches}

long_zeros : (n : ℕ) → length (zeros n) ≡ n
long_zeros n = length-replicate {A = ℕ} n 0

joined : (m n k : ℕ) → m + n ≡ k → zeros m ++ zeros n ≡ zeros k
joined m n k h = replicate-append-replicate {A = ℕ} m n 0 ∙ ap (λ (l : ℕ). zeros l) h

-- none lies in memory
none_there : (first count : ℕ) → first ≤ count → among_zeros first count [] ≡ zeros count
none_there first count h = joined first (count - (first + 0)) count (omega arith)

-- more of them lie in memory, behind the others
long_behind : (more : ℕ) (numbers : List ℕ) → length (numbers ++ zeros more) ≡ length numbers + more
long_behind more numbers = length-append numbers (zeros more) ∙ ap (λ (n : ℕ). length numbers + n) (long_zeros more)

zeros_behind : (first count more : ℕ) (numbers : List ℕ) → first + (length numbers + more) ≤ count → among_zeros first count (numbers ++ zeros more) ≡ among_zeros first count numbers
zeros_behind first count more numbers h =
    ap (λ (n : ℕ). zeros first ++ ((numbers ++ zeros more) ++ zeros (count - (first + n)))) (long_behind more numbers)
    ∙ ap (λ (xs : List ℕ). zeros first ++ xs)
    (append_assoc numbers (zeros more) (zeros (count - (first + (length numbers + more))))
    ∙ ap (λ (xs : List ℕ). numbers ++ xs) (joined more (count - (first + (length numbers + more))) (count - (first + length numbers)) (omega (arith, h))))

-- more of them lie in memory, before the others
long_before : (more : ℕ) (numbers : List ℕ) → length (zeros more ++ numbers) ≡ more + length numbers
long_before more numbers = length-append (zeros more) numbers ∙ ap (λ (n : ℕ). n + length numbers) (long_zeros more)

zeros_before : (start more first count : ℕ) (numbers : List ℕ) → start + more ≡ first → among_zeros start count (zeros more ++ numbers) ≡ among_zeros first count numbers
zeros_before start more first count numbers h =
    let left : count - (start + length (zeros more ++ numbers)) ≡ count - (first + length numbers) = omega (arith, long_before more numbers, h) in
    ap (λ (n : ℕ). zeros start ++ ((zeros more ++ numbers) ++ zeros n)) left
    ∙ (ap (λ (xs : List ℕ). zeros start ++ xs) (append_assoc (zeros more) numbers (zeros (count - (first + length numbers))))
    ∙ (sym (append_assoc (zeros start) (zeros more) (numbers ++ zeros (count - (first + length numbers))))
    ∙ ap (λ (xs : List ℕ). xs ++ (numbers ++ zeros (count - (first + length numbers)))) (joined start more first h)))

pub reach_there : (idx first : ℕ) (numbers : List ℕ) → first ≤ idx → idx - first < length numbers → Reaches idx first numbers first numbers
reach_there idx first numbers begun there = record {
  begun = begun;
  there = omega (arith, begun, there);
  within = λ count below fits. fits;
  same = λ count below fits. refl;
}

pub reach_first : (idx first start : ℕ) (old new : List ℕ) → start ≤ idx → length old ≡ 0 → new ≡ old ++ zeros (idx + 1 - start) → Reaches idx first old start new
reach_first idx first start old new begun empty is =
    let none = nil_from_length old empty in
    let long : length new ≡ idx + 1 - start = omega (arith, ap length is ∙ long_behind (idx + 1 - start) old, empty) in
    record {
      begun = begun;
      there = omega (arith, long, begun);
      within = λ count below fits. omega (arith, long, begun, below);
      same = λ count below fits.
          ap (among_zeros start count) (is ∙ ap (λ (xs : List ℕ). xs ++ zeros (idx + 1 - start)) none)
          ∙ (zeros_behind start count (idx + 1 - start) [] (omega (arith, begun, below))
          ∙ (none_there start count (omega (arith, begun, below))
          ∙ (sym (none_there first count (omega (arith, fits, empty)))
          ∙ ap (among_zeros first count) (sym none))));
    }

pub reach_before : (idx first start : ℕ) (old was new : List ℕ) → start ≤ idx → idx < first → was ≡ old ++ zeros (first - start)
    → new ≡ drop (length was - (first - start)) was ++ take (length was - (first - start)) was → Reaches idx first old start new
reach_before idx first start old was new begun before is turned =
    let more = first - start in
    let spot : length old ≡ length was - more = omega (arith, ap length is ∙ long_behind more old) in
    let front : drop (length was - more) was ≡ zeros more = ap (drop (length was - more)) is ∙ drop_at old (zeros more) (length was - more) spot in
    let back : take (length was - more) was ≡ old = ap (take (length was - more)) is ∙ take_at old (zeros more) (length was - more) spot in
    let now : new ≡ zeros more ++ old = turned ∙ (ap (λ (xs : List ℕ). xs ++ take (length was - more) was) front ∙ ap (λ (xs : List ℕ). zeros more ++ xs) back) in
    let long : length new ≡ more + length old = ap length now ∙ long_before more old in
    record {
      begun = begun;
      there = omega (arith, long, begun, before);
      within = λ count below fits. omega (arith, long, begun, before, fits);
      same = λ count below fits. ap (among_zeros start count) now ∙ zeros_before start more first count old (omega (arith, begun, before));
    }

pub reach_behind : (idx first missing : ℕ) (old new : List ℕ) → first ≤ idx → missing ≡ idx + 1 - first - length old → new ≡ old ++ zeros missing → Reaches idx first old first new
reach_behind idx first missing old new begun few is =
    let long : length new ≡ length old + missing = ap length is ∙ long_behind missing old in
    record {
      begun = begun;
      there = omega (arith, long, begun, few);
      within = λ count below fits. omega (arith, long, begun, few, fits, below);
      same = λ count below fits. ap (among_zeros first count) is ∙ zeros_behind first count missing old (omega (arith, begun, few, fits, below));
    }

-- one that lies in memory is another
pub number_set : (first count idx number : ℕ) (numbers : List ℕ) → first ≤ idx → idx < first + length numbers → slice_set (among_zeros first count numbers) idx number ≡ among_zeros first count (slice_set numbers (idx - first) number)
number_set first count idx number numbers begun there =
    set-append_right (zeros first) (numbers ++ zeros (count - (first + length numbers))) first idx number (long_zeros first) begun
    ∙ ap (λ (xs : List ℕ). zeros first ++ xs)
    (set-append_left numbers (zeros (count - (first + length numbers))) (idx - first) number (omega (arith, begun, there))
    ∙ ap (λ (n : ℕ). slice_set numbers (idx - first) number ++ zeros (count - (first + n))) (sym (length-set numbers (idx - first) number)))

pub number_before : (first count idx : ℕ) (numbers : List ℕ) → idx < first → slice_index (among_zeros first count numbers) idx ≡ 0
number_before first count idx numbers h =
    get_or_append_left (zeros first) (numbers ++ zeros (count - (first + length numbers))) 0 idx (omega (arith, h, long_zeros first))
    ∙ get_or-replicate {A = ℕ} first idx 0 0 h

pub long_table : (first count : ℕ) (numbers : List ℕ) → first + length numbers ≤ count → length (among_zeros first count numbers) ≡ count
long_table first count numbers h =
    omega (arith, length-append (zeros first) (numbers ++ zeros (count - (first + length numbers))), long_zeros first, long_behind (count - (first + length numbers)) numbers, h)

pub start_before : (idx : ℕ) → idx - idx % 512 ≤ idx
start_before idx = omega arith

behind_zeros : (n i : ℕ) → get_or (zeros n) i 0 ≡ 0
behind_zeros zero i = refl
behind_zeros (suc n) zero = refl
behind_zeros (suc n) (suc i) = behind_zeros n i

behind_numbers : (numbers : List ℕ) (n i : ℕ) → get_or (numbers ++ zeros n) i 0 ≡ get_or numbers i 0
behind_numbers [] n i = behind_zeros n i
behind_numbers (x ∷ xs) n zero = refl
behind_numbers (x ∷ xs) n (suc i) = behind_numbers xs n i

-- an index that does not lie before them has the number at its place
pub number_at : (first count idx : ℕ) (numbers : List ℕ) → first ≤ idx → slice_index (among_zeros first count numbers) idx ≡ slice_index numbers (idx - first)
number_at first count idx numbers h =
    get_or-append_right (zeros first) (numbers ++ zeros (count - (first + length numbers))) first idx 0 (long_zeros first) h
    ∙ behind_numbers numbers (count - (first + length numbers)) (idx - first)

not_both : {X : Type 0} (n : ℕ) → n ≡ 0 → 0 < n → X
not_both n none some = absurd (omega (arith, none, some))

-- where the number of an index is not 0 it lies in memory
pub given_begun : (first count idx : ℕ) (numbers : List ℕ) → 0 < slice_index (among_zeros first count numbers) idx → first ≤ idx
given_begun first count idx numbers some = elim (cases_lt idx first) [
  | inl less ↦ not_both (slice_index (among_zeros first count numbers) idx) (number_before first count idx numbers less) some
  | inr more ↦ more
]

pub given_there : (first count idx : ℕ) (numbers : List ℕ) → 0 < slice_index (among_zeros first count numbers) idx → idx - first < length numbers
given_there first count idx numbers some = elim (cases_lt (idx - first) (length numbers)) [
  | inl less ↦ less
  | inr more ↦ not_both (slice_index (among_zeros first count numbers) idx) (number_at first count idx numbers (given_begun first count idx numbers some) ∙ get_or_past numbers (idx - first) 0 more) some
]

-- the number of an index is the one at its place, 0 if that lies behind them
pub number_placed : (first count idx place : ℕ) (numbers : List ℕ) → first + length numbers ≤ count → count < 2 ^ 64 → IsPlace first idx place → slice_index (among_zeros first count numbers) idx ≡ slice_index numbers place
number_placed first count idx place numbers within fits is = elim (cases_lt idx first) [
  | inl less ↦ (let far : 2 ^ 64 ≤ place + first = is.before less in
      number_before first count idx numbers less ∙ sym (get_or_past numbers place 0 (omega (arith, far, within, fits))))
  | inr more ↦ (let here : idx - first ≡ place = omega (arith, is.behind more) in
      number_at first count idx numbers more ∙ ap (slice_index numbers) here)
]

-- a place at which a number lies is that of an index which does not lie before them
pub placed_begun : (first count idx place : ℕ) (numbers : List ℕ) → first + length numbers ≤ count → count < 2 ^ 64 → IsPlace first idx place → place < length numbers → first ≤ idx
placed_begun first count idx place numbers within fits is there = elim (cases_lt idx first) [
  | inl less ↦ (let far : 2 ^ 64 ≤ place + first = is.before less in absurd (omega (arith, far, within, fits, there)))
  | inr more ↦ more
]
