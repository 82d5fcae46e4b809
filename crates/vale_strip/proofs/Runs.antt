-- The numbers at the front of a list that follow one another are its first span.
use Rattle.std.specs.List.{range_with_len}
use Rattle.std.proofs.Common.{ℕ, zero, suc, ◌+◌, ◌-◌, ◌<◌, ◌≡◌, ◌==◌, Bool, false, if◌then◌else◌, List, [], ◌∷◌, ◌++◌, length, map, take, drop, get_or, refl, sym, ap, ◌∙◌, arith, take-append-drop, subst, length-drop, get_or-drop}
use Rattle.std.proofs.lemmas.Bool.{eqb-true, false_from_ne_true}
use Rattle.std.proofs.lemmas.List.{take_more}
use Rattle.std.proofs.lemmas.List.FromFn.{get_or-range_with_len}
use Rattle.vale_entry.specs.Spans.{single_span, spans_of, spans_in}
use Rattle.vale_entry.proofs.Spans.{spans-of-run, range-more}
use Rattle.vale_strip.specs.Spans.{IsRun}

-- one number more
pub run-more : (ns : List ℕ) (first len d : ℕ) → len < length ns → get_or ns len d ≡ first + len → take len ns ≡ range_with_len first len → take (len + 1) ns ≡ range_with_len first (len + 1)
run-more ns first len d inside is run =
    take_more ns len d inside ∙ (ap (λ (t : List ℕ). t ++ get_or ns len d ∷ []) run ∙ (ap (λ (k : ℕ). range_with_len first len ++ k ∷ []) is ∙ sym (range-more first len)))

-- the last number of a run
pub run-last : (ns : List ℕ) (first len d : ℕ) → IsRun ns first len → get_or ns (len - 1) d ≡ first + (len - 1)
run-last ns first len d r =
    let inside : len - 1 < len = omega (arith, r.some) in
    sym (get_or-take ns len (len - 1) d inside) ∙ (ap (λ (t : List ℕ). get_or t (len - 1) d) r.run ∙ get_or-range_with_len first len (len - 1) d inside)
  where
    get_or-take : (ns : List ℕ) (len k d : ℕ) → k < len → get_or (take len ns) k d ≡ get_or ns k d
    get_or-take ns zero k d inside = absurd (omega arith)
    get_or-take [] (suc len) k d inside = refl
    get_or-take (n ∷ ns) (suc len) zero d inside = refl
    get_or-take (n ∷ ns) (suc len) (suc k) d inside = get_or-take ns len k d (omega arith)

-- a run is the first span
pub run-span : (ns : List ℕ) (first len last : ℕ) → IsRun ns first len → last ≡ first + (len - 1) → spans_of ns ≡ record { first = first; last = last } ∷ spans_of (drop len ns)
run-span ns first len last r is =
    let count : len ≡ suc (len - 1) = omega (arith, r.some) in
    let behind : last + 1 ≡ first + len = omega (arith, is, r.some) in
    ap spans_of (sym (take-append-drop len ns) ∙ ap (λ (t : List ℕ). t ++ drop len ns) (r.run ∙ ap (range_with_len first) count))
    ∙ spans-of-run first (len - 1) last (drop len ns) (sym is) (λ next rest e same. r.stops next rest e (same ∙ behind))

-- a run is the first span of a version that has spans
pub first-of-run : (version : ℕ) (ns : List ℕ) (first len last : ℕ) → (version ≡ 1 → ⊥) → IsRun ns first len → last ≡ first + (len - 1)
    → spans_in version ns ≡ record { first = first; last = last } ∷ spans_in version (drop len ns)
first-of-run version ns first len last apart r end =
    let is : (version == 1) ≡ false = false_from_ne_true (version == 1) (λ e. apart (eqb-true version 1 e)) in
    ap (λ (b : Bool). if b then map single_span ns else spans_of ns) is
    ∙ (run-span ns first len last r end
    ∙ sym (ap (λ (b : Bool). record { first = first; last = last } ∷ (if b then map single_span (drop len ns) else spans_of (drop len ns))) is))

-- a number that has not its neighbour behind it
pub alone-first : (n : ℕ) (ns : List ℕ) → (get_or ns 0 0 ≡ n + 1 → ⊥) → spans_in 2 (n ∷ ns) ≡ single_span n ∷ spans_in 2 ns
alone-first n ns alone =
    first-of-run 2 (n ∷ ns) n 1 n (λ is. absurd cc) run (omega arith)
  where
    run : IsRun (n ∷ ns) n 1
    run = record {
      some = omega arith;
      within = omega arith;
      run = refl;
      stops = λ next rest is same. alone (ap (λ (t : List ℕ). get_or t 0 0) is ∙ same);
    }

-- the same from the k-th number on
pub run-on : (ns : List ℕ) (k first end : ℕ) → end < length ns → k < end → get_or ns end 0 ≡ first + (end - k) → take (end - k) (drop k ns) ≡ range_with_len first (end - k)
    → take (end + 1 - k) (drop k ns) ≡ range_with_len first (end + 1 - k)
run-on ns k first end inside after is run =
    let count : end - k + 1 ≡ end + 1 - k = omega (arith, after) in
    let there : k + (end - k) ≡ end = omega (arith, after) in
    subst (λ (n : ℕ). take n (drop k ns) ≡ range_with_len first n) count
    (run-more (drop k ns) first (end - k) 0 (omega (arith, length-drop k ns, inside, after))
    (get_or-drop k ns (end - k) 0 ∙ (ap (λ (j : ℕ). get_or ns j 0) there ∙ is)) run)
