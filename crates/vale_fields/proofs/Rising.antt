-- Destinations that rise, seen one after another.
use Rattle.std.proofs.Common.{ℕ, zero, suc, ◌+◌, ◌-◌, ◌<◌, ◌≤◌, ◌≡◌, ◌&&◌, nat_lt, Bool, true, false, List, [], ◌∷◌, length, drop, get_or, refl, sym, ◌∙◌, ap, arith, length-drop}
use Rattle.std.proofs.lemmas.Bool.Decides.{nat_tests}
use Rattle.vale_entry.specs.declared.entry.Dest.{Dest}
use Rattle.vale_entry.specs.Transcript.{dests_rise}

-- two neighbours and the rest
dests-two : (ds : List Dest) (k : ℕ) (d : Dest) → k + 1 < length ds
    → dests_rise (drop k ds) ≡ (nat_lt (get_or ds k d).to.0 (get_or ds (k + 1) d).to.0 && dests_rise (drop (k + 1) ds))
dests-two [] k d inside = absurd (omega arith)
dests-two (x ∷ []) k d inside = absurd (omega arith)
dests-two (x ∷ y ∷ ds) zero d inside = refl
dests-two (x ∷ y ∷ ds) (suc k) d inside =
    let next : suc k + 1 ≡ suc (k + 1) = omega arith in
    dests-two (y ∷ ds) k d (omega arith) ∙ ap (λ (n : ℕ). nat_lt (get_or (y ∷ ds) k d).to.0 (get_or (x ∷ y ∷ ds) n d).to.0 && dests_rise (drop n (x ∷ y ∷ ds))) (sym next)

one-rises : (ds : List Dest) → length ds ≤ 1 → dests_rise ds ≡ true
one-rises [] few = refl
one-rises (x ∷ []) few = refl
one-rises (x ∷ y ∷ ds) few = absurd (omega (arith, few))

pub rise_end : (ds : List Dest) (i : ℕ) → length ds ≤ i → dests_rise ds ≡ dests_rise (drop (i - 1) ds) → dests_rise ds ≡ true
rise_end ds i past same = same ∙ one-rises (drop (i - 1) ds) (let size = length-drop (i - 1) ds in omega (arith, size, past))

before : (ds : List Dest) (i : ℕ) (d : Dest) → 0 < i → i < length ds → dests_rise (drop (i - 1) ds) ≡ (nat_lt (get_or ds (i - 1) d).to.0 (get_or ds i d).to.0 && dests_rise (drop i ds))
before ds i d some inside =
    let number : i - 1 + 1 ≡ i = omega (arith, some) in
    dests-two ds (i - 1) d (omega (arith, some, inside)) ∙ ap (λ (n : ℕ). nat_lt (get_or ds (i - 1) d).to.0 (get_or ds n d).to.0 && dests_rise (drop n ds)) number

pub rise_more : (ds : List Dest) (i : ℕ) (d : Dest) → 0 < i → i < length ds → (get_or ds (i - 1) d).to.0 < (get_or ds i d).to.0 → dests_rise (drop (i - 1) ds) ≡ dests_rise (drop (i + 1 - 1) ds)
rise_more ds i d some inside less =
    let test : nat_lt (get_or ds (i - 1) d).to.0 (get_or ds i d).to.0 ≡ true = grind (arith, nat_tests, less) in
    let number : i ≡ i + 1 - 1 = omega arith in
    before ds i d some inside ∙ ap (λ (b : Bool). b && dests_rise (drop i ds)) test ∙ ap (λ (n : ℕ). dests_rise (drop n ds)) number

pub rise_fails : (ds : List Dest) (i : ℕ) (d : Dest) → 0 < i → i < length ds → (get_or ds i d).to.0 ≤ (get_or ds (i - 1) d).to.0 → dests_rise (drop (i - 1) ds) ≡ false
rise_fails ds i d some inside least =
    let test : nat_lt (get_or ds (i - 1) d).to.0 (get_or ds i d).to.0 ≡ false = grind (arith, nat_tests, least) in
    before ds i d some inside ∙ ap (λ (b : Bool). b && dests_rise (drop i ds)) test

pub ruleset rising = (rise_more, rise_fails, rise_end)
