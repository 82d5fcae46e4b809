-- The longest prefix of sizes that fits.
use Rattle.std.proofs.Common.{ℕ, zero, suc, ◌≡◌, ◌+◌, ◌-◌, ◌<◌, ◌≤◌, List, [], ◌∷◌, ◌++◌, length, take, drop, Some, None, inl, inr, refl, sym, ◌∙◌, ap, arith}
use Rattle.std.specs.Prelude.{nat_le, min, replicate, sum, All}
use Rattle.std.proofs.lemmas.Bool.{cases_Bool, leb-true, leb-false}
use Rattle.std.proofs.lemmas.List.{length-replicate, take-replicate}
use Rattle.std.proofs.lemmas.List.Folds.{sum_by-replicate}
use Rattle.std.proofs.lemmas.List.Elements.{All-head, All-tail}
use Rattle.std.proofs.lemmas.List.Sums.{sum_by-cons, sum_by_push}
use Rattle.vale_line.specs.Fitting.{IsFrameSize, fitting_sizes, first_fitting}

pub sum-cons : (n : ℕ) (ns : List ℕ) → sum (n ∷ ns) ≡ n + sum ns
sum-cons n ns = sum_by-cons (λ (k : ℕ). k) n ns

pub sum-push : (ns : List ℕ) (n : ℕ) → sum (ns ++ n ∷ []) ≡ sum ns + n
sum-push ns n = sum_by_push (λ (k : ℕ). k) ns n

-- the first size fits: it is given, and what fits behind it
pub record Fits (room size : ℕ) (sizes : List ℕ) : Type 0 where
  pub within : size ≤ room
  pub is_first : sizes ≡ size ∷ drop 1 sizes
  pub given : fitting_sizes room sizes ≡ size ∷ fitting_sizes (room - size) (drop 1 sizes)
  pub sum : sum sizes ≡ size + sum (drop 1 sizes)
  pub some : 1 ≤ length sizes
  pub is_size : All IsFrameSize sizes → IsFrameSize size
  pub rest : All IsFrameSize sizes → All IsFrameSize (drop 1 sizes)

pub first-fits : (room size : ℕ) (sizes : List ℕ) → first_fitting room sizes ≡ Some size → Fits room size sizes
first-fits room size [] is = absurd (let wrong : None ≡ Some size = is in cc)
first-fits room size (s ∷ ss) is = elim (cases_Bool (nat_le s room)) [
  | inl here ↦
      let told : Some s ≡ Some size = rw here at is in
      let same : s ≡ size = cc in
      let within : s ≤ room = leb-true s room here in
      let given : fitting_sizes room (s ∷ ss) ≡ s ∷ fitting_sizes (room - s) ss = rw here refl in
      record {
        within = omega (arith, within, same);
        is_first = ap (λ (n : ℕ). n ∷ ss) same;
        given = given ∙ ap (λ (n : ℕ). n ∷ fitting_sizes (room - n) ss) same;
        sum = sum-cons s ss ∙ ap (λ (n : ℕ). n + sum ss) same;
        some = omega arith;
        is_size = λ all. rw (← same) (All-head IsFrameSize s ss all);
        rest = λ all. All-tail IsFrameSize s ss all;
      }
  | inr other ↦ absurd (let wrong : None ≡ Some size = rw other at is in cc)
]

-- one more of the first
pub take-one : (sizes : List ℕ) (n size : ℕ) (rest : List ℕ) → drop n sizes ≡ size ∷ rest → (take (n + 1) sizes ≡ take n sizes ++ size ∷ []) × (drop (n + 1) sizes ≡ rest) × (n + 1 ≤ length sizes)
take-one [] zero size rest is = absurd (let wrong : [] ≡ size ∷ rest = is in cc)
take-one [] (suc n) size rest is = absurd (let wrong : [] ≡ size ∷ rest = is in cc)
take-one (s ∷ ss) zero size rest is = let first : s ≡ size = cc in let same : ss ≡ rest = cc in (ap (λ (k : ℕ). k ∷ []) first, same, omega arith)
take-one (s ∷ ss) (suc n) size rest is =
    let next : suc n + 1 ≡ suc (n + 1) = omega arith in
    let more = take-one ss n size rest is in
    let long = more.2 in
    (rw next (ap (λ (ns : List ℕ). s ∷ ns) more.0), rw next more.1, omega (arith, long))

pub none-fits : (room : ℕ) (sizes : List ℕ) → first_fitting room sizes ≡ None → fitting_sizes room sizes ≡ []
none-fits room [] is = refl
none-fits room (s ∷ ss) is = elim (cases_Bool (nat_le s room)) [
  | inl here ↦ absurd (let wrong : Some s ≡ None = rw here at is in cc)
  | inr other ↦ rw other refl
]

pub fitting-sum : (room : ℕ) (sizes : List ℕ) → sum (fitting_sizes room sizes) ≤ room
fitting-sum room [] = omega arith
fitting-sum room (s ∷ ss) = elim (cases_Bool (nat_le s room)) [
  | inl here ↦
      let within : s ≤ room = leb-true s room here in
      let rest = fitting-sum (room - s) ss in
      let all = sum-cons s (fitting_sizes (room - s) ss) in
      rw here (omega (arith, within, rest, all))
  | inr other ↦ rw other (omega arith)
]

pub fitting-total : (room : ℕ) (sizes : List ℕ) → sum (fitting_sizes room sizes) ≤ sum sizes
fitting-total room [] = omega arith
fitting-total room (s ∷ ss) = elim (cases_Bool (nat_le s room)) [
  | inl here ↦
      let rest = fitting-total (room - s) ss in
      let all = sum-cons s (fitting_sizes (room - s) ss) in
      let whole = sum-cons s ss in
      rw here (omega (arith, rest, all, whole))
  | inr other ↦ rw other (omega arith)
]

-- there are no more frames than slots
pub fitting-count : (room : ℕ) (sizes : List ℕ) → All IsFrameSize sizes → length (fitting_sizes room sizes) ≤ sum (fitting_sizes room sizes)
fitting-count room [] all = omega arith
fitting-count room (s ∷ ss) all = elim (cases_Bool (nat_le s room)) [
  | inl here ↦
      let some = (All-head IsFrameSize s ss all).0 in
      let rest = fitting-count (room - s) ss (All-tail IsFrameSize s ss all) in
      let whole = sum-cons s (fitting_sizes (room - s) ss) in
      rw here (omega (arith, some, rest, whole))
  | inr other ↦ rw other (omega arith)
]

-- sizes of one

abbrev pub ones_of : ℕ → List ℕ
ones_of n = replicate n 1

pub length-ones : (n : ℕ) → length (ones_of n) ≡ n
length-ones n = (let one : ℕ = 1 in length-replicate n one)

pub sum-ones : (n : ℕ) → sum (ones_of n) ≡ n
sum-ones n = (let all = sum_by-replicate (λ (k : ℕ). k) n 1 in omega (arith, all))

fitting-ones : (n room : ℕ) → fitting_sizes room (ones_of n) ≡ ones_of (min n room)
fitting-ones zero room = (let none : min 0 room ≡ 0 = omega arith in ap ones_of (sym none))
fitting-ones (suc n) room = elim (cases_Bool (nat_le 1 room)) [
  | inl here ↦
      let within : 1 ≤ room = leb-true 1 room here in
      let rest = fitting-ones n (room - 1) in
      let least : min (suc n) room ≡ suc (min n (room - 1)) = omega (arith, within) in
      rw here (ap (λ (ns : List ℕ). 1 ∷ ns) rest ∙ ap ones_of (sym least))
  | inr other ↦
      let less : room < 1 = leb-false 1 room other in
      let none : min (suc n) room ≡ 0 = omega (arith, less) in
      rw other (ap ones_of (sym none))
]

pub ones-taken : (n room : ℕ) → take (min n room) (ones_of n) ≡ fitting_sizes room (ones_of n)
ones-taken n room = take-replicate (min n room) n 1 (omega arith) ∙ sym (fitting-ones n room)

pub ones-fit : (n room : ℕ) → sum (fitting_sizes room (ones_of n)) ≡ min n room
ones-fit n room = ap sum (fitting-ones n room) ∙ sum-ones (min n room)

pub ruleset ones = (ones-taken, ones-fit)

pub ruleset told = (length-ones)

pub ruleset fitting = (none-fits, fitting-sum, fitting-total, fitting-count)
