-- The two sides of a run.
use Rattle.std.proofs.Common.{◌≡◌, ℕ, ◌+◌, ◌-◌, ◌^◌, ◌<◌, ◌≤◌, ◌⊎◌, List, [], ◌++◌, inl, inr, length, take, drop, ap, sym, ◌∙◌, arith, length-append, append-nil}
use Rattle.std.proofs.Math.Seq.{take-append_seam, drop-append_seam}
use Rattle.std.proofs.lemmas.List.{take_all, drop_all}
use Rattle.nm_reach.proofs.Lists.{none}
use denote.RawPtr.{Ptr}
use Rattle.nm_reach.specs.Fields.{Run}
use Rattle.nm_reach.specs.Sides.{values_of, IsOneRun, IsRound, IsRun}
use Rattle.nm_reach.specs.declared.sides.Sides.{Sides}

within_of : (size start m n : ℕ) → IsOneRun size start m n → m + n ≤ size
within_of size start m n (inl e) = omega (arith, e.0, e.1)
within_of size start m n (inr e) = omega (arith, e.0, e.1)

module _ {T : Type 0} {base : Ptr} {size start : ℕ} (s : Sides T) (r : IsRound base size start s) where
  pub run_within : length (values_of s) ≤ size
  run_within = omega (arith, within_of size start (length s.front.values) (length s.back.values) r.one, length-append s.front.values s.back.values)

-- a run in a field of few cells has few
pub run_few : {T : Type 0} {base : Ptr} {size start : ℕ} (s : Sides T) → IsRound base size start s → {values : List T} → values_of s ≡ values
    → (k : ℕ) → k ≡ size → k < 2 ^ 32 → length values < 2 ^ 32
run_few s r are k same few = omega (arith, run_within s r, ap length are, same, few)

past_front : (size start m n k room len : ℕ) → IsOneRun size start m n → start < size → room ≡ size - start → k ≤ m + n → room ≤ k → len ≡ m → k ≡ m + (k - len)
past_front size start m n k room len (inl e) w r h l same = omega (arith, e.0, e.1, w, r, h, l, same)
past_front size start m n k room len (inr e) w r h l same = omega (arith, e.0, e.1, w, r, h, l, same)

-- a place that is not before the end of the field is not in front
pub after_front : {T : Type 0} (s : Sides T) → IsRun s → (k room : ℕ) → room ≡ s.front.size - s.front.start → k ≤ length (values_of s) → room ≤ k
    → (len : ℕ) → len ≡ length s.front.values → k ≡ length s.front.values + (k - len)
after_front s r k room e h l len same =
    let m = length s.front.values in
    let n = length s.back.values in
    let h' : k ≤ m + n = omega (arith, h, length-append s.front.values s.back.values) in
    past_front s.front.size s.front.start m n k room len r.one r.within e h' l same

-- a run of these sides, with other values in its cells
abbrev pub run_with : {T : Type 0} → Sides T → ℕ → ℕ → List T → Run T
run_with s size start values = record { field = s.front.field; size = size; start = start; values = values }

-- the values of a run up to the end of the field, and those behind it
pub record Halves {T : Type 0} (s : Sides T) (k : ℕ) : Type 0 where
  pub front : take k (values_of s) ≡ s.front.values
  pub back : drop k (values_of s) ≡ s.back.values

pub halves : {T : Type 0} {base : Ptr} {size start : ℕ} (s : Sides T) → IsRound base size start s → Halves s (size - start)
halves {T = T} {size = size} {start = start} s r = by r.one
  where
    by : ((length s.back.values ≡ 0) × (start + length s.front.values ≤ size)) ⊎ ((start + length s.front.values ≡ size) × (length s.back.values ≤ start)) → Halves s (size - start)
    by (inl e) =
        let k = size - start in
        let empty : s.back.values ≡ [] = none s.back.values e.0 in
        let alone : values_of s ≡ s.front.values = ap (λ vs. s.front.values ++ vs) empty ∙ append-nil s.front.values in
        let fits = e.1 in
        let few : length s.front.values ≤ k = omega (arith, fits) in
        record {
          front = ap (take k) alone ∙ take_all k s.front.values few;
          back = ap (drop k) alone ∙ (drop_all k s.front.values few ∙ sym empty);
        }
    by (inr e) =
        let full = e.0 in
        let same : size - start ≡ length s.front.values = omega (arith, full) in
        record {
          front = ap (λ k. take k (values_of s)) same ∙ take-append_seam s.front.values s.back.values;
          back = ap (λ k. drop k (values_of s)) same ∙ drop-append_seam s.front.values s.back.values;
        }
