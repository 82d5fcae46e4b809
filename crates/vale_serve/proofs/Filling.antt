-- A lease is filled with the frames that are wanted.
use Rattle.std.proofs.Common.{ℕ, zero, suc, ◌≡◌, ◌≤◌, ◌<◌, ◌+◌, List, [], ◌∷◌, ◌++◌, length, map, take, drop, slice_get, get_or, Option, Some, None, option_map, refl, sym, ◌∙◌, ap, arith}
use Rattle.std.specs.Prelude.{Vec}
use Rattle.std.specs.List.{AllByRecursion as Each, cons_option}
use Rattle.std.specs.declared.alloc.Global.{Global}
use Rattle.std.proofs.lemmas.List.{length-map}
use Rattle.std.proofs.lemmas.Option.{slice_get-get_or, slice_get-map}
use Rattle.nm_types.specs.Parts.{slots_of_bytes}
use Rattle.vale_entry.proofs.ListLaws.{each-at}
use Rattle.vale_line.specs.Leased.{first_size}
use Rattle.vale_serve.specs.Filling.{placed, IsPlaceIn}
use Rattle.nm_types.specs.Sendable.{IsFrameBytes}
use Rattle.vale_serve.specs.Users.{contents}

pub drop-next : (xs : List ℕ) (i : ℕ) → drop 1 (drop i xs) ≡ drop (i + 1) xs
drop-next [] zero = refl
drop-next [] (suc i) = let next : suc i + 1 ≡ suc (i + 1) = omega arith in ap (λ (n : ℕ). drop {A = ℕ} n []) (sym next)
drop-next (x ∷ xs) zero = refl
drop-next (x ∷ xs) (suc i) = let next : suc i + 1 ≡ suc (i + 1) = omega arith in drop-next xs i ∙ ap (λ (n : ℕ). drop n (x ∷ xs)) (sym next)

pub drop-all : (xs : List ℕ) (i : ℕ) → length xs ≤ i → drop i xs ≡ []
drop-all [] zero all = refl
drop-all [] (suc i) all = refl
drop-all (x ∷ xs) zero all = absurd (omega (arith, all))
drop-all (x ∷ xs) (suc i) all = drop-all xs i (omega (arith, all))

-- the frame at the place that is wanted next
pub placed-more : (frames : List (List ℕ)) (places : List ℕ) (i p : ℕ) (bytes : List ℕ) → slice_get places i ≡ Some p → slice_get frames p ≡ Some bytes
    → placed frames (take (i + 1) places) ≡ placed frames (take i places) ++ bytes ∷ []
placed-more frames [] i p bytes e f = absurd cc
placed-more frames (q ∷ qs) zero p bytes e f =
    let same : q ≡ p = cc in
    ap (λ (found : Option (List ℕ)). cons_option found []) (ap (slice_get frames) same ∙ f)
placed-more frames (q ∷ qs) (suc i) p bytes e f =
    let next : suc i + 1 ≡ suc (i + 1) = omega arith in
    ap (λ (n : ℕ). placed frames (take n (q ∷ qs))) next
    ∙ (ap (λ (rest : List (List ℕ)). cons_option (slice_get frames q) rest) (placed-more frames qs i p bytes e f)
    ∙ join (slice_get frames q) (placed frames (take i qs)) (bytes ∷ []))
  where
    join : (found : Option (List ℕ)) (xs ys : List (List ℕ)) → cons_option found (xs ++ ys) ≡ cons_option found xs ++ ys
    join None xs ys = refl
    join (Some x) xs ys = refl

there-at : (frames : List (List ℕ)) (q : ℕ) → q < length frames → (bytes : List ℕ) × (slice_get frames q ≡ Some bytes)
there-at [] q within = absurd (omega (arith, within))
there-at (f ∷ fs) zero within = (f, refl)
there-at (f ∷ fs) (suc q) within = there-at fs q (omega (arith, within))

-- it is the next of those that a lease is for
pub placed-at : (frames : List (List ℕ)) (places : List ℕ) (n i p : ℕ) (bytes : List ℕ) → Each (IsPlaceIn frames) places → i < n → slice_get places i ≡ Some p → slice_get frames p ≡ Some bytes
    → slice_get (placed frames (take n places)) i ≡ Some bytes
placed-at frames [] n i p bytes all below e f = absurd cc
placed-at frames (q ∷ qs) zero i p bytes all below e f = absurd (omega (arith, below))
placed-at frames (q ∷ qs) (suc n) zero p bytes all below e f =
    let same : q ≡ p = cc in
    ap (λ (found : Option (List ℕ)). slice_get (cons_option found (placed frames (take n qs))) 0) (ap (slice_get frames) same ∙ f)
placed-at frames (q ∷ qs) (suc n) (suc i) p bytes all below e f =
    let here = there-at frames q all.0 in
    ap (λ (found : Option (List ℕ)). slice_get (cons_option found (placed frames (take n qs))) (suc i)) here.1
    ∙ placed-at frames qs n i p bytes all.1 (omega (arith, below)) e f

-- and the size of it is the next one
pub size-at : (sizes : List ℕ) (fs : List (List ℕ)) (i : ℕ) (bytes : List ℕ) → sizes ≡ map slots_of_bytes fs → slice_get fs i ≡ Some bytes → slots_of_bytes bytes ≡ first_size (drop i sizes)
size-at sizes fs i bytes are at = by fs i at ∙ ap (λ (ns : List ℕ). first_size (drop i ns)) (sym are)
  where
    by : (fs : List (List ℕ)) (i : ℕ) → slice_get fs i ≡ Some bytes → slots_of_bytes bytes ≡ first_size (drop i (map slots_of_bytes fs))
    by [] i at = absurd cc
    by (f ∷ fs) zero at = let same : f ≡ bytes = cc in ap slots_of_bytes (sym same)
    by (f ∷ fs) (suc i) at = by fs i at

pub frame-at : (frames : List (Vec ℕ Global)) (p : ℕ) (frame : Vec ℕ Global) → p < length frames → frame ≡ get_or frames p frame → slice_get (contents frames) p ≡ Some frame.items
frame-at frames p frame inside is =
    let at : slice_get frames p ≡ Some frame = slice_get-get_or frames p frame inside ∙ ap (λ (v : Vec ℕ Global). Some v) (sym is) in
    slice_get-map (λ (v : Vec ℕ Global). v.items) frames p ∙ ap (option_map (λ (v : Vec ℕ Global). v.items)) at

-- the frame that is filled in next
pub record Next (frames : List (List ℕ)) (places : List ℕ) (n i : ℕ) (bytes : List ℕ) : Type 0 where
  pub p : ℕ
  pub place : slice_get places i ≡ Some p
  pub frame : slice_get frames p ≡ Some bytes
  pub is_for : slice_get (placed frames (take n places)) i ≡ Some bytes
  pub fits : IsFrameBytes bytes

pub next-frame : (frames : List (Vec ℕ Global)) (places : List ℕ) (n i : ℕ) (frame : Vec ℕ Global) (bytes : List ℕ) → i < n → n ≤ length places
    → Each (IsPlaceIn (contents frames)) places → Each IsFrameBytes (placed (contents frames) (take n places)) → frame ≡ get_or frames (get_or places i 0) frame → bytes ≡ frame.items
    → Next (contents frames) places n i bytes
next-frame frames places n i frame bytes below most all few is value =
    let p = get_or places i 0 in
    let place : slice_get places i ≡ Some p = slice_get-get_or places i 0 (omega (arith, below, most)) in
    let there = each-at (IsPlaceIn (contents frames)) places i p all place in
    let long = length-map frames (λ (v : Vec ℕ Global). v.items) in
    let at = frame-at frames p frame (omega (arith, there, long)) is in
    let found : slice_get (contents frames) p ≡ Some bytes = at ∙ ap (λ (b : List ℕ). Some b) (sym value) in
    let own = placed-at (contents frames) places n i p bytes all below place found in
    record { p = p; place = place; frame = found; is_for = own; fits = each-at IsFrameBytes (placed (contents frames) (take n places)) i bytes few own }
