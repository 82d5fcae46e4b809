-- Sums over the lines of a script, one line after another, and that they are few.
use Rattle.std.proofs.Common.{ℕ, ◌+◌, ◌≤◌, ◌≡◌, List, [], ◌∷◌, ◌++◌, map, take, drop, flat_map, sum_by, Some, slice_get, sym, ◌∙◌, ap, arith, ◌<◌, ◌^◌, length, get_or, refl, subst}
use Rattle.std.proofs.lemmas.Grind.{flat_map-append}
use Rattle.std.proofs.lemmas.List.{take-append-drop, map-append, append-nil}
use Rattle.std.proofs.lemmas.List.Sums.{sum_by-append, sum_by-cons}
use Rattle.vale_script.specs.declared.script.Act.{Act}
use Rattle.vale_script.specs.declared.script.Act.TheVariants as acts
use Rattle.vale_script.specs.Script.{Program}
use Rattle.vale_replay.specs.Saved.{acts_of_unit}
use Rattle.vale_captures.specs.Counting.{frames_by, frames_played}
use Rattle.vale_captures.specs.Inputs.{InputFile}
use Rattle.vale_captures.proofs.Pages.{taken-next}
use Rattle.std.proofs.lemmas.Option.{slice_get_read}

module _ {X A : Type 0} (g : X → List A) (f : A → ℕ) where
  pub flat-next : (xs : List X) (k : ℕ) (x : X) → slice_get xs k ≡ Some x → sum_by f (flat_map g (take (k + 1) xs)) ≡ sum_by f (flat_map g (take k xs)) + sum_by f (g x)
  flat-next xs k x there =
      ap (λ (ys : List X). sum_by f (flat_map g ys)) (taken-next xs k x there)
      ∙ (ap (λ (ys : List A). sum_by f ys) (flat_map-append g (take k xs) (x ∷ []) ∙ ap (λ (ys : List A). flat_map g (take k xs) ++ ys) (append-nil (g x)))
      ∙ sum_by-append f (flat_map g (take k xs)) (g x))

  pub flat-within : (xs : List X) (k : ℕ) → sum_by f (flat_map g (take k xs)) ≤ sum_by f (flat_map g xs)
  flat-within xs k =
      let all : sum_by f (flat_map g (take k xs)) + sum_by f (flat_map g (drop k xs)) ≡ sum_by f (flat_map g xs) =
      sym (sum_by-append f (flat_map g (take k xs)) (flat_map g (drop k xs))) ∙ (ap (λ (ys : List A). sum_by f ys) (sym (flat_map-append g (take k xs) (drop k xs))) ∙ ap (λ (ys : List X). sum_by f (flat_map g ys)) (take-append-drop k xs)) in
      omega (arith, all)

  -- what an element adds to the sum of those before it is within the sum of all
  pub flat-fits : (xs whole : List X) (k : ℕ) (x : X) → k < length xs → x ≡ get_or xs k x → xs ≡ whole → sum_by f (flat_map g whole) < 2 ^ 64 → sum_by f (flat_map g (take k xs)) + sum_by f (g x) < 2 ^ 64
  flat-fits xs whole k x below is same few =
      let next = flat-next xs k x (slice_get_read xs (length xs) k x refl below is) in
      let within = flat-within xs (k + 1) in
      let all : sum_by f (flat_map g xs) < 2 ^ 64 = subst (λ (ys : List X). sum_by f (flat_map g ys) < 2 ^ 64) (sym same) few in
      omega (arith, next, within, all)

module _ {X A : Type 0} (g : X → A) (f : A → ℕ) where
  pub map-next : (xs : List X) (k : ℕ) (x : X) → slice_get xs k ≡ Some x → sum_by f (map g (take (k + 1) xs)) ≡ sum_by f (map g (take k xs)) + f (g x)
  map-next xs k x there =
      let one = sum_by-cons f (g x) [] in
      let sum = ap (λ (ys : List X). sum_by f (map g ys)) (taken-next xs k x there)
      ∙ (ap (λ (ys : List A). sum_by f ys) (map-append g (take k xs) (x ∷ [])) ∙ sum_by-append f (map g (take k xs)) (g x ∷ [])) in
      omega (arith, one, sum)

  pub map-within : (xs : List X) (k : ℕ) → sum_by f (map g (take k xs)) ≤ sum_by f (map g xs)
  map-within xs k =
      let all : sum_by f (map g (take k xs)) + sum_by f (map g (drop k xs)) ≡ sum_by f (map g xs) =
      sym (sum_by-append f (map g (take k xs)) (map g (drop k xs))) ∙ (ap (λ (ys : List A). sum_by f ys) (sym (map-append g (take k xs) (drop k xs))) ∙ ap (λ (ys : List X). sum_by f (map g ys)) (take-append-drop k xs)) in
      omega (arith, all)

-- no capture has a frame that is played
none-by : (act : Act) → frames_by [] act ≡ 0
none-by (acts.Play name file batch) = refl
none-by act = refl

none-among : (all : List Act) → sum_by (frames_by []) all ≡ 0
none-among [] = refl
none-among (act ∷ all) =
    let next = sum_by-cons (frames_by []) act all in
    let this = none-by act in
    let rest = none-among all in
    omega (arith, next, this, rest)

pub none_played : (program : Program) (played : List InputFile) → played ≡ [] → frames_played program played ≡ 0
none_played program played none = ap (frames_played program) none ∙ none-among (flat_map acts_of_unit program.units)
