-- A line without fixed words misses none.
use Rattle.std.proofs.Common.{◌≡◌, ◌≤◌, ℕ, Bool, true, false, ◌&&◌, List, [], ◌∷◌, length, take, refl, arith}
use Rattle.std.proofs.lemmas.Bool.{or_from, and_parts}
use Rattle.nm_types.specs.declared.fault.LineCause.TheVariants as causes
use Rattle.vale_script.specs.declared.forms.Place.{Place}
use Rattle.vale_script.specs.declared.forms.Place.TheVariants.{UserName, PortName, Address, File, Number, Byte, Bytes, Side, Sides, Field, Value, Keep, Quiet}
use Rattle.vale_script.specs.declared.forms.Verb.{Verb}
use Rattle.vale_script.specs.declared.forms.Verb.TheVariants as verbs
use Rattle.vale_script.specs.Forms.{form_of}
use Rattle.vale_script.specs.Places.{is_out, any_out, has_fixed_words}

-- a place whose word is none of a few
abbrev is-free : Place → Bool
is-free Side = false
is-free Sides = false
is-free Field = false
is-free Keep = false
is-free Quiet = false
is-free _ = true

abbrev are-free : List Place → Bool
are-free [] = true
are-free (place ∷ places) = is-free place && are-free places

free-place : (place : Place) (before word : List ℕ) → is-free place ≡ true → is_out causes.Word place before word ≡ false
free-place UserName before word free = refl
free-place PortName before word free = refl
free-place Address before word free = refl
free-place File before word free = refl
free-place (Number low high) before word free = refl
free-place Byte before word free = refl
free-place Bytes before word free = refl
free-place Value before word free = refl
free-place Side before word free = absurd cc
free-place Sides before word free = absurd cc
free-place Field before word free = absurd cc
free-place Keep before word free = absurd cc
free-place Quiet before word free = absurd cc

free-places : (places : List Place) (before : List ℕ) (words : List (List ℕ)) → are-free places ≡ true → any_out causes.Word places before words ≡ false
free-places [] before words free = refl
free-places (place ∷ places) before [] free = refl
free-places (place ∷ places) before (word ∷ words) free =
    let parts = and_parts (is-free place) (are-free places) free in
    or_from (is_out causes.Word place before word) (any_out causes.Word places word words) (free-place place before word parts.0) (free-places places word words parts.1)

free-verb : (verb : Verb) → has_fixed_words verb ≡ false → are-free (form_of verb).places ≡ true
free-verb verbs.Pool free = refl
free-verb verbs.User free = refl
free-verb verbs.Open free = refl
free-verb verbs.Put free = refl
free-verb verbs.Hex free = refl
free-verb verbs.Play free = refl
free-verb verbs.Tx free = refl
free-verb verbs.Fwd free = refl
free-verb verbs.Extra free = refl
free-verb verbs.Stat free = refl
free-verb verbs.Save free = refl
free-verb verbs.Close free = refl
free-verb verbs.Par free = refl
free-verb verbs.End free = refl
free-verb verbs.Rx free = absurd cc
free-verb verbs.Poke free = absurd cc
free-verb verbs.Move free = absurd cc
free-verb verbs.Swap free = absurd cc
free-verb verbs.Watch free = absurd cc

pub none_fixed : (verb : Verb) (before : List ℕ) (words : List (List ℕ)) → has_fixed_words verb ≡ false → any_out causes.Word (form_of verb).places before words ≡ false
none_fixed verb before words free = free-places (form_of verb).places before words (free-verb verb free)

-- the first two places of a form are free
two-free : (verb : Verb) → are-free (take 2 (form_of verb).places) ≡ true
two-free verbs.Pool = refl
two-free _ = refl

none-left : (places : List Place) (before : List ℕ) → any_out causes.Word places before [] ≡ false
none-left [] before = refl
none-left (place ∷ places) before = refl

free-two : (places : List Place) (before : List ℕ) (words : List (List ℕ)) → are-free (take 2 places) ≡ true → length words ≤ 2 → any_out causes.Word places before words ≡ false
free-two [] before words free few = refl
free-two (a ∷ places) before [] free few = refl
free-two (a ∷ []) before (u ∷ words) free few =
    or_from (is_out causes.Word a before u) (any_out causes.Word [] u words) (free-place a before u (and_parts (is-free a) true free).0) refl
free-two (a ∷ b ∷ places) before (u ∷ []) free few =
    let parts = and_parts (is-free a) (is-free b && true) free in
    or_from (is_out causes.Word a before u) (any_out causes.Word (b ∷ places) u []) (free-place a before u parts.0) refl
free-two (a ∷ b ∷ places) before (u ∷ v ∷ []) free few =
    let parts = and_parts (is-free a) (is-free b && true) free in
    let second = or_from (is_out causes.Word b u v) (any_out causes.Word places v []) (free-place b u v (and_parts (is-free b) true parts.1).0) (none-left places v) in
    or_from (is_out causes.Word a before u) (any_out causes.Word (b ∷ places) u (v ∷ [])) (free-place a before u parts.0) second
free-two (a ∷ b ∷ places) before (u ∷ v ∷ w ∷ words) free few = absurd (omega (arith, few))

pub none_in_two : (verb : Verb) (before : List ℕ) (words : List (List ℕ)) → length words ≤ 2 → any_out causes.Word (form_of verb).places before words ≡ false
none_in_two verb before words few = free-two (form_of verb).places before words (two-free verb) few

pub ruleset none_of_free = (none_fixed, none_in_two)
