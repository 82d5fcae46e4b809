-- Taking buffers out of their places, from the front.
use Rattle.std.proofs.Common.{ℕ, ◌≡◌, ◌+◌, ◌<◌, ◌≤◌, List, [], ◌∷◌, ◌++◌, length, take, drop, slice_set, get_or, Option, Some, None, refl, sym, ◌∙◌, ap, arith}
use Rattle.std.specs.Option.{option_to_list}
use Rattle.std.proofs.lemmas.List.{append_assoc, length-append, get_or_default, take_more_set, drop-set-lt, drop_more, take-append-drop}
use Rattle.nm_region.specs.Buffers.{Buffer}
use Rattle.nm_pool.specs.Kept.{buffers_in}
use Rattle.nm_pool.proofs.Keeping.{buffers_in-append}

-- the places before one that has been emptied, and those behind it
pub kept_before : (places : List (Option Buffer)) (i : ℕ) → i < length places → buffers_in (take i places) ≡ [] → buffers_in (take (i + 1) (slice_set places i None)) ≡ []
kept_before places i h e = rw (take_more_set places i None h, buffers_in-append (take i places) (None ∷ []), e) refl

pub kept_behind : (places : List (Option Buffer)) (i : ℕ) (x : Option Buffer) → i < length places → x ≡ get_or places i x
    → buffers_in (drop i places) ≡ option_to_list x ++ buffers_in (drop (i + 1) (slice_set places i None))
kept_behind places i x h e = rw (drop_more places i x h, ← e, drop-set-lt (i + 1) places i None (omega arith)) (of_first x (drop (i + 1) places))
  where
    of_first : (o : Option Buffer) (others : List (Option Buffer)) → buffers_in (o ∷ others) ≡ option_to_list o ++ buffers_in others
    of_first None others = refl
    of_first (Some b) others = refl

pub kept_left : (places : List (Option Buffer)) (i : ℕ) → buffers_in (take i places) ≡ [] → buffers_in places ≡ buffers_in (drop i places)
kept_left places i e = ap buffers_in (sym (take-append-drop i places)) ∙ (buffers_in-append (take i places) (drop i places) ∙ ap (λ (front : List Buffer). front ++ buffers_in (drop i places)) e)

one_at_most : (o : Option Buffer) → length (option_to_list o) ≤ 1
one_at_most None = omega arith
one_at_most (Some b) = omega arith

pub few_more : (taken : List Buffer) (o : Option Buffer) (n : ℕ) → length taken < n → length (taken ++ option_to_list o) ≤ n
few_more taken o n h = omega (arith, h, length-append taken (option_to_list o), one_at_most o)

-- the next buffer goes from its place behind those that were taken
pub next-split : (taken : List Buffer) (places : List (Option Buffer)) (at found : ℕ) (all : List Buffer) → found < length places
    → buffers_in (take at places) ≡ [] → buffers_in (take found places) ≡ [] → taken ++ buffers_in (drop at places) ≡ all
    → (taken ++ option_to_list (get_or places found None)) ++ buffers_in (drop (found + 1) (slice_set places found None)) ≡ all
next-split taken places at found all within before between split =
    let x = get_or places found None in
    let rest = buffers_in (drop (found + 1) (slice_set places found None)) in
    let here : x ≡ get_or places found x = get_or_default places found None x within in
    let behind : option_to_list x ++ rest ≡ buffers_in (drop at places) = sym (kept_behind places found x within here) ∙ (sym (kept_left places found between) ∙ kept_left places at before) in
    append_assoc taken (option_to_list x) rest ∙ (ap (λ (others : List Buffer). taken ++ others) behind ∙ split)
