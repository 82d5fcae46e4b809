-- Texts that are cut at a separator: words with blanks between them up to a line feed, and items with
-- commas between them.
use Rattle.std.specs.List.{AllByRecursion as Each, join_with_byte}
use Rattle.std.proofs.Common.{ℕ, ◌<◌, ◌≡◌, ◌⊎◌, inl, inr, List, [], ◌∷◌, ◌++◌, map, refl, sym, ◌∙◌, ap, subst, arith, append_assoc}
use Rattle.vale_entry.specs.Transcript.{list_text}
use Rattle.vale_entry.proofs.Each.{each-weaker, each-append}

-- what stands before the first separator, the separator, and what stands behind it
pub cut : (P : ℕ → Type 0) (xs ys : List ℕ) (s t : ℕ) (a b : List ℕ) → (P s → ⊥) → (P t → ⊥) → Each P xs → Each P ys → xs ++ s ∷ a ≡ ys ++ t ∷ b
    → (xs ≡ ys) × ((s ≡ t) × (a ≡ b))
cut P [] [] s t a b ends stops px py e = (refl, (cc, cc))
cut P [] (y ∷ ys) s t a b ends stops px py e = let same : y ≡ s = cc in absurd (ends (subst P same py.0))
cut P (x ∷ xs) [] s t a b ends stops px py e = let same : x ≡ t = cc in absurd (stops (subst P same px.0))
cut P (x ∷ xs) (y ∷ ys) s t a b ends stops px py e =
    let head : x ≡ y = cc in
    let tail : xs ++ s ∷ a ≡ ys ++ t ∷ b = cc in
    let rest = cut P xs ys s t a b ends stops px.1 py.1 tail in
    let same : xs ≡ ys = rest.0 in
    (cc, rest.1)

-- Words.

abbrev pub IsWordByte : ℕ → Type 0
IsWordByte b = 32 < b

abbrev pub IsWord : List ℕ → Type 0
IsWord w = Each IsWordByte w

-- a word and more words, up to a line feed, and what follows
abbrev pub spell : List ℕ → List (List ℕ) → List ℕ → List ℕ
spell w [] a = w ++ 10 ∷ a
spell w (v ∷ vs) a = w ++ 32 ∷ spell v vs a

no-blank : IsWordByte 32 → ⊥
no-blank h = absurd (omega arith)

no-feed : IsWordByte 10 → ⊥
no-feed h = absurd (omega arith)

pub spell-same : (w v : List ℕ) (ws vs : List (List ℕ)) (a b : List ℕ) → IsWord w → IsWord v → Each IsWord ws → Each IsWord vs → spell w ws a ≡ spell v vs b
    → (w ≡ v) × ((ws ≡ vs) × (a ≡ b))
spell-same w v [] [] a b pw pv pws pvs e =
    let c = cut IsWordByte w v 10 10 a b no-feed no-feed pw pv e in
    (c.0, (refl, c.1.1))
spell-same w v [] (y ∷ ys) a b pw pv pws pvs e =
    let c = cut IsWordByte w v 10 32 a (spell y ys b) no-feed no-blank pw pv e in
    absurd (omega (arith, c.1.0))
spell-same w v (x ∷ xs) [] a b pw pv pws pvs e =
    let c = cut IsWordByte w v 32 10 (spell x xs a) b no-blank no-feed pw pv e in
    absurd (omega (arith, c.1.0))
spell-same w v (x ∷ xs) (y ∷ ys) a b pw pv pws pvs e =
    let c = cut IsWordByte w v 32 32 (spell x xs a) (spell y ys b) no-blank no-blank pw pv e in
    let rest = spell-same x y xs ys a b pws.0 pvs.0 pws.1 pvs.1 c.1.1 in
    let head : x ≡ y = rest.0 in
    let tail : xs ≡ ys = rest.1.0 in
    (c.0, (cc, rest.1.1))

-- Parts of a list: none has a comma, and none is the dash that stands for no parts.

abbrev pub IsPartByte : ℕ → Type 0
IsPartByte b = (b ≡ 42) ⊎ (44 < b)

pub record IsPart (part : List ℕ) : Type 0 where
  pub bytes : Each IsPartByte part
  pub some : part ≡ 45 ∷ [] → ⊥

pub no-comma : IsPartByte 44 → ⊥
no-comma (inl h) = absurd (omega arith)
no-comma (inr h) = absurd (omega arith)

part-word : (b : ℕ) → IsPartByte b → IsWordByte b
part-word b (inl h) = omega arith
part-word b (inr h) = omega arith

-- An item has no dash at all.

abbrev pub IsItemByte : ℕ → Type 0
IsItemByte b = (b ≡ 42) ⊎ (45 < b)

abbrev pub IsItem : List ℕ → Type 0
IsItem item = Each IsItemByte item

no-dash : IsItemByte 45 → ⊥
no-dash (inl h) = absurd (omega arith)
no-dash (inr h) = absurd (omega arith)

item-part_byte : (b : ℕ) → IsItemByte b → IsPartByte b
item-part_byte b (inl h) = inl h
item-part_byte b (inr h) = inr (omega (arith, h))

pub item-part : (item : List ℕ) → IsItem item → IsPart item
item-part item all = record {
  bytes = each-weaker IsItemByte IsPartByte item-part_byte item all;
  some = dashless item all;
}
  where
    dashless : (item : List ℕ) → IsItem item → item ≡ 45 ∷ [] → ⊥
    dashless [] all e = cc
    dashless (b ∷ bs) all e = let same : b ≡ 45 = cc in no-dash (subst IsItemByte same all.0)

-- each part with a comma behind it
abbrev ended : List (List ℕ) → List ℕ
ended [] = []
ended (x ∷ xs) = x ++ 44 ∷ ended xs

join-ended : (x : List ℕ) (xs : List (List ℕ)) → join_with_byte 44 (x ∷ xs) ++ 44 ∷ [] ≡ ended (x ∷ xs)
join-ended x [] = refl
join-ended x (y ∷ ys) = append_assoc x (44 ∷ join_with_byte 44 (y ∷ ys)) (44 ∷ []) ∙ ap (λ (t : List ℕ). x ++ 44 ∷ t) (join-ended y ys)

nothing-ended : (y a : List ℕ) → [] ≡ y ++ 44 ∷ a → ⊥
nothing-ended [] a e = cc
nothing-ended (x ∷ y) a e = cc

ended-same : (xs ys : List (List ℕ)) → Each IsPart xs → Each IsPart ys → ended xs ≡ ended ys → xs ≡ ys
ended-same [] [] px py e = refl
ended-same [] (y ∷ ys) px py e = absurd (nothing-ended y (ended ys) e)
ended-same (x ∷ xs) [] px py e = absurd (nothing-ended x (ended xs) (sym e))
ended-same (x ∷ xs) (y ∷ ys) px py e =
    let c = cut IsPartByte x y 44 44 (ended xs) (ended ys) no-comma no-comma px.0.bytes py.0.bytes e in
    let head : x ≡ y = c.0 in
    let tail : xs ≡ ys = ended-same xs ys px.1 py.1 c.1.1 in
    cc

dash-ended : (y : List ℕ) (ys : List (List ℕ)) → IsPart y → 45 ∷ 44 ∷ [] ≡ y ++ 44 ∷ ended ys → ⊥
dash-ended y ys py e =
    let dash : IsPartByte 45 = inr (omega arith) in
    let c = cut IsPartByte (45 ∷ []) y 44 44 [] (ended ys) no-comma no-comma (dash, tt) py.bytes e in
    py.some (sym c.0)

pub list-same : (xs ys : List (List ℕ)) → Each IsPart xs → Each IsPart ys → list_text xs ≡ list_text ys → xs ≡ ys
list-same [] [] px py e = refl
list-same [] (y ∷ ys) px py e = absurd (dash-ended y ys py.0 (ap (λ (t : List ℕ). t ++ 44 ∷ []) e ∙ join-ended y ys))
list-same (x ∷ xs) [] px py e = absurd (dash-ended x xs px.0 (ap (λ (t : List ℕ). t ++ 44 ∷ []) (sym e) ∙ join-ended x xs))
list-same (x ∷ xs) (y ∷ ys) px py e =
    ended-same (x ∷ xs) (y ∷ ys) px py (sym (join-ended x xs) ∙ (ap (λ (t : List ℕ). t ++ 44 ∷ []) e ∙ join-ended y ys))

join-word : (x : List ℕ) (xs : List (List ℕ)) → Each IsPart (x ∷ xs) → IsWord (join_with_byte 44 (x ∷ xs))
join-word x [] all = each-weaker IsPartByte IsWordByte part-word x all.0.bytes
join-word x (y ∷ ys) all =
    let comma : 32 < 44 = omega arith in
    each-append IsWordByte x (44 ∷ join_with_byte 44 (y ∷ ys)) (each-weaker IsPartByte IsWordByte part-word x all.0.bytes) (comma, join-word y ys all.1)

pub list-word : (xs : List (List ℕ)) → Each IsPart xs → IsWord (list_text xs)
list-word [] all = let dash : 32 < 45 = omega arith in (dash, tt)
list-word (x ∷ xs) all = join-word x xs all

-- a function that tells its arguments apart, on each element
pub map-apart : {X : Type 0} (f : X → List ℕ) (P : X → Type 0) → ((x y : X) → P x → P y → f x ≡ f y → x ≡ y) → (xs ys : List X) → Each P xs → Each P ys
    → map f xs ≡ map f ys → xs ≡ ys
map-apart f P apart [] [] px py e = refl
map-apart f P apart [] (y ∷ ys) px py e = absurd cc
map-apart f P apart (x ∷ xs) [] px py e = absurd cc
map-apart f P apart (x ∷ xs) (y ∷ ys) px py e =
    let here : f x ≡ f y = cc in
    let rest : map f xs ≡ map f ys = cc in
    let head : x ≡ y = apart x y px.0 py.0 here in
    let tail : xs ≡ ys = map-apart f P apart xs ys px.1 py.1 rest in
    cc
