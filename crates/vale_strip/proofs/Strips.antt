-- Writing by way of a strip.
use Rattle.std.proofs.Common.{◌≡◌, ℕ, zero, suc, ◌+◌, ◌-◌, ◌<◌, ◌≤◌, inl, inr, List, [], ◌∷◌, ◌++◌, length, take, drop, get_or, slice_get, map, Option, Some, Result, Ok, Err, refl, sym, ap, subst, ◌∙◌, arith, append_assoc, take_all}
use Rattle.std.specs.List.{flat_map, IsFirstAndRest}
use Rattle.std.proofs.lemmas.List.{append-nil, take-append-drop, take_more}
use Rattle.std.proofs.lemmas.Grind.{flat_map-append}
use Rattle.std.proofs.lemmas.Option.{get_or_from_slice_get, slice_get_within}
use Rattle.std.proofs.Math.Seq.{drop-length, take-add}
use Rattle.vale_entry.specs.Transcript.{after_blank, list_text, words_text}
use Rattle.vale_strip.specs.Failures.{CountsFailures}
use Rattle.vale_strip.specs.Pieces.{behind, part_text, with_parts, parts_text}
use Rattle.vale_strip.specs.declared.pieces.Part.{Part}
use Rattle.nm_io.specs.Counts.{Rose}
use Rattle.nm_io.specs.declared.sink.Sink as sinks
use Rattle.nm_io.specs.Held.{grown, GrowsByPrefix, Writes}
use Rattle.nm_io.specs.Gathered.{Gathered, Gathers}
use Rattle.nm_io.proofs.Growth.{grown-grown, grown_nothing, grows_more}
use Rattle.nm_io.proofs.Gathering.{gathered_more, gathered_fails, gathered_written, grows_past}

-- one text was gathered, and then another one, or by a failure a prefix of it
pub gathers_after : {T E : Type 0} (old middle new : Option (List ℕ)) (p q r a b : List ℕ) (result : Result T E) → Gathered old middle p q a → Gathers middle new q r result b → Gathers old new p r result (a ++ b)
gathers_after old middle new p q r a b (Ok x) first second = gathered_more old middle new p q r a b first second
gathers_after old middle new p q r a b (Err e) first second = gathered_fails old middle new p q a b first second

-- there was room
pub gathered_nowhere : (held : Option (List ℕ)) (p : List ℕ) → Gathered held held p p []
gathered_nowhere held p = record { count = 0; within = omega arith; held = sym (grown_nothing held); rest = sym (append-nil p) }

-- all went out, and so there is
pub gathered_away : (old new : Option (List ℕ)) (p q : List ℕ) → new ≡ grown old p → q ≡ [] → Gathered old new p q []
gathered_away old new p q out empty = record {
  count = length (p ++ []);
  within = omega arith;
  held = out ∙ ap (grown old) (sym (append-nil p) ∙ sym (take_all (length (p ++ [])) (p ++ []) (omega arith)));
  rest = empty ∙ sym (drop-length (p ++ []));
}

-- it did not go out
pub room_fails : (old new : Option (List ℕ)) (p a : List ℕ) → GrowsByPrefix old new p → GrowsByPrefix old new (p ++ a)
room_fails old new p a part = grows_past old new p [] a (subst (GrowsByPrefix old new) (sym (append-nil p)) part)

-- room was wanting
pub no_room : (old new : Option (List ℕ)) (p a : List ℕ) → GrowsByPrefix old new (p ++ []) → GrowsByPrefix old new (p ++ a)
no_room old new p a part = grows_past old new p [] a part

-- there is room, and the bytes are added
pub adds : (old new : Option (List ℕ)) (p q r a : List ℕ) → Gathered old new p q [] → r ≡ q ++ a → Gathered old new p r a
adds old new p q r a first is =
    gathered_more old new new p q r [] a first (record { count = 0; within = omega arith; held = sym (grown_nothing new); rest = is })

-- what the strip held went out, and then a text by itself
pub goes_out : {T E : Type 0} (old middle new : Option (List ℕ)) (p q a : List ℕ) (result : Result T E) → middle ≡ grown old p → q ≡ [] → Writes middle new result a → Gathers old new p q result a
goes_out old middle new p q a (Ok x) out empty written = record {
  count = length (p ++ a);
  within = omega arith;
  held = written ∙ ap (λ held. grown held a) out ∙ grown-grown old p a ∙ ap (grown old) (sym (take_all (length (p ++ a)) (p ++ a) (omega arith)));
  rest = empty ∙ sym (drop-length (p ++ a));
}
goes_out old middle new p q a (Err e) out empty written = grows_more old middle new p a out written

-- A call that may fail, and then another one: what the first leaves of the count of failures.

rises : (old middle new : ℕ) → old ≤ middle → Rose middle new → Rose old new
rises old middle new up rose =
    elim rose [
      | inl less ↦ inl (omega (arith, up, less))
      | inr most ↦ inr most
    ]

pub counts_after : {K T E : Type 0} (k : sinks.Ghosts K) (old middle new : K) (result : Result T E) → k.faults old ≤ k.faults middle → CountsFailures k middle new result → CountsFailures k old new result
counts_after k old middle new (Ok x) up c = record { later = omega (arith, up, c.later); cause = tt }
counts_after k old middle new (Err e) up c = record { later = omega (arith, up, c.later); cause = rises (k.faults old) (k.faults middle) (k.faults new) up c.cause }

-- words, and then other words
pub words_after : {T E : Type 0} (old middle new : Option (List ℕ)) (p q r : List ℕ) (a b : List (List ℕ)) (result : Result T E) → Gathered old middle p q (words_text a) → Gathers middle new q r result (words_text b) → Gathers old new p r result (words_text (a ++ b))
words_after old middle new p q r a b result first second =
    subst (λ (text : List ℕ). Gathers old new p r result text) (sym (flat_map-append after_blank a b)) (gathers_after old middle new p q r (words_text a) (words_text b) result first second)

-- the first of them fail
pub words_fail : (old new : Option (List ℕ)) (p : List ℕ) (a b : List (List ℕ)) → GrowsByPrefix old new (p ++ words_text a) → GrowsByPrefix old new (p ++ words_text (a ++ b))
words_fail old new p a b part =
    subst (λ (text : List ℕ). GrowsByPrefix old new (p ++ text)) (sym (flat_map-append after_blank a b)) (grows_past old new p (words_text a) (words_text b) part)

-- who calls, what and where, and then what goes with it
call_with : (who call at more : List ℕ) → (who ++ (call ++ at)) ++ more ≡ who ++ (call ++ (at ++ more))
call_with who call at more = append_assoc who (call ++ at) more ∙ ap (λ (text : List ℕ). who ++ text) (append_assoc call at more)

pub call_after : {T E : Type 0} (old middle new : Option (List ℕ)) (p q r who call at more : List ℕ) (result : Result T E) → Gathered old middle p q (who ++ (call ++ at)) → Gathers middle new q r result more → Gathers old new p r result (who ++ (call ++ (at ++ more)))
call_after old middle new p q r who call at more result first second =
    subst (λ (text : List ℕ). Gathers old new p r result text) (call_with who call at more)
    (gathers_after old middle new p q r (who ++ (call ++ at)) more result first second)

-- texts added one after another
pub adds_two : (p q r a b : List ℕ) → q ≡ p ++ a → r ≡ q ++ b → r ≡ p ++ (a ++ b)
adds_two p q r a b first second = second ∙ ap (λ t. t ++ b) first ∙ append_assoc p a b

pub adds_three : (p q r s a b c : List ℕ) → q ≡ p ++ a → r ≡ q ++ b → s ≡ r ++ c → s ≡ p ++ (a ++ (b ++ c))
adds_three p q r s a b c first second third = adds_two p q s a (b ++ c) first (adds_two q r s b c second third)

-- the next ones are written at once
part-flat : {X : Type 0} (f : X → List ℕ) (xs : List X) (done end : ℕ) → done ≤ end → end ≤ length xs → flat_map f (take done xs) ++ flat_map f (take (end - done) (drop done xs)) ≡ flat_map f (take end xs)
part-flat f xs done end up within =
    let sum : done + (end - done) ≡ end = omega (arith, up) in
    sym (flat_map-append f (take done xs) (take (end - done) (drop done xs))) ∙ ap (flat_map f) (sym (take-add done (end - done) xs) ∙ ap (λ n. take n xs) sum)

pub part_more : {X : Type 0} (old middle new : Option (List ℕ)) (p q r : List ℕ) (f : X → List ℕ) (xs : List X) (done end : ℕ) → done ≤ end → end ≤ length xs
    → Gathered old middle p q (flat_map f (take done xs)) → Gathered middle new q r (flat_map f (take (end - done) (drop done xs))) → Gathered old new p r (flat_map f (take end xs))
part_more old middle new p q r f xs done end up within first second =
    subst (Gathered old new p r) (part-flat f xs done end up within) (gathered_more old middle new p q r (flat_map f (take done xs)) (flat_map f (take (end - done) (drop done xs))) first second)

-- or fail
pub part_fails : {X : Type 0} (old middle new : Option (List ℕ)) (p q : List ℕ) (f : X → List ℕ) (xs : List X) (done end : ℕ) → done ≤ end → end ≤ length xs
    → Gathered old middle p q (flat_map f (take done xs)) → GrowsByPrefix middle new (q ++ flat_map f (take (end - done) (drop done xs))) → GrowsByPrefix old new (p ++ flat_map f xs)
part_fails old middle new p q f xs done end up within first second =
    let front : List ℕ = flat_map f (take done xs) ++ flat_map f (take (end - done) (drop done xs)) in
    let whole : front ++ flat_map f (drop end xs) ≡ flat_map f xs =
    ap (λ text. text ++ flat_map f (drop end xs)) (part-flat f xs done end up within) ∙ sym (flat_map-append f (take end xs) (drop end xs)) ∙ ap (flat_map f) (take-append-drop end xs) in
    subst (λ (text : List ℕ). GrowsByPrefix old new (p ++ text)) whole
    (grows_past old new p front (flat_map f (drop end xs)) (gathered_fails old middle new p q (flat_map f (take done xs)) (flat_map f (take (end - done) (drop done xs))) first second))

pub flat_map-more : {X : Type 0} (f : X → List ℕ) (xs : List X) (i : ℕ) (d : X) → i < length xs → flat_map f (take (i + 1) xs) ≡ flat_map f (take i xs) ++ f (get_or xs i d)
flat_map-more f xs i d h =
    ap (flat_map f) (take_more xs i d h) ∙ flat_map-append f (take i xs) (get_or xs i d ∷ [])
    ∙ ap (λ text. flat_map f (take i xs) ++ text) (append-nil (f (get_or xs i d)))

-- the next one is gathered
pub flat_more : {X : Type 0} (old middle new : Option (List ℕ)) (p q r : List ℕ) (f : X → List ℕ) (xs : List X) (i : ℕ) (x : X) → i < length xs → x ≡ get_or xs i x → Gathered old middle p q (flat_map f (take i xs)) → Gathered middle new q r (f x) → Gathered old new p r (flat_map f (take (i + 1) xs))
flat_more old middle new p q r f xs i x h same first second =
    let next : flat_map f (take (i + 1) xs) ≡ flat_map f (take i xs) ++ f x = flat_map-more f xs i x h ∙ ap (λ z. flat_map f (take i xs) ++ f z) (sym same) in
    subst (Gathered old new p r) (sym next) (gathered_more old middle new p q r (flat_map f (take i xs)) (f x) first second)

-- the next one fails
pub flat_fails : {X : Type 0} (old middle new : Option (List ℕ)) (p q : List ℕ) (f : X → List ℕ) (xs : List X) (i : ℕ) (x : X) → i < length xs → x ≡ get_or xs i x → Gathered old middle p q (flat_map f (take i xs)) → GrowsByPrefix middle new (q ++ f x) → GrowsByPrefix old new (p ++ flat_map f xs)
flat_fails old middle new p q f xs i x h same first second =
    let front : List ℕ = flat_map f (take i xs) ++ f x in
    let rest : List ℕ = flat_map f (drop (i + 1) xs) in
    let next : flat_map f (take (i + 1) xs) ≡ front = flat_map-more f xs i x h ∙ ap (λ z. flat_map f (take i xs) ++ f z) (sym same) in
    let whole : front ++ rest ≡ flat_map f xs =
    ap (λ text. text ++ rest) (sym next) ∙ sym (flat_map-append f (take (i + 1) xs) (drop (i + 1) xs)) ∙ ap (flat_map f) (take-append-drop (i + 1) xs) in
    subst (λ (text : List ℕ). GrowsByPrefix old new (p ++ text)) whole
    (grows_past old new p front rest (gathered_fails old middle new p q (flat_map f (take i xs)) (f x) first second))

-- a list is its first item, and then a comma before each further one
pub list_text-is : {X : Type 0} (f : X → List ℕ) (x : X) (xs : List X) → list_text (map f (x ∷ xs)) ≡ f x ++ flat_map (behind 44 f) xs
list_text-is f x [] = sym (append-nil (f x))
list_text-is f x (y ∷ ys) = ap (λ text. f x ++ (44 ∷ text)) (list_text-is f y ys)

-- a list without items
pub list_nothing : {X : Type 0} (f : X → List ℕ) (xs : List X) → length xs ≡ 0 → 45 ∷ [] ≡ list_text (map f xs)
list_nothing f [] none = refl
list_nothing f (x ∷ xs) none = absurd (omega arith)

-- a list whose first item was gathered, and then the others
pub gathers_list : {X T E : Type 0} (old middle new : Option (List ℕ)) (p q r : List ℕ) (f : X → List ℕ) (xs : List X) (x : X) (others : List X) (result : Result T E) → IsFirstAndRest xs x others → Gathered old middle p q (f x) → Gathers middle new q r result (flat_map (behind 44 f) others) → Gathers old new p r result (list_text (map f xs))
gathers_list old middle new p q r f xs x others result first all part =
    subst (λ (text : List ℕ). Gathers old new p r result text) (sym (list_text-is f x others) ∙ ap (λ items. list_text (map f items)) (sym first.0))
    (gathers_after old middle new p q r (f x) (flat_map (behind 44 f) others) result all part)

-- the first item fails
pub list_fails-first : {X : Type 0} (old new : Option (List ℕ)) (p : List ℕ) (f : X → List ℕ) (xs : List X) (x : X) (others : List X) → IsFirstAndRest xs x others → GrowsByPrefix old new (p ++ f x) → GrowsByPrefix old new (p ++ list_text (map f xs))
list_fails-first old new p f xs x others first part =
    subst (λ (text : List ℕ). GrowsByPrefix old new (p ++ text)) (sym (list_text-is f x others) ∙ ap (λ items. list_text (map f items)) (sym first.0))
    (grows_past old new p (f x) (flat_map (behind 44 f) others) part)

-- a list cut behind an item
list_text-cut : {X : Type 0} (f : X → List ℕ) (xs : List X) (i : ℕ) → 0 < i → 0 < length xs → list_text (map f xs) ≡ list_text (map f (take i xs)) ++ flat_map (behind 44 f) (drop i xs)
list_text-cut f [] i some there = absurd (omega arith)
list_text-cut f (x ∷ xs) zero some there = absurd (omega arith)
list_text-cut f (x ∷ xs) (suc i) some there =
    list_text-is f x xs
    ∙ ap (λ text. f x ++ text) (sym (ap (flat_map (behind 44 f)) (take-append-drop i xs)) ∙ flat_map-append (behind 44 f) (take i xs) (drop i xs))
    ∙ sym (append_assoc (f x) (flat_map (behind 44 f) (take i xs)) (flat_map (behind 44 f) (drop i xs)))
    ∙ ap (λ text. text ++ flat_map (behind 44 f) (drop i xs)) (sym (list_text-is f x (take i xs)))

-- the next item of a list, behind a comma
list_text-more : {X : Type 0} (f : X → List ℕ) (xs : List X) (i : ℕ) (x : X) → 0 < i → slice_get xs i ≡ Some x → list_text (map f (take (i + 1) xs)) ≡ list_text (map f (take i xs)) ++ behind 44 f x
list_text-more f [] i x some get = cc
list_text-more f (y ∷ ys) zero x some get = absurd (omega arith)
list_text-more f (y ∷ ys) (suc i) x some get =
    let inside : i < length ys = slice_get_within ys i x get in
    let same : get_or ys i x ≡ x = get_or_from_slice_get ys i x x get in
    let next : suc i + 1 ≡ suc (i + 1) = omega arith in
    ap (λ n. list_text (map f (take n (y ∷ ys)))) next
    ∙ list_text-is f y (take (i + 1) ys)
    ∙ ap (λ text. f y ++ text) (flat_map-more (behind 44 f) ys i x inside ∙ ap (λ z. flat_map (behind 44 f) (take i ys) ++ behind 44 f z) same)
    ∙ sym (append_assoc (f y) (flat_map (behind 44 f) (take i ys)) (behind 44 f x))
    ∙ ap (λ text. text ++ behind 44 f x) (sym (list_text-is f y (take i ys)))

-- the first item alone
pub list_first : {X : Type 0} (old new : Option (List ℕ)) (p q : List ℕ) (f : X → List ℕ) (xs : List X) (x : X) → slice_get xs 0 ≡ Some x → Gathered old new p q (f x) → Gathered old new p q (list_text (map f (take 1 xs)))
list_first {X = X} old new p q f [] x get part = cc
list_first {X = X} old new p q f (y ∷ ys) x get part =
    let same : y ≡ x = cc in
    subst (λ (z : X). Gathered old new p q (f z)) (sym same) part

-- which fails
pub list_starts : {X : Type 0} (old new : Option (List ℕ)) (p : List ℕ) (f : X → List ℕ) (xs : List X) (x : X) → slice_get xs 0 ≡ Some x → GrowsByPrefix old new (p ++ f x) → GrowsByPrefix old new (p ++ list_text (map f xs))
list_starts old new p f [] x get part = cc
list_starts old new p f (y ∷ ys) x get part =
    let same : y ≡ x = cc in
    subst (λ (text : List ℕ). GrowsByPrefix old new (p ++ text)) (ap (λ z. f z ++ flat_map (behind 44 f) ys) (sym same) ∙ sym (list_text-is f y ys))
    (grows_past old new p (f x) (flat_map (behind 44 f) ys) part)

-- the next item
pub list_more : {X : Type 0} (old middle new : Option (List ℕ)) (p q r : List ℕ) (f : X → List ℕ) (xs : List X) (i : ℕ) (x : X) → 0 < i → slice_get xs i ≡ Some x → Gathered old middle p q (list_text (map f (take i xs))) → Gathered middle new q r (behind 44 f x) → Gathered old new p r (list_text (map f (take (i + 1) xs)))
list_more old middle new p q r f xs i x some get first second =
    subst (Gathered old new p r) (sym (list_text-more f xs i x some get)) (gathered_more old middle new p q r (list_text (map f (take i xs))) (behind 44 f x) first second)

-- which fails
pub list_fails : {X : Type 0} (old middle new : Option (List ℕ)) (p q : List ℕ) (f : X → List ℕ) (xs : List X) (i : ℕ) (x : X) → 0 < i → slice_get xs i ≡ Some x → Gathered old middle p q (list_text (map f (take i xs))) → GrowsByPrefix middle new (q ++ behind 44 f x) → GrowsByPrefix old new (p ++ list_text (map f xs))
list_fails old middle new p q f xs i x some get first second =
    let inside : i < length xs = slice_get_within xs i x get in
    let next : 0 < i + 1 = omega arith in
    let there : 0 < length xs = omega arith in
    let front : List ℕ = list_text (map f (take i xs)) ++ behind 44 f x in
    let rest : List ℕ = flat_map (behind 44 f) (drop (i + 1) xs) in
    subst (λ (text : List ℕ). GrowsByPrefix old new (p ++ text)) (ap (λ text. text ++ rest) (sym (list_text-more f xs i x some get)) ∙ sym (list_text-cut f xs (i + 1) next there))
    (grows_past old new p front rest (gathered_fails old middle new p q (list_text (map f (take i xs))) (behind 44 f x) first second))

with_parts-is : (text : List ℕ) (parts : List Part) → with_parts text parts ≡ text ++ flat_map part_text parts
with_parts-is text [] = sym (append-nil text)
with_parts-is text (part ∷ parts) = with_parts-is (text ++ part_text part) parts ∙ append_assoc text (part_text part) (flat_map part_text parts)

pub parts_text-is : (parts : List Part) → flat_map part_text parts ≡ parts_text parts
parts_text-is [] = refl
parts_text-is (part ∷ parts) = sym (with_parts-is (part_text part) parts)

-- all went out in the end
pub strip_out : {T E : Type 0} (old middle new : Option (List ℕ)) (p q a : List ℕ) (result : Result T E) → p ≡ [] → Gathered old middle p q a → Writes middle new result q → Writes old new result a
strip_out old middle new p q a result empty first out =
    gathered_written old middle new q a result (subst (λ (none : List ℕ). Gathered old middle none q a) empty first) out

-- not all was gathered
pub strip_fails : (old new : Option (List ℕ)) (p a : List ℕ) → p ≡ [] → GrowsByPrefix old new (p ++ a) → GrowsByPrefix old new a
strip_fails old new p a empty part = subst (λ (none : List ℕ). GrowsByPrefix old new (none ++ a)) empty part

pub ruleset strips = (gathered_nowhere, gathered_away, room_fails, strip_out, strip_fails)

pub ruleset parts_are = (parts_text-is)
