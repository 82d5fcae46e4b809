-- Each field's text is read as the field.
use Rattle.std.specs.List.{AllByRecursion as Each}
use Rattle.std.proofs.Common.{ℕ, ◌+◌, ◌*◌, ◌/◌, ◌%◌, ◌<◌, ◌≡◌, ◌==◌, nat_lt, Bool, true, false, cond, List, [], ◌∷◌, ◌++◌, length, map, take, drop, flat_map, codes, decimal, Option, Some, refl, sym, ◌∙◌, ap, arith, append_assoc}
use Rattle.std.proofs.lemmas.Bool.{ltb-true, eqb-true}
use Rattle.std.proofs.lemmas.Bool.Decides.{nat_tests}
use Rattle.nm_types.specs.Frames.{Frame}
use Rattle.vale_entry.specs.declared.entry.Dest.{Dest}
use Rattle.vale_entry.specs.declared.entry.Item.{Item}
use Rattle.vale_entry.specs.declared.entry.Span.{Span}
use Rattle.vale_entry.specs.Spans.{single_span, spans_in, numbers_in}
use Rattle.vale_entry.specs.Transcript.{hex_digit, hex_byte, hex_text, frame_text, frames_text, span_text, buffers_text, dest_text, dests_text, item_text, items_text, is_unmarked}
use Rattle.vale_entry.proofs.Spans.{EndsAre, ends-are, spans-tell}
use Rattle.vale_entry.proofs.Each.{each-weaker, each-map}
use Rattle.vale_fields.specs.Fields.{hex_value, bytes_of, frame_of, span_by, span_of, dest_of, item_of, short_of, front_by, back_by, mark_in}
use Rattle.vale_fields.specs.Lists.{numbers_of, dests_of, items_of, frames_of}
use Rattle.vale_entry.specs.Fits.{DestFits}
use Rattle.vale_fields.specs.Widths.{IsByte, AreBytes, Is32, FitsItem, field_widths}
use Rattle.vale_fields.proofs.Cuts.{IsPart}
use Rattle.vale_fields.proofs.Numerals.{short-back}
use Rattle.vale_fields.proofs.Splits.{unequal, list-back, IsFree, mark-found, mark-missed, take-front, drop-front}
use Rattle.vale_fields.proofs.Texts.{IsDigit, decimal-digits, dash-not_digit, dashed, spans-parts, dest-part, frames-parts, taken-part, no-mark}

-- Digits.

digit-back : (d : ℕ) → d < 16 → hex_value (hex_digit d) ≡ d
unfolding hex_value
digit-back d small = by_small (nat_lt d 10) refl
  where
    by_small : (b : Bool) → nat_lt d 10 ≡ b → hex_value (cond b (48 + d) (87 + d)) ≡ d
    by_small true is = let few = ltb-true d 10 is in grind (arith, nat_tests)
    by_small false is = grind (arith, nat_tests)

byte-back : (b : ℕ) → b < 256 → hex_value (hex_digit (b / 16)) * 16 + hex_value (hex_digit (b % 16)) ≡ b
byte-back b small =
    let high = digit-back (b / 16) (omega arith) in
    let low = digit-back (b % 16) (omega arith) in
    omega (arith, high, low)

digits-back : (bs : List ℕ) → Each IsByte bs → bytes_of (flat_map hex_byte bs) ≡ bs
digits-back [] all = refl
digits-back (b ∷ bs) all =
    let head = byte-back b (omega (arith, all.0)) in
    let tail = digits-back bs all.1 in
    cc

pub bytes-back : (bs : List ℕ) → Each IsByte bs → bytes_of (hex_text bs) ≡ bs
bytes-back [] all = refl
bytes-back (b ∷ bs) all = digits-back (b ∷ bs) all

digit-low : (d : ℕ) → d < 16 → hex_digit d < 103
digit-low d small = by_small (nat_lt d 10) refl
  where
    by_small : (b : Bool) → nat_lt d 10 ≡ b → cond b (48 + d) (87 + d) < 103
    by_small true is = let few = ltb-true d 10 is in omega (arith, few)
    by_small false is = omega arith

plain-back : (bs : List ℕ) → Each IsByte bs → frame_of (hex_text bs) ≡ record { bytes = bs; no_learn = false }
unfolding frame_of
plain-back [] all = refl
plain-back (b ∷ bs) all =
    let low = digit-low (b / 16) (omega (arith, all.0)) in
    let tilde = unequal (hex_digit (b / 16)) 126 (λ e. absurd (omega (arith, low, e))) in
    let back : bytes_of (hex_text (b ∷ bs)) ≡ b ∷ bs = bytes-back (b ∷ bs) all in
    ap (λ (t : Bool). cond t (record { bytes = bytes_of (drop 1 (hex_text (b ∷ bs))); no_learn = true }) (record { bytes = bytes_of (hex_text (b ∷ bs)); no_learn = false })) tilde
    ∙ ap (λ (t : List ℕ). record { bytes = t; no_learn = false }) back

pub frame-back : (f : Frame) → AreBytes f → frame_of (frame_text f) ≡ f
unfolding frame_of
frame-back f all = by_mark f.no_learn
  where
    by_mark : (b : Bool) → frame_of (cond b (126 ∷ []) [] ++ hex_text f.bytes) ≡ record { bytes = f.bytes; no_learn = b }
    by_mark true = ap (λ (t : List ℕ). record { bytes = t; no_learn = true }) (bytes-back f.bytes all)
    by_mark false = plain-back f.bytes all

-- Items.

pub digit-free : (m : ℕ) → (IsDigit m → ⊥) → (n : ℕ) → IsFree (λ b. b == m) (decimal n)
digit-free m none n = each-weaker IsDigit (λ b. (b == m) ≡ false) (λ b h. unequal b m (λ e. none (rw (sym e) h))) (decimal n) (decimal-digits n)

span-back : (s : Span) → EndsAre Is32 s → span_of (span_text s) ≡ s
unfolding span_of
span-back s fits = by_test (s.first == s.last) refl
  where
    free : IsFree (λ b. b == 45) (decimal s.first)
    free = digit-free 45 dash-not_digit s.first

    by_test : (b : Bool) → (s.first == s.last) ≡ b → span_of (cond b (decimal s.first) (decimal s.first ++ codes "-" ++ decimal s.last)) ≡ s
    by_test true is =
        ap (λ (k : Option ℕ). span_by k (decimal s.first)) (mark-missed 45 (decimal s.first) free)
        ∙ (ap single_span (short-back s.first fits.0)
        ∙ ap (λ (n : ℕ). record s { last = n }) (eqb-true s.first s.last is))
    by_test false is =
        let first : List ℕ = decimal s.first in
        let last : List ℕ = decimal s.last in
        let found : mark_in 45 (first ++ 45 ∷ last) ≡ Some (length first) = mark-found 45 first last refl free in
        let front : short_of (take (length first) (first ++ 45 ∷ last)) ≡ s.first = ap short_of (take-front first (45 ∷ last)) ∙ short-back s.first fits.0 in
        let back : short_of (drop (length first + 1) (first ++ 45 ∷ last)) ≡ s.last = ap short_of (drop-front 45 first last) ∙ short-back s.last fits.1 in
        ap span_of (dashed s.first s.last)
        ∙ ap (λ (k : Option ℕ). span_by k (first ++ 45 ∷ last)) found
        ∙ ap (λ (n : ℕ). record { first = n; last = short_of (drop (length first + 1) (first ++ 45 ∷ last)) }) front
        ∙ ap (λ (n : ℕ). record s { last = n }) back

pub dest-back : (d : Dest) → DestFits field_widths d → dest_of (dest_text d) ≡ d
unfolding dest_of
dest-back d fits =
    let to : List ℕ = decimal d.to.0 in
    let count : List ℕ = decimal d.count in
    let whole : dest_text d ≡ to ++ 42 ∷ count = append_assoc to (42 ∷ []) count in
    let found : mark_in 42 (to ++ 42 ∷ count) ≡ Some (length to) = mark-found 42 to count refl (digit-free 42 (λ h. absurd (omega (arith, h.0))) d.to.0) in
    let front : short_of (take (length to) (to ++ 42 ∷ count)) ≡ d.to.0 = ap short_of (take-front to (42 ∷ count)) ∙ short-back d.to.0 fits.0 in
    let back : short_of (drop (length to + 1) (to ++ 42 ∷ count)) ≡ d.count = ap short_of (drop-front 42 to count) ∙ short-back d.count fits.1 in
    ap dest_of whole
    ∙ ap (λ (k : Option ℕ). record { to = (record { 0 = short_of (front_by k (to ++ 42 ∷ count)) }); count = short_of (back_by k (to ++ 42 ∷ count)) }) found
    ∙ ap (λ (n : ℕ). record { to = (record { 0 = n }); count = short_of (drop (length to + 1) (to ++ 42 ∷ count)) }) front
    ∙ ap (λ (n : ℕ). record d { count = n }) back

pub item-back : (i : Item) → FitsItem i → is_unmarked i ≡ true → item_of (item_text i) ≡ i
unfolding item_of
item-back i fits plain =
    let index : List ℕ = decimal i.index in
    let digits : List ℕ = hex_text i.bytes.bytes in
    let whole : item_text i ≡ index ++ 58 ∷ digits = append_assoc index (58 ∷ []) digits in
    let found : mark_in 58 (index ++ 58 ∷ digits) ≡ Some (length index) = mark-found 58 index digits refl (digit-free 58 (λ h. absurd (omega (arith, h.1))) i.index) in
    let front : short_of (take (length index) (index ++ 58 ∷ digits)) ≡ i.index = ap short_of (take-front index (58 ∷ digits)) ∙ short-back i.index fits.0 in
    let back : bytes_of (drop (length index + 1) (index ++ 58 ∷ digits)) ≡ i.bytes.bytes = ap bytes_of (drop-front 58 index digits) ∙ bytes-back i.bytes.bytes fits.1 in
    let mark : i.bytes.no_learn ≡ false = no-mark i.bytes.no_learn plain in
    ap item_of whole
    ∙ ap (λ (k : Option ℕ). record { index = short_of (front_by k (index ++ 58 ∷ digits)); bytes = (record { bytes = bytes_of (back_by k (index ++ 58 ∷ digits)); no_learn = false }) }) found
    ∙ ap (λ (n : ℕ). record { index = n; bytes = (record { bytes = bytes_of (drop (length index + 1) (index ++ 58 ∷ digits)); no_learn = false }) }) front
    ∙ ap (λ (t : List ℕ). record { index = i.index; bytes = (record { bytes = t; no_learn = false }) }) back
    ∙ ap (λ (b : Bool). record i { bytes = record { bytes = i.bytes.bytes; no_learn = b } }) (sym mark)

-- Lists.

map-back : {X : Type 0} (f : X → List ℕ) (g : List ℕ → X) (P : X → Type 0) → ((x : X) → P x → g (f x) ≡ x) → (xs : List X) → Each P xs → map g (map f xs) ≡ xs
map-back f g P back [] all = refl
map-back f g P back (x ∷ xs) all =
    let head = back x all.0 in
    let tail = map-back f g P back xs all.1 in
    cc

pub buffers-back : (version : ℕ) (xs : List ℕ) → Each Is32 xs → numbers_of (buffers_text version xs) ≡ xs
buffers-back version xs all =
    ap (λ (t : List (List ℕ)). flat_map numbers_in (map span_of t)) (list-back (map span_text (spans_in version xs)) (spans-parts (spans_in version xs)))
    ∙ (ap (flat_map numbers_in) (map-back span_text span_of (EndsAre Is32) span-back (spans_in version xs) (ends-are Is32 version xs all))
    ∙ spans-tell version xs)

pub dests-back : (xs : List Dest) → Each (DestFits field_widths) xs → dests_of (dests_text xs) ≡ xs
dests-back xs all =
    ap (map dest_of) (list-back (map dest_text xs) (each-map (DestFits field_widths) IsPart dest_text (λ d h. dest-part d) xs all)) ∙ map-back dest_text dest_of (DestFits field_widths) dest-back xs all

abbrev IsReadItem : Item → Type 0
IsReadItem item = FitsItem item × (is_unmarked item ≡ true)

pub items-back : (xs : List Item) → Each FitsItem xs → Each (λ item. is_unmarked item ≡ true) xs → items_of (items_text xs) ≡ xs
items-back xs fits plain =
    let all : Each IsReadItem xs = both xs fits plain in
    ap (map item_of) (list-back (map item_text xs) (each-map IsReadItem IsPart item_text (λ i h. taken-part i) xs all))
    ∙ map-back item_text item_of IsReadItem (λ i h. item-back i h.0 h.1) xs all
  where
    both : (xs : List Item) → Each FitsItem xs → Each (λ item. is_unmarked item ≡ true) xs → Each IsReadItem xs
    both [] fits plain = tt
    both (x ∷ xs) fits plain = ((fits.0, plain.0), both xs fits.1 plain.1)

pub frames-back : (fs : List Frame) → Each AreBytes fs → frames_of (frames_text fs) ≡ fs
frames-back fs all = ap (map frame_of) (list-back (map frame_text fs) (frames-parts fs)) ∙ map-back frame_text frame_of AreBytes frame-back fs all
