-- What numbers, frames and destinations are as text: of which bytes, and that each text is one value's.
use Rattle.std.specs.List.{AllByRecursion as Each, list_all}
use Rattle.std.specs.Fmt.{digits, digits_onto, digit_glyph}
use Rattle.std.proofs.Common.{ℕ, zero, suc, ◌+◌, ◌*◌, ◌/◌, ◌%◌, ◌<◌, ◌≡◌, inl, inr, ◌==◌, nat_lt, Bool, true, false, cond, List, [], ◌∷◌, ◌++◌, length, map, flat_map, codes, decimal, refl, sym, ◌∙◌, ap, subst, arith, append_assoc, not}
use Rattle.std.proofs.lemmas.Bool.{ltb-true, eqb-true, and_parts}
use Rattle.std.proofs.lemmas.List.{append-nil}
use Rattle.std.proofs.lemmas.Fmt.{decimal_injective}
use Rattle.nm_types.specs.Frames.{Frame}
use Rattle.vale_entry.specs.declared.entry.Dest.{Dest}
use Rattle.vale_entry.specs.declared.entry.Item.{Item}
use Rattle.vale_entry.specs.declared.entry.Span.{Span}
use Rattle.vale_entry.specs.Spans.{spans_in, numbers_in}
use Rattle.vale_entry.specs.Transcript.{is_unmarked, item_text, items_text}
use Rattle.vale_entry.specs.Transcript.{hex_digit, hex_byte, hex_text, list_text, frame_text, frames_text, span_text, buffers_text, dest_text, dests_text}
use Rattle.vale_entry.specs.Fits.{FitsU64, FitsItem, u64_widths, DestFits}
use Rattle.vale_entry.proofs.Spans.{EndsAre, ends-are, spans-tell}
use Rattle.vale_entry.proofs.Each.{each-weaker, each-append, each-map}
use Rattle.vale_fields.proofs.Cuts.{cut, IsWordByte, IsWord, IsPartByte, IsPart, IsItemByte, IsItem, item-part, list-same, list-word, map-apart}

-- Lists of texts.

-- lists are told apart where their elements are
lists-same : {X : Type 0} (text : X → List ℕ) (Fits : X → Type 0)
    → ((x : X) → Fits x → IsPart (text x))
    → ((x y : X) → Fits x → Fits y → text x ≡ text y → x ≡ y)
    → (xs ys : List X) → Each Fits xs → Each Fits ys
    → list_text (map text xs) ≡ list_text (map text ys) → xs ≡ ys
lists-same text Fits part same xs ys px py e =
    map-apart text Fits same xs ys px py (list-same (map text xs) (map text ys)
    (each-map Fits IsPart text part xs px) (each-map Fits IsPart text part ys py) e)

lists-word : {X : Type 0} (text : X → List ℕ) (Fits : X → Type 0)
    → ((x : X) → Fits x → IsPart (text x)) → (xs : List X) → Each Fits xs
    → IsWord (list_text (map text xs))
lists-word text Fits part xs px = list-word (map text xs) (each-map Fits IsPart text part xs px)

-- Decimal numbers.

abbrev pub IsDigit : ℕ → Type 0
IsDigit b = (47 < b) × (b < 58)

glyph-digit : (d : ℕ) → d < 10 → (b : Bool) → nat_lt d 10 ≡ b → IsDigit (cond b (48 + d) (87 + d))
glyph-digit d small true is = (omega arith, omega arith)
glyph-digit d small false is = absurd (grind (arith))

one-digit : (n : ℕ) → IsDigit (digit_glyph false (n % 10))
one-digit n = glyph-digit (n % 10) (omega arith) (nat_lt (n % 10) 10) refl

digits-by : (b : Bool) (x y : List ℕ) → Each IsDigit x → Each IsDigit y → Each IsDigit (cond b x y)
digits-by true x y px py = px
digits-by false x y px py = py

onto-digits : (k n : ℕ) (acc : List ℕ) → Each IsDigit acc → Each IsDigit (digits_onto k 10 false n acc)
onto-digits zero n acc all = all
onto-digits (suc k) n acc all =
    let more : Each IsDigit (digit_glyph false (n % 10) ∷ acc) = (one-digit n, all) in
    digits-by (n / 10 == 0) (digit_glyph false (n % 10) ∷ acc) (digits_onto k 10 false (n / 10) (digit_glyph false (n % 10) ∷ acc)) more
    (onto-digits k (n / 10) (digit_glyph false (n % 10) ∷ acc) more)

pub decimal-digits : (n : ℕ) → Each IsDigit (decimal n)
unfolding digits
decimal-digits n = onto-digits 64 n [] tt

digit-word : (b : ℕ) → IsDigit b → IsWordByte b
digit-word b h = omega (arith, h.0)

digit-item : (b : ℕ) → IsDigit b → IsItemByte b
digit-item b h = inr (omega (arith, h.0))

pub decimal-word : (n : ℕ) → IsWord (decimal n)
decimal-word n = each-weaker IsDigit IsWordByte digit-word (decimal n) (decimal-digits n)

pub decimal-item : (n : ℕ) → IsItem (decimal n)
decimal-item n = each-weaker IsDigit IsItemByte digit-item (decimal n) (decimal-digits n)

-- no number begins with this byte
pub no-number : (ds : List ℕ) (s x : ℕ) (a b : List ℕ) → Each IsDigit ds → 58 < x → s < 58 → ds ++ s ∷ a ≡ x ∷ b → ⊥
no-number [] s x a b all big small e = let same : s ≡ x = cc in absurd (omega arith)
no-number (d ∷ ds) s x a b all big small e = let same : d ≡ x = cc in let here = all.0.1 in absurd (omega (arith, here, same))

pub not-number : (ds : List ℕ) (x : ℕ) (b : List ℕ) → Each IsDigit ds → 58 < x → ds ≡ x ∷ b → ⊥
not-number [] x b all big e = cc
not-number (d ∷ ds) x b all big e = let same : d ≡ x = cc in let here = all.0.1 in absurd (omega (arith, here, same))

pub decimal-same : (m n : ℕ) → FitsU64 m → FitsU64 n → decimal m ≡ decimal n → m ≡ n
decimal-same m n = decimal_injective m n

-- Spans of buffers.

onto-some : (k n : ℕ) (acc : List ℕ) → 0 < length acc → 0 < length (digits_onto k 10 false n acc)
onto-some zero n acc some = some
onto-some (suc k) n acc some =
    either (n / 10 == 0) (onto-some k (n / 10) (digit_glyph false (n % 10) ∷ acc) (omega arith))
  where
    either : (b : Bool) → 0 < length (digits_onto k 10 false (n / 10) (digit_glyph false (n % 10) ∷ acc))
        → 0 < length (cond b (digit_glyph false (n % 10) ∷ acc) (digits_onto k 10 false (n / 10) (digit_glyph false (n % 10) ∷ acc)))
    either true more = omega arith
    either false more = more

decimal-some : (n : ℕ) → 0 < length (decimal n)
unfolding digits
decimal-some n = either (n / 10 == 0)
  where
    either : (b : Bool) → 0 < length (cond b (digit_glyph false (n % 10) ∷ []) (digits_onto 63 10 false (n / 10) (digit_glyph false (n % 10) ∷ [])))
    either true = omega arith
    either false = onto-some 63 (n / 10) (digit_glyph false (n % 10) ∷ []) (omega arith)

pub dash-not_digit : IsDigit 45 → ⊥
dash-not_digit h = absurd (omega (arith, h.0))

digit-part : (b : ℕ) → IsDigit b → IsPartByte b
digit-part b h = inr (omega (arith, h.0))

digits-part : (n : ℕ) → Each IsPartByte (decimal n)
digits-part n = each-weaker IsDigit IsPartByte digit-part (decimal n) (decimal-digits n)

-- two numbers with a dash between them
pub dashed : (m n : ℕ) → decimal m ++ codes "-" ++ decimal n ≡ decimal m ++ 45 ∷ decimal n
dashed m n = append_assoc (decimal m) (45 ∷ []) (decimal n)

span-part : (s : Span) → IsPart (span_text s)
span-part s = by_test (s.first == s.last)
  where
    lone : (ds : List ℕ) → 0 < length ds → Each IsDigit ds → (rest : List ℕ) → ds ++ rest ≡ 45 ∷ [] → ⊥
    lone [] some all rest e = absurd (omega (arith, some))
    lone (d ∷ ds) some all rest e = let same : d ≡ 45 = cc in dash-not_digit (subst IsDigit same all.0)

    by_test : (b : Bool) → IsPart (cond b (decimal s.first) (decimal s.first ++ codes "-" ++ decimal s.last))
    by_test true = record {
      bytes = digits-part s.first;
      some = λ e. lone (decimal s.first) (decimal-some s.first) (decimal-digits s.first) [] (append-nil (decimal s.first) ∙ e);
    }
    by_test false = record {
      bytes = each-append IsPartByte (decimal s.first ++ 45 ∷ []) (decimal s.last) (each-append IsPartByte (decimal s.first) (45 ∷ []) (digits-part s.first) (inr (omega arith), tt)) (digits-part s.last);
      some = λ e. lone (decimal s.first) (decimal-some s.first) (decimal-digits s.first) (45 ∷ decimal s.last) (sym (dashed s.first s.last) ∙ e);
    }

-- a number is not two
number-apart : (a b c : ℕ) → decimal a ≡ decimal b ++ codes "-" ++ decimal c → ⊥
number-apart a b c e =
    let parts = cut IsDigit (decimal a) (decimal b) 44 45 [] (decimal c ++ 44 ∷ []) (λ h. absurd (omega (arith, h.0))) dash-not_digit (decimal-digits a) (decimal-digits b)
    (ap (λ (t : List ℕ). t ++ 44 ∷ []) (e ∙ dashed b c) ∙ append_assoc (decimal b) (45 ∷ decimal c) (44 ∷ [])) in
    absurd (omega (arith, parts.1.0))

span-by : (s t : Span) (p q : Bool) → (s.first == s.last) ≡ p → (t.first == t.last) ≡ q → EndsAre FitsU64 s → EndsAre FitsU64 t
    → cond p (decimal s.first) (decimal s.first ++ codes "-" ++ decimal s.last) ≡ cond q (decimal t.first) (decimal t.first ++ codes "-" ++ decimal t.last)
    → (s.first ≡ t.first) × (s.last ≡ t.last)
span-by s t true true is also ps pt e =
    let first = decimal-same s.first t.first ps.0 pt.0 e in
    (first, sym (eqb-true s.first s.last is) ∙ (first ∙ eqb-true t.first t.last also))
span-by s t true false is also ps pt e = absurd (number-apart s.first t.first t.last e)
span-by s t false true is also ps pt e = absurd (number-apart t.first s.first s.last (sym e))
span-by s t false false is also ps pt e =
    let c = cut IsDigit (decimal s.first) (decimal t.first) 45 45 (decimal s.last) (decimal t.last) dash-not_digit dash-not_digit (decimal-digits s.first) (decimal-digits t.first)
    (sym (dashed s.first s.last) ∙ (e ∙ dashed t.first t.last)) in
    (decimal-same s.first t.first ps.0 pt.0 c.0, decimal-same s.last t.last ps.1 pt.1 c.1.1)

span-same : (s t : Span) → EndsAre FitsU64 s → EndsAre FitsU64 t → span_text s ≡ span_text t → s ≡ t
span-same s t ps pt e =
    let ends = span-by s t (s.first == s.last) (t.first == t.last) refl refl ps pt e in
    ap (λ (n : ℕ). record s { first = n }) ends.0 ∙ ap (λ (n : ℕ). record t { last = n }) ends.1

pub spans-parts : (spans : List Span) → Each IsPart (map span_text spans)
spans-parts [] = tt
spans-parts (s ∷ spans) = (span-part s, spans-parts spans)

pub buffers-same : (version : ℕ) (xs ys : List ℕ) → Each FitsU64 xs → Each FitsU64 ys → buffers_text version xs ≡ buffers_text version ys → xs ≡ ys
buffers-same version xs ys px py e =
    let spans : spans_in version xs ≡ spans_in version ys =
    lists-same span_text (EndsAre FitsU64) (λ s h. span-part s) span-same (spans_in version xs) (spans_in version ys)
    (ends-are FitsU64 version xs px) (ends-are FitsU64 version ys py) e in
    sym (spans-tell version xs) ∙ (ap (flat_map numbers_in) spans ∙ spans-tell version ys)

pub buffers-word : (version : ℕ) (xs : List ℕ) → IsWord (buffers_text version xs)
buffers-word version xs = list-word (map span_text (spans_in version xs)) (spans-parts (spans_in version xs))

-- Destinations.

star-not_digit : IsDigit 42 → ⊥
star-not_digit h = absurd (omega (arith, h.0))

dest-item : (d : Dest) → IsItem (dest_text d)
dest-item d = each-append IsItemByte (decimal d.to.0 ++ 42 ∷ []) (decimal d.count) (each-append IsItemByte (decimal d.to.0) (42 ∷ []) (decimal-item d.to.0) (inl refl, tt)) (decimal-item d.count)

dest-same : (d e : Dest) → DestFits u64_widths d → DestFits u64_widths e → dest_text d ≡ dest_text e → d ≡ e
dest-same d e pd pe same =
    let c = cut IsDigit (decimal d.to.0) (decimal e.to.0) 42 42 (decimal d.count) (decimal e.count) star-not_digit star-not_digit (decimal-digits d.to.0) (decimal-digits e.to.0)
    (sym (append_assoc (decimal d.to.0) (42 ∷ []) (decimal d.count)) ∙ (same ∙ append_assoc (decimal e.to.0) (42 ∷ []) (decimal e.count))) in
    let to = decimal-same d.to.0 e.to.0 pd.0 pe.0 c.0 in
    let count = decimal-same d.count e.count pd.1 pe.1 c.1.1 in
    ap (λ (n : ℕ). record d { to = record { 0 = n } }) to ∙ ap (λ (n : ℕ). record e { count = n }) count

pub dest-part : (d : Dest) → IsPart (dest_text d)
dest-part d = item-part (dest_text d) (dest-item d)

pub dests-same : (xs ys : List Dest) → Each (DestFits u64_widths) xs → Each (DestFits u64_widths) ys → dests_text xs ≡ dests_text ys → xs ≡ ys
dests-same = lists-same dest_text (DestFits u64_widths) (λ d h. dest-part d) dest-same

pub dests-word : (xs : List Dest) → Each (DestFits u64_widths) xs → IsWord (dests_text xs)
dests-word = lists-word dest_text (DestFits u64_widths) (λ d h. dest-part d)

-- Frames.

hex-digit-by : (m n : ℕ) (p q : Bool) → nat_lt m 10 ≡ p → nat_lt n 10 ≡ q → cond p (48 + m) (87 + m) ≡ cond q (48 + n) (87 + n) → m ≡ n
hex-digit-by m n true true mp nq e = omega arith
hex-digit-by m n true false mp nq e = let small = ltb-true m 10 mp in absurd (omega (arith, small, e))
hex-digit-by m n false true mp nq e = let small = ltb-true n 10 nq in absurd (omega (arith, small, e))
hex-digit-by m n false false mp nq e = omega arith

hex-digit-same : (m n : ℕ) → hex_digit m ≡ hex_digit n → m ≡ n
hex-digit-same m n e = hex-digit-by m n (nat_lt m 10) (nat_lt n 10) refl refl e

hex-digit-high : (n : ℕ) → 47 < hex_digit n
hex-digit-high n = by_small (nat_lt n 10)
  where
    by_small : (b : Bool) → 47 < cond b (48 + n) (87 + n)
    by_small true = omega arith
    by_small false = omega arith

hex-byte-same : (b c : ℕ) → b / 16 ≡ c / 16 → b % 16 ≡ c % 16 → b ≡ c
hex-byte-same b c high low = omega arith

hex-same : (bs cs : List ℕ) → flat_map hex_byte bs ≡ flat_map hex_byte cs → bs ≡ cs
hex-same [] [] e = refl
hex-same [] (c ∷ cs) e = absurd cc
hex-same (b ∷ bs) [] e = absurd cc
hex-same (b ∷ bs) (c ∷ cs) e =
    let high : hex_digit (b / 16) ≡ hex_digit (c / 16) = cc in
    let low : hex_digit (b % 16) ≡ hex_digit (c % 16) = cc in
    let more : flat_map hex_byte bs ≡ flat_map hex_byte cs = cc in
    let head : b ≡ c = hex-byte-same b c (hex-digit-same (b / 16) (c / 16) high) (hex-digit-same (b % 16) (c % 16) low) in
    let tail : bs ≡ cs = hex-same bs cs more in
    cc

-- each byte is two digits
hex-length : (bs : List ℕ) → length (flat_map hex_byte bs) ≡ 2 * length bs
hex-length [] = refl
hex-length (b ∷ bs) = let rest = hex-length bs in omega arith

hex-text-same : (bs cs : List ℕ) → hex_text bs ≡ hex_text cs → bs ≡ cs
hex-text-same [] [] e = refl
hex-text-same [] (c ∷ cs) e = absurd cc
hex-text-same (b ∷ bs) [] e = absurd cc
hex-text-same (b ∷ bs) (c ∷ cs) e = hex-same (b ∷ bs) (c ∷ cs) e

-- a tilde before it makes another text
tilde-apart : (bs cs : List ℕ) → 126 ∷ hex_text bs ≡ hex_text cs → ⊥
tilde-apart [] [] e = absurd (cc)
tilde-apart [] (c ∷ cs) e =
    let dot : hex_digit (c % 16) ≡ 46 = cc in
    let high = hex-digit-high (c % 16) in
    absurd (omega (arith, dot, high))
tilde-apart (b ∷ bs) [] e = absurd cc
tilde-apart (b ∷ bs) (c ∷ cs) e =
    let one = hex-length (b ∷ bs) in
    let other = hex-length (c ∷ cs) in
    let same : 1 + length (flat_map hex_byte (b ∷ bs)) ≡ length (flat_map hex_byte (c ∷ cs)) = omega (arith, ap (length {A = ℕ}) e) in
    absurd (omega (arith, one, other, same))

frame-by : (bs cs : List ℕ) (m n : Bool) → cond m (126 ∷ []) [] ++ hex_text bs ≡ cond n (126 ∷ []) [] ++ hex_text cs → (m ≡ n) × (bs ≡ cs)
frame-by bs cs true true e = let same : hex_text bs ≡ hex_text cs = cc in (refl, hex-text-same bs cs same)
frame-by bs cs true false e = absurd (tilde-apart bs cs e)
frame-by bs cs false true e = absurd (tilde-apart cs bs (sym e))
frame-by bs cs false false e = (refl, hex-text-same bs cs e)

frame-same : (f g : Frame) → frame_text f ≡ frame_text g → f ≡ g
frame-same f g e =
    let parts = frame-by f.bytes g.bytes f.no_learn g.no_learn e in
    ap (λ (bs : List ℕ). record f { bytes = bs }) parts.1 ∙ ap (λ (b : Bool). record g { no_learn = b }) parts.0

hex-items : (bs : List ℕ) → IsItem (flat_map hex_byte bs)
hex-items [] = tt
hex-items (b ∷ bs) =
    let high = hex-digit-high (b / 16) in
    let low = hex-digit-high (b % 16) in
    (inr (omega (arith, high)), (inr (omega (arith, low)), hex-items bs))

hex-item : (bs : List ℕ) → IsItem (hex_text bs)
hex-item [] = (inr (omega arith), tt)
hex-item (b ∷ bs) = hex-items (b ∷ bs)

frame-item : (f : Frame) → IsItem (frame_text f)
frame-item f = by_mark f.no_learn
  where
    by_mark : (b : Bool) → IsItem (cond b (126 ∷ []) [] ++ hex_text f.bytes)
    by_mark true = (inr (omega arith), hex-item f.bytes)
    by_mark false = hex-item f.bytes

frame-part : (f : Frame) → IsPart (frame_text f)
frame-part f = item-part (frame_text f) (frame-item f)

pub frames-parts : (fs : List Frame) → Each IsPart (map frame_text fs)
frames-parts [] = tt
frames-parts (f ∷ fs) = (frame-part f, frames-parts fs)

any-each : {X : Type 0} (xs : List X) → Each (λ (x : X). Unit {0}) xs
any-each [] = tt
any-each (x ∷ xs) = (tt, any-each xs)

pub frames-same : (fs gs : List Frame) → frames_text fs ≡ frames_text gs → fs ≡ gs
frames-same fs gs e =
    lists-same frame_text (λ f. Unit {0}) (λ f h. frame-part f) (λ f g pf pg. frame-same f g) fs gs
    (any-each fs) (any-each gs) e

pub frames-word : (fs : List Frame) → IsWord (frames_text fs)
frames-word fs = lists-word frame_text (λ f. Unit {0}) (λ f h. frame-part f) fs (any-each fs)

-- Frames that a pipe took, with their buffers; none is marked.

abbrev pub IsPlainItem : Item → Type 0
IsPlainItem item = FitsItem item × (is_unmarked item ≡ true)

colon-not_digit : IsDigit 58 → ⊥
colon-not_digit h = absurd (omega (arith, h.1))

item-item : (i : Item) → IsItem (item_text i)
item-item i = each-append IsItemByte (decimal i.index ++ 58 ∷ []) (hex_text i.bytes.bytes) (each-append IsItemByte (decimal i.index) (58 ∷ []) (decimal-item i.index) (inr (omega arith), tt)) (hex-item i.bytes.bytes)

pub taken-part : (i : Item) → IsPart (item_text i)
taken-part i = item-part (item_text i) (item-item i)

pub no-mark : (b : Bool) → not b ≡ true → b ≡ false
no-mark true e = cc
no-mark false e = refl

item-same : (i j : Item) → IsPlainItem i → IsPlainItem j → item_text i ≡ item_text j → i ≡ j
item-same i j pi pj same =
    let c = cut IsDigit (decimal i.index) (decimal j.index) 58 58 (hex_text i.bytes.bytes) (hex_text j.bytes.bytes) colon-not_digit colon-not_digit (decimal-digits i.index) (decimal-digits j.index)
    (sym (append_assoc (decimal i.index) (58 ∷ []) (hex_text i.bytes.bytes)) ∙ (same ∙ append_assoc (decimal j.index) (58 ∷ []) (hex_text j.bytes.bytes))) in
    let index = decimal-same i.index j.index pi.0 pj.0 c.0 in
    let bytes = hex-text-same i.bytes.bytes j.bytes.bytes c.1.1 in
    let mark = no-mark i.bytes.no_learn pi.1 ∙ sym (no-mark j.bytes.no_learn pj.1) in
    ap (λ (n : ℕ). record i { index = n }) index
    ∙ ap (λ (bs : List ℕ). record j { bytes = record { bytes = bs; no_learn = i.bytes.no_learn } }) bytes
    ∙ ap (λ (b : Bool). record j { bytes = record { bytes = j.bytes.bytes; no_learn = b } }) mark

pub plain-items : (xs : List Item) → Each FitsItem xs → list_all is_unmarked xs ≡ true → Each IsPlainItem xs
plain-items [] fits plain = tt
plain-items (x ∷ xs) fits plain =
    let parts = and_parts (is_unmarked x) (list_all is_unmarked xs) plain in
    ((fits.0, parts.0), plain-items xs fits.1 parts.1)

pub items-same : (xs ys : List Item) → Each IsPlainItem xs → Each IsPlainItem ys → items_text xs ≡ items_text ys → xs ≡ ys
items-same = lists-same item_text IsPlainItem (λ i h. taken-part i) item-same

pub items-word : (xs : List Item) → Each IsPlainItem xs → IsWord (items_text xs)
items-word = lists-word item_text IsPlainItem (λ i h. taken-part i)
