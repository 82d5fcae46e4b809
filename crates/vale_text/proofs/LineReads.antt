-- Each line of a transcript is read as what it tells, and what is read of a line has this line.
use Rattle.std.specs.List.{AllByRecursion as Each, list_all}
use Rattle.std.proofs.Common.{ℕ, ◌≤◌, ◌≡◌, ◌==◌, ◌&&◌, nat_le, Bool, true, false, not, if◌then◌else◌, List, [], ◌∷◌, ◌++◌, drop, codes, decimal, bytes_eq, slice_index, Option, Some, None, IfSome, refl, sym, ◌∙◌, ap, subst, arith, append_assoc}
use Rattle.std.proofs.lemmas.Bool.{and_parts, leb-true}
use Rattle.std.proofs.lemmas.Bool.Decides.{nat_tests}
use Rattle.std.proofs.lemmas.List.{append-nil}
use Rattle.std.proofs.lemmas.Slice.Eq.{bytes_eq-Decides}
use Rattle.nm_types.specs.Limits.{most_pool}
use Rattle.vale_entry.specs.declared.entry.Entry.{Entry}
use Rattle.vale_entry.specs.Transcript.{words_text, entry_line, start_line, end_line, is_printable, IsPrintable}
use Rattle.vale_entry.proofs.Each.{each-weaker, each-append}
use Rattle.vale_fields.specs.Fields.{short_of, front_by, back_by}
use Rattle.vale_fields.specs.Lists.{is_blank, words_of}
use Rattle.vale_fields.specs.Rows.{entry_of}
use Rattle.vale_fields.specs.Widths.{Is32, FitsFields}
use Rattle.vale_fields.proofs.Back.{digit-free}
use Rattle.vale_fields.proofs.Cuts.{IsWordByte, IsWord}
use Rattle.vale_fields.proofs.Entries.{words-read}
use Rattle.vale_fields.proofs.Numerals.{short-back, short-fits}
use Rattle.vale_fields.proofs.Sizes.{what-fits}
use Rattle.vale_fields.proofs.Splits.{unequal, split-front, split-last, IsFree, mark-found, take-front, drop-front}
use Rattle.vale_fields.proofs.Texts.{IsDigit, decimal-word}
use Rattle.vale_text.specs.Lines.{is_line_feed, IsLine, front_of, back_of, version_in, pool_in, first_most_pool, most_pool_of, is_version, is_pool, is_start, free_in, is_end, kept_if, entry_in}
use Rattle.vale_text.specs.Reading.{IsHead}
use Rattle.vale_text.proofs.Lines.{entry_words, said-words, are-words, Says, says}
use Rattle.vale_text.proofs.Wider.{entry-wider}

no-truth : {X : Type 0} → false ≡ true → X
no-truth e = absurd cc

pub both-true : (a b : Bool) → a ≡ true → b ≡ true → (a && b) ≡ true
both-true true b p q = q
both-true false b p q = no-truth p

pub bytes-same : (w : List ℕ) → bytes_eq w w ≡ true
bytes-same w = (bytes_eq-Decides w w).1 refl

-- Words.

blank-free : (b : ℕ) → IsWordByte b → is_blank b ≡ false
blank-free b h = unequal b 32 (λ e. absurd (omega (arith, h, e)))

feed-free : (b : ℕ) → IsWordByte b → is_line_feed b ≡ false
feed-free b h = unequal b 10 (λ e. absurd (omega (arith, h, e)))

split-words : (w : List ℕ) (ws : List (List ℕ)) → IsWord w → Each IsWord ws → words_of (w ++ words_text ws) ≡ w ∷ ws
split-words w [] word words = ap words_of (append-nil w) ∙ split-last is_blank w (each-weaker IsWordByte (λ b. is_blank b ≡ false) blank-free w word)
split-words w (v ∷ vs) word words =
    split-front is_blank 32 w (v ++ words_text vs) refl (each-weaker IsWordByte (λ b. is_blank b ≡ false) blank-free w word)
    ∙ ap (λ (t : List (List ℕ)). w ∷ t) (split-words v vs words.0 words.1)

words-free : (ws : List (List ℕ)) → Each IsWord ws → IsFree is_line_feed (words_text ws)
words-free [] words = tt
words-free (w ∷ ws) words =
    (refl, each-append (λ b. is_line_feed b ≡ false) w (words_text ws) (each-weaker IsWordByte (λ b. is_line_feed b ≡ false) feed-free w words.0) (words-free ws words.1))

number-free : (n : ℕ) → IsFree is_line_feed (decimal n)
number-free n = each-weaker IsWordByte (λ b. is_line_feed b ≡ false) feed-free (decimal n) (decimal-word n)

-- Entries.

pub says-of : (n : ℕ) (e : Entry) → IsPrintable n e → FitsFields e → Says n e
says-of n e h fits = says n e h (entry-wider e fits)

entry-are-words : (v n : ℕ) (e : Entry) → Says n e → Each IsWord (entry_words v e)
entry-are-words v n e s = subst (Each IsWord) (sym (ap (entry_words v) s.is ∙ said-words v n s.said)) (are-words v s.said s.plain)

front-free : (v n : ℕ) (e : Entry) → Says n e → IsFree is_line_feed (decimal n ++ words_text (entry_words v e))
front-free v n e s =
    each-append (λ b. is_line_feed b ≡ false) (decimal n) (words_text (entry_words v e)) (number-free n) (words-free (entry_words v e) (entry-are-words v n e s))

pub entry-is-line : (v n : ℕ) (e : Entry) → Says n e → IsLine (entry_line v n e)
entry-is-line v n e s = record { text = decimal n ++ words_text (entry_words v e); is = refl; free = front-free v n e s }

-- what stands before the mark
front-is : (m : ℕ) (xs ys : List ℕ) → (m == m) ≡ true → IsFree (λ b. b == m) xs → front_of m (xs ++ m ∷ ys) ≡ xs
front-is m xs ys is free = ap (λ (k : Option ℕ). front_by k (xs ++ m ∷ ys)) (mark-found m xs ys is free) ∙ take-front xs (m ∷ ys)

back-is : (m : ℕ) (xs ys : List ℕ) → (m == m) ≡ true → IsFree (λ b. b == m) xs → back_of m (xs ++ m ∷ ys) ≡ ys
back-is m xs ys is free = ap (λ (k : Option ℕ). back_by k (xs ++ m ∷ ys)) (mark-found m xs ys is free) ∙ drop-front m xs ys

entry-read : (v n : ℕ) (e : Entry) → IsPrintable n e → FitsFields e → entry_of n (words_of (front_of 10 (entry_line v n e))) ≡ Some e
entry-read v n e h fits =
    let s = says-of n e h fits in
    ap (λ (t : List ℕ). entry_of n (words_of t)) (front-is 10 (decimal n ++ words_text (entry_words v e)) [] refl (front-free v n e s))
    ∙ ap (entry_of n) (split-words (decimal n) (entry_words v e) (decimal-word n) (entry-are-words v n e s))
    ∙ words-read v n (decimal n) e h fits

pub entry-complete : (v n : ℕ) (e : Entry) → IsPrintable n e → FitsFields e → entry_in v n (entry_line v n e) ≡ Some e
entry-complete v n e h fits =
    let line : List ℕ = entry_line v n e in
    ap (kept_if v n line) (entry-read v n e h fits)
    ∙ ap (λ (b : Bool). if b then Some e else None) (both-true (is_printable n e.session.0 e.ask e.reply) (bytes_eq line line) h (bytes-same line))

-- an entry and its line
pub record IsEntryLine (v n : ℕ) (line : List ℕ) (e : Entry) : Type 0 where
  pub printable : IsPrintable n e
  pub fits : FitsFields e
  pub is : line ≡ entry_line v n e

kept-sound : (v n : ℕ) (line : List ℕ) (o : Option Entry) (e : Entry) → IfSome o FitsFields → kept_if v n line o ≡ Some e → IsEntryLine v n line e
kept-sound v n line None e fits is = absurd cc
kept-sound v n line (Some x) e fits is = by_test (is_printable n x.session.0 x.ask x.reply && bytes_eq (entry_line v n x) line) refl is
  where
    by_test : (b : Bool) → (is_printable n x.session.0 x.ask x.reply && bytes_eq (entry_line v n x) line) ≡ b → (if b then Some x else None) ≡ Some e → IsEntryLine v n line e
    by_test true good same =
        let parts = and_parts (is_printable n x.session.0 x.ask x.reply) (bytes_eq (entry_line v n x) line) good in
        let text : entry_line v n x ≡ line = (bytes_eq-Decides (entry_line v n x) line).0 parts.1 in
        let one : x ≡ e = cc in
        subst (IsEntryLine v n line) one (record { printable = parts.0; fits = fits; is = sym text })
    by_test false good same = absurd cc

pub entry-sound : (v n : ℕ) (line : List ℕ) (e : Entry) → Is32 n → entry_in v n line ≡ Some e → IsEntryLine v n line e
entry-sound v n line e small is = kept-sound v n line (entry_of n (words_of (front_of 10 line))) e (what-fits n (words_of (front_of 10 line)) small) is

pub entry-none : (v n : ℕ) (line : List ℕ) (e : Entry) → entry_in v n line ≡ None → IsEntryLine v n line e → ⊥
entry-none v n line e none one =
    let some : entry_in v n line ≡ Some e = ap (entry_in v n) one.is ∙ entry-complete v n e one.printable one.fits in
    let apart : None ≡ Some e = sym none ∙ some in
    absurd cc

-- The first line.

feed-not_digit : IsDigit 10 → ⊥
feed-not_digit h = absurd (omega (arith, h.0))

blank-not_digit : IsDigit 32 → ⊥
blank-not_digit h = absurd (omega (arith, h.0))

-- what stands behind `vale` in a first line
start-tail : (v p : ℕ) → drop 5 (start_line v p) ≡ decimal v ++ 32 ∷ (codes "pool " ++ (decimal p ++ codes "\n"))
unfolding start_line
start-tail v p =
    append_assoc (decimal v ++ codes " pool ") (decimal p) (codes "\n") ∙ append_assoc (decimal v) (codes " pool ") (decimal p ++ codes "\n")

start-version : (v p : ℕ) → Is32 v → version_in (start_line v p) ≡ v
unfolding version_in
start-version v p small =
    ap (λ (t : List ℕ). short_of (front_of 32 t)) (start-tail v p)
    ∙ ap short_of (front-is 32 (decimal v) (codes "pool " ++ (decimal p ++ codes "\n")) refl (digit-free 32 blank-not_digit v))
    ∙ short-back v small

start-pool : (v p : ℕ) → Is32 p → pool_in (start_line v p) ≡ p
unfolding pool_in
start-pool v p small =
    ap (λ (t : List ℕ). short_of (front_of 10 (drop 5 (back_of 32 t)))) (start-tail v p)
    ∙ ap (λ (t : List ℕ). short_of (front_of 10 (drop 5 t))) (back-is 32 (decimal v) (codes "pool " ++ (decimal p ++ codes "\n")) refl (digit-free 32 blank-not_digit v))
    ∙ ap short_of (front-is 10 (decimal p) [] refl (digit-free 10 feed-not_digit p))
    ∙ short-back p small

at-most : (a b : ℕ) → a ≤ b → nat_le a b ≡ true
at-most a b h = grind (arith, nat_tests, h)

-- a pool fits 32 bits in each version
pub pool-small : (v p : ℕ) → p ≤ most_pool_of v → Is32 p
pool-small v p most = by_version (v == 1) most
  where
    by_version : (b : Bool) → p ≤ (if b then first_most_pool else most_pool) → Is32 p
    by_version true most = omega (arith, most)
    by_version false most = omega (arith, most)

pub head-version : (oldest v p : ℕ) → IsHead oldest v p → Is32 v
head-version oldest v p h = omega (arith, h.known)

pub head-pool : (oldest v p : ℕ) → IsHead oldest v p → Is32 p
head-pool oldest v p h = pool-small v p h.most

abbrev starts : ℕ → ℕ → ℕ → List ℕ → Bool
starts oldest v p line = is_version oldest v && (is_pool v p && bytes_eq (start_line v p) line)

pub start-complete : (oldest v p : ℕ) → IsHead oldest v p → is_start oldest (start_line v p) ≡ true
start-complete oldest v p h =
    let line : List ℕ = start_line v p in
    ap (λ (n : ℕ). starts oldest n (pool_in line) line) (start-version v p (head-version oldest v p h))
    ∙ ap (λ (n : ℕ). starts oldest v n line) (start-pool v p (head-pool oldest v p h))
    ∙ both-true (is_version oldest v) (is_pool v p && bytes_eq line line)
    (both-true (nat_le oldest v) (nat_le v 2) (at-most oldest v h.since) (at-most v 2 h.known))
    (both-true (is_pool v p) (bytes_eq line line) (both-true (nat_le 1 p) (nat_le p (most_pool_of v)) (at-most 1 p h.least) (at-most p (most_pool_of v) h.most)) (bytes-same line))

-- a line that is the first one of a text of this version and pool
pub record IsStart (oldest version pool : ℕ) (line : List ℕ) : Type 0 where
  pub head : IsHead oldest version pool
  pub is : line ≡ start_line version pool

pub start-sound : (oldest : ℕ) (line : List ℕ) → is_start oldest line ≡ true → IsStart oldest (version_in line) (pool_in line) line
start-sound oldest line h =
    let v : ℕ = version_in line in
    let p : ℕ = pool_in line in
    let parts = and_parts (is_version oldest v) (is_pool v p && bytes_eq (start_line v p) line) h in
    let known = and_parts (nat_le oldest v) (nat_le v 2) parts.0 in
    let more = and_parts (is_pool v p) (bytes_eq (start_line v p) line) parts.1 in
    let range = and_parts (nat_le 1 p) (nat_le p (most_pool_of v)) more.0 in
    record {
      head = record {
        since = leb-true oldest v known.0;
        known = leb-true v 2 known.1;
        least = leb-true 1 p range.0;
        most = leb-true p (most_pool_of v) range.1;
      };
      is = sym ((bytes_eq-Decides (start_line v p) line).0 more.1);
    }

free-text : (w : List ℕ) → list_all (λ b. not (is_line_feed b)) w ≡ true → IsFree is_line_feed w
free-text [] h = tt
free-text (b ∷ bs) h =
    let parts = and_parts (not (is_line_feed b)) (list_all (λ b. not (is_line_feed b)) bs) h in
    (negated (is_line_feed b) parts.0, free-text bs parts.1)
  where
    negated : (c : Bool) → not c ≡ true → c ≡ false
    negated true e = sym e
    negated false e = refl

pub start-is-line : (v p : ℕ) → IsLine (start_line v p)
unfolding start_line
start-is-line v p = record {
  text = codes "vale " ++ decimal v ++ codes " pool " ++ decimal p;
  is = refl;
  free =
      each-append (λ b. is_line_feed b ≡ false) (codes "vale " ++ decimal v ++ codes " pool ") (decimal p)
      (each-append (λ b. is_line_feed b ≡ false) (codes "vale " ++ decimal v) (codes " pool ")
      (each-append (λ b. is_line_feed b ≡ false) (codes "vale ") (decimal v) (free-text (codes "vale ") refl) (number-free v)) (free-text (codes " pool ") refl))
      (number-free p);
}

-- The last line.

pub end-free : (c f : ℕ) → Is32 f → free_in (end_line c f) ≡ f
unfolding end_line free_in
end-free c f small =
    let count : List ℕ = decimal c in
    let free : List ℕ = decimal f in
    let feed : List ℕ = codes "\n" in
    let behind : List ℕ = codes "free " ++ (free ++ feed) in
    let tail : count ++ codes " free " ++ free ++ feed ≡ count ++ 32 ∷ behind =
    append_assoc (count ++ codes " free ") free feed ∙ append_assoc count (codes " free ") (free ++ feed) in
    ap (λ (t : List ℕ). short_of (front_of 10 (drop 5 (back_of 32 t)))) tail
    ∙ ap (λ (t : List ℕ). short_of (front_of 10 (drop 5 t))) (back-is 32 count behind refl (digit-free 32 blank-not_digit c))
    ∙ ap short_of (front-is 10 free [] refl (digit-free 10 feed-not_digit f))
    ∙ short-back f small

end-begins : (c f : ℕ) → slice_index (end_line c f) 0 ≡ 101
unfolding end_line
end-begins c f = refl

pub end-complete : (c f : ℕ) → Is32 f → is_end c (end_line c f) ≡ true
end-complete c f small =
    ap (λ (k : ℕ). bytes_eq (end_line c k) (end_line c f)) (end-free c f small) ∙ bytes-same (end_line c f)

pub record IsEnd (count : ℕ) (line : List ℕ) : Type 0 where
  pub free : ℕ
  pub small : Is32 free
  pub is : line ≡ end_line count free

pub free-small : (line : List ℕ) → Is32 (free_in line)
unfolding free_in
free-small line = short-fits (front_of 10 (drop 5 (back_of 32 (drop 4 line))))

pub end-sound : (c : ℕ) (line : List ℕ) → is_end c line ≡ true → IsEnd c line
end-sound c line h =
    record { free = free_in line; small = free-small line; is = sym ((bytes_eq-Decides (end_line c (free_in line)) line).0 h) }

-- the last line, by what it tells
pub end-told : (c : ℕ) (line : List ℕ) → is_end c line ≡ true → line ≡ end_line c (free_in line)
end-told c line h = sym ((bytes_eq-Decides (end_line c (free_in line)) line).0 h)

-- a line that begins with another letter is not the last one
pub not_end : (c : ℕ) (line : List ℕ) → (slice_index line 0 == 101) ≡ false → is_end c line ≡ false
not_end c line apart = by_test (bytes_eq (end_line c (free_in line)) line) refl
  where
    by_test : (b : Bool) → is_end c line ≡ b → is_end c line ≡ false
    by_test false is = is
    by_test true is =
        let same : end_line c (free_in line) ≡ line = (bytes_eq-Decides (end_line c (free_in line)) line).0 is in
        let first : slice_index line 0 ≡ 101 = ap (λ (l : List ℕ). slice_index l 0) (sym same) ∙ end-begins c (free_in line) in
        absurd (no-truth (sym apart ∙ ap (λ (b : ℕ). b == 101) first))

pub ruleset ends = (not_end)

pub end-none : (c : ℕ) (line : List ℕ) → is_end c line ≡ false → IsEnd c line → ⊥
end-none c line none one =
    let some : is_end c line ≡ true = ap (is_end c) one.is ∙ end-complete c one.free one.small in
    let apart : false ≡ true = sym none ∙ some in
    no-truth apart

pub start-none : (oldest v p : ℕ) (line : List ℕ) → is_start oldest line ≡ false → IsStart oldest v p line → ⊥
start-none oldest v p line none one =
    let some : is_start oldest line ≡ true = ap (is_start oldest) one.is ∙ start-complete oldest v p one.head in
    let apart : false ≡ true = sym none ∙ some in
    no-truth apart

pub end-is-line : (c f : ℕ) → IsLine (end_line c f)
unfolding end_line
end-is-line c f = record {
  text = codes "end " ++ decimal c ++ codes " free " ++ decimal f;
  is = refl;
  free =
      each-append (λ b. is_line_feed b ≡ false) (codes "end " ++ decimal c ++ codes " free ") (decimal f)
      (each-append (λ b. is_line_feed b ≡ false) (codes "end " ++ decimal c) (codes " free ")
      (each-append (λ b. is_line_feed b ≡ false) (codes "end ") (decimal c) (free-text (codes "end ") refl) (number-free c)) (free-text (codes " free ") refl))
      (number-free f);
}
