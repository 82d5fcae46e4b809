-- The states of reading a transcript: what is read so far, the end, and each kind of fault.
use Rattle.std.specs.List.{AllByRecursion as Each, position, position_or_len}
use Rattle.std.proofs.Common.{ℕ, zero, suc, ◌+◌, ◌<◌, ◌≤◌, ◌^◌, ◌≡◌, ◌==◌, ◌⊎◌, inl, inr, Bool, true, false, cond, nat_lt, List, [], ◌∷◌, ◌++◌, length, take, drop, get_or, flat_map, Some, None, refl, sym, ◌∙◌, ap, subst, arith, append_assoc, take-append-drop, take_all}
use Rattle.std.proofs.lemmas.Bool.{eqb-true}
use Rattle.std.proofs.lemmas.Bool.Decides.{nat_tests}
use Rattle.std.proofs.lemmas.Grind.{flat_map-append}
use Rattle.std.proofs.lemmas.List.{append-nil, take_more}
use Rattle.std.proofs.lemmas.List.Quantifiers.{position-Some}
use Rattle.std.proofs.lemmas.List.Sums.{fails_before_first}
use Rattle.vale_entry.specs.declared.entry.Entry.{Entry}
use Rattle.vale_entry.specs.Laws.{ArePrintable}
use Rattle.vale_entry.specs.Transcript.{entry_line, entry_lines, start_line, end_line, text_of, IsPrintable}
use Rattle.vale_entry.proofs.Each.{each-append}
use Rattle.vale_fields.specs.Widths.{Is32, FitsFields}
use Rattle.vale_fields.proofs.Cuts.{cut}
use Rattle.vale_text.specs.Lines.{is_line_feed, IsLine, IsCut, IsUncut, version_in, pool_in, free_in, is_start, is_end, entry_in}
use Rattle.vale_text.specs.Reading.{IsHead, IsTold, IsTextWith, IsTextOf, numbered_lines, lines_of, BeginTranscript, IsFirstBad, IsReadTo}
use Rattle.vale_text.proofs.Entries.{entry_lines-append}
use Rattle.vale_text.proofs.Lines.{Says}
use Rattle.vale_text.proofs.LineReads.{says-of, entry-is-line, start-is-line, end-is-line, IsEntryLine, entry-sound, entry-none, head-version, head-pool, IsStart, start-sound, start-none, IsEnd, end-sound, end-told, free-small, end-none}
use Rattle.vale_text.proofs.Transcripts.{line-end, start-same}
use Rattle.vale_text.proofs.Wider.{wider}

-- Lines.

abbrev NoFeed : ℕ → Type 0
NoFeed b = is_line_feed b ≡ false

feed-there : NoFeed 10 → ⊥
feed-there e = cc

-- two texts that begin with whole lines
line-cut : (l m a b : List ℕ) → IsLine l → IsLine m → l ++ a ≡ m ++ b → (l ≡ m) × (a ≡ b)
line-cut l m a b one other e =
    let first : l ++ a ≡ one.text ++ 10 ∷ a = ap (λ (t : List ℕ). t ++ a) one.is ∙ append_assoc one.text (10 ∷ []) a in
    let second : m ++ b ≡ other.text ++ 10 ∷ b = ap (λ (t : List ℕ). t ++ b) other.is ∙ append_assoc other.text (10 ∷ []) b in
    let parts = cut NoFeed one.text other.text 10 10 a b feed-there feed-there one.free other.free (sym first ∙ (e ∙ second)) in
    (one.is ∙ (ap (λ (t : List ℕ). t ++ 10 ∷ []) parts.0 ∙ sym other.is), parts.1.1)

each-front : (P : ℕ → Type 0) (xs ys : List ℕ) → Each P (xs ++ ys) → Each P ys
each-front P [] ys all = all
each-front P (x ∷ xs) ys all = each-front P xs ys all.1

-- a text without a line feed does not begin with a line
uncut-line : (bytes l more : List ℕ) → IsUncut bytes → IsLine l → bytes ≡ l ++ more → ⊥
uncut-line bytes l more free one e =
    let first : bytes ≡ one.text ++ 10 ∷ more = e ∙ (ap (λ (t : List ℕ). t ++ more) one.is ∙ append_assoc one.text (10 ∷ []) more) in
    let all : Each NoFeed (one.text ++ 10 ∷ more) = subst (Each NoFeed) first free in
    feed-there (each-front NoFeed one.text (10 ∷ more) all).0

pub line-longer : (l : List ℕ) → IsLine l → 0 < length l
line-longer l one = by_text one.text one.is
  where
    by_text : (t : List ℕ) → l ≡ t ++ 10 ∷ [] → 0 < length l
    by_text [] is = let size = ap (length {A = ℕ}) is in omega (arith, size)
    by_text (b ∷ t) is = let size = ap (length {A = ℕ}) is in omega (arith, size)

pub cut-shorter : (bytes line after : List ℕ) → IsCut bytes line after → length after < length bytes
cut-shorter bytes line after c =
    let some = line-longer line c.line in
    let size : length bytes ≡ length line + length after = ap (length {A = ℕ}) c.is ∙ sum line after in
    omega (arith, some, size)
  where
    sum : (xs ys : List ℕ) → length (xs ++ ys) ≡ length xs + length ys
    sum [] ys = omega arith
    sum (x ∷ xs) ys = let rest = sum xs ys in omega (arith, rest)

each-from : (xs : List ℕ) (n : ℕ) → n ≤ length xs → ((k : ℕ) → k < n → is_line_feed (get_or xs k 0) ≡ false) → Each NoFeed (take n xs)
each-from xs zero within all = tt
each-from [] (suc n) within all = absurd (omega arith)
each-from (x ∷ xs) (suc n) within all = (all 0 (omega arith), each-from xs n (omega arith) (λ k h. all (suc k) (omega (arith, h))))

pub cut-found : (bytes : List ℕ) (n : ℕ) → position is_line_feed bytes ≡ Some n → IsCut bytes (take (n + 1) bytes) (drop (n + 1) bytes)
cut-found bytes n is =
    let at = position-Some is_line_feed bytes n 0 is in
    let feed : get_or bytes n 0 ≡ 10 = eqb-true (get_or bytes n 0) 10 at.1 in
    record {
      is = sym (take-append-drop (n + 1) bytes);
      line = record {
        text = take n bytes;
        is = take_more bytes n 0 at.0 ∙ ap (λ (b : ℕ). take n bytes ++ b ∷ []) feed;
        free = each-from bytes n (omega (arith, at.0)) at.2;
      };
    }

not-found : (k m : ℕ) (b : Bool) → b ≡ nat_lt k m → cond b (Some k) None ≡ None → nat_lt k m ≡ false
not-found k m true same is = absurd cc
not-found k m false same is = sym same

pub cut-none : (bytes : List ℕ) → position is_line_feed bytes ≡ None → IsUncut bytes
cut-none bytes is =
    let past : nat_lt (position_or_len is_line_feed bytes) (length bytes) ≡ false = not-found (position_or_len is_line_feed bytes) (length bytes) (nat_lt (position_or_len is_line_feed bytes) (length bytes)) refl is in
    let all : length bytes ≤ position_or_len is_line_feed bytes = grind (arith, nat_tests, past) in
    subst (Each NoFeed) (take_all (length bytes) bytes (omega arith))
    (each-from bytes (length bytes) (omega arith) (λ k h. fails_before_first is_line_feed bytes k 0 (omega (arith, h, all))))

-- Lists of lines.

abbrev flat : List (List ℕ) → List ℕ
flat lines = flat_map (λ l. l) lines

flat-numbered : (v n : ℕ) (es : List Entry) → flat (numbered_lines v n es) ≡ entry_lines v n es
flat-numbered v n [] = refl
flat-numbered v n (e ∷ es) = ap (λ (t : List ℕ). entry_line v n e ++ t) (flat-numbered v (n + 1) es)

length-numbered : (v n : ℕ) (es : List Entry) → length (numbered_lines v n es) ≡ length es
length-numbered v n [] = refl
length-numbered v n (e ∷ es) = ap suc (length-numbered v (n + 1) es)

numbered-are-lines : (v n : ℕ) (es : List Entry) → ArePrintable n es → Each FitsFields es → Each IsLine (numbered_lines v n es)
numbered-are-lines v n [] printable fits = tt
numbered-are-lines v n (e ∷ es) printable fits = (entry-is-line v n e (says-of n e printable.0 fits.0), numbered-are-lines v (n + 1) es printable.1 fits.1)

each-joined : {X : Type 0} (P : X → Type 0) (xs ys : List X) → Each P xs → Each P ys → Each P (xs ++ ys)
each-joined P xs ys front back = each-append P xs ys front back

lines-are-lines : (o v p : ℕ) (h : List Entry) (f : ℕ) → IsTold o v p h f → Each IsLine (lines_of v p h f)
lines-are-lines o v p h f told =
    (start-is-line v p, each-joined IsLine (numbered_lines v 1 h) (end_line (length h) f ∷ []) (numbered-are-lines v 1 h told.printable told.fits) (end-is-line (length h) f, tt))

-- a transcript's text is its lines
flat-text : (v p : ℕ) (h : List Entry) (f : ℕ) → text_of v p h f ≡ flat (lines_of v p h f)
unfolding text_of
flat-text v p h f =
    let last : List ℕ = end_line (length h) f in
    append_assoc (start_line v p) (entry_lines v 1 h) last
    ∙ ap (λ (t : List ℕ). start_line v p ++ t)
    (ap (λ (t : List ℕ). t ++ last) (sym (flat-numbered v 1 h)) ∙ ap (λ (t : List ℕ). flat (numbered_lines v 1 h) ++ t) (sym (append-nil last)) ∙ sym (flat_map-append (λ l. l) (numbered_lines v 1 h) (last ∷ [])))

-- lines of which a text begins with others
record Prefix (xs ys : List (List ℕ)) (rest : List ℕ) : Type 0 where
  more : List (List ℕ)
  is : ys ≡ xs ++ more
  rest_is : rest ≡ flat more

nonempty : (l a : List ℕ) → IsLine l → l ++ a ≡ [] → ⊥
nonempty [] a one e = let some = line-longer [] one in absurd (omega (arith, some))
nonempty (b ∷ l) a one e = cc

prefix-of : (xs ys : List (List ℕ)) (rest : List ℕ) → Each IsLine xs → Each IsLine ys → flat xs ++ rest ≡ flat ys → Prefix xs ys rest
prefix-of [] ys rest px py e = record { more = ys; is = refl; rest_is = e }
prefix-of (x ∷ xs) [] rest px py e = absurd (nonempty x (flat xs ++ rest) px.0 (sym (append_assoc x (flat xs) rest) ∙ e))
prefix-of (x ∷ xs) (y ∷ ys) rest px py e =
    let parts = line-cut x y (flat xs ++ rest) (flat ys) px.0 py.0 (sym (append_assoc x (flat xs) rest) ∙ e) in
    let tail = prefix-of xs ys rest px.1 py.1 parts.1 in
    let head : x ≡ y = parts.0 in
    record { more = tail.more; is = ap (λ (l : List ℕ). l ∷ ys) (sym head) ∙ ap (λ (ls : List (List ℕ)). x ∷ ls) tail.is; rest_is = tail.rest_is }

-- The first line that is bad.

-- lines before it, and why no transcript goes on as the text does
pub record Stops (o : ℕ) (bytes : List ℕ) (before : List (List ℕ)) (rest : List ℕ) : Type 0 where
  pub is : bytes ≡ flat before ++ rest
  pub lines : Each IsLine before
  pub begins : BeginTranscript o before
  pub stuck : (next more : List ℕ) → rest ≡ next ++ more → BeginTranscript o (before ++ next ∷ []) → ⊥
  pub partial : (v p : ℕ) (h : List Entry) (f : ℕ) → IsTold o v p h f → lines_of v p h f ≡ before → rest ≡ [] → ⊥

none-of : (o : ℕ) (bytes : List ℕ) (before : List (List ℕ)) (rest : List ℕ) → Stops o bytes before rest → (h : List Entry) → IsTextOf o bytes h → ⊥
none-of o bytes before rest s h t =
    let pre = prefix-of before (lines_of t.version t.pool h t.free) rest s.lines (lines-are-lines o t.version t.pool h t.free t.is.told) (sym s.is ∙ (t.is.text ∙ flat-text t.version t.pool h t.free)) in
    by_more pre.more pre.is pre.rest_is
  where
    by_more : (more : List (List ℕ)) → lines_of t.version t.pool h t.free ≡ before ++ more → rest ≡ flat more → ⊥
    by_more [] is rest_is = s.partial t.version t.pool h t.free t.is.told (is ∙ append-nil before) rest_is
    by_more (next ∷ more) is rest_is =
        s.stuck next (flat more) rest_is (record { version = t.version; pool = t.pool; history = h; free = t.free; after = more; told = t.is.told; begins = is ∙ sym (append_assoc before (next ∷ []) more) })

pub first-bad : (o : ℕ) (bytes : List ℕ) (before : List (List ℕ)) (rest : List ℕ) (line : ℕ) → Stops o bytes before rest → length before + 1 ≡ line → IsFirstBad o bytes line
first-bad o bytes before rest line s count = record {
  before = before;
  rest = rest;
  cut = s.is;
  count = count;
  begins = s.begins;
  stuck = s.stuck;
  none = none-of o bytes before rest s;
}

-- What may follow the first lines of a transcript.

pub record IsNextEntry (v n : ℕ) (next : List ℕ) : Type 0 where
  pub entry : Entry
  pub line : IsEntryLine v n next entry

pub record IsLast (next last : List ℕ) (after : List (List ℕ)) (h k : List Entry) : Type 0 where
  pub same : next ≡ last
  pub none : after ≡ []
  pub count : length k ≡ length h

apart-end : (v n c f : ℕ) (e : Entry) → Says n e → entry_line v n e ≡ end_line c f → ⊥
unfolding end_line
apart-end v n c f e s same = line-end v n e [] (drop 1 (end_line c f)) s (append-nil (entry_line v n e) ∙ same)

next-is : (v n : ℕ) (h k : List Entry) (next : List ℕ) (after : List (List ℕ)) (c f : ℕ) → ArePrintable n h → Each FitsFields h → ArePrintable n k → Each FitsFields k
    → numbered_lines v n h ++ next ∷ after ≡ numbered_lines v n k ++ end_line c f ∷ [] → IsNextEntry v (n + length h) next ⊎ IsLast next (end_line c f) after h k
next-is v n [] [] next after c f ph fh pk fk e = inr (record { same = cc; none = cc; count = refl })
next-is v n [] (y ∷ ys) next after c f ph fh pk fk e =
    let same : next ≡ entry_line v n y = cc in
    let number : n ≡ n + 0 = omega arith in
    inl (subst (λ (m : ℕ). IsNextEntry v m next) number (record { entry = y; line = record { printable = pk.0; fits = fk.0; is = same } }))
next-is v n (x ∷ xs) [] next after c f ph fh pk fk e =
    let same : entry_line v n x ≡ end_line c f = cc in
    absurd (apart-end v n c f x (says-of n x ph.0 fh.0) same)
next-is v n (x ∷ xs) (y ∷ ys) next after c f ph fh pk fk e =
    let tail : numbered_lines v (n + 1) xs ++ next ∷ after ≡ numbered_lines v (n + 1) ys ++ end_line c f ∷ [] = cc in
    by_tail (next-is v (n + 1) xs ys next after c f ph.1 fh.1 pk.1 fk.1 tail)
  where
    number : n + 1 + length xs ≡ n + suc (length xs)
    number = omega arith

    by_tail : IsNextEntry v (n + 1 + length xs) next ⊎ IsLast next (end_line c f) after xs ys → IsNextEntry v (n + length (x ∷ xs)) next ⊎ IsLast next (end_line c f) after (x ∷ xs) (y ∷ ys)
    by_tail (inl entry) = inl (subst (λ (m : ℕ). IsNextEntry v m next) number entry)
    by_tail (inr last) = inr (record { same = last.same; none = last.none; count = ap suc last.count })

-- the lines of entries are no whole transcript
unended : (v n : ℕ) (h k : List Entry) (c f : ℕ) → ArePrintable n k → Each FitsFields k → numbered_lines v n h ++ end_line c f ∷ [] ≡ numbered_lines v n k → ⊥
unended v n [] [] c f pk fk e = cc
unended v n [] (y ∷ ys) c f pk fk e =
    let same : entry_line v n y ≡ end_line c f = cc in
    apart-end v n c f y (says-of n y pk.0 fk.0) same
unended v n (x ∷ xs) [] c f pk fk e = cc
unended v n (x ∷ xs) (y ∷ ys) c f pk fk e =
    let tail : numbered_lines v (n + 1) xs ++ end_line c f ∷ [] ≡ numbered_lines v (n + 1) ys = cc in
    unended v (n + 1) xs ys c f pk.1 fk.1 tail

-- nothing follows the last line
past-end : (v n : ℕ) (h k : List Entry) (next : List ℕ) (after : List (List ℕ)) (c f d g : ℕ) → ArePrintable n h → Each FitsFields h → ArePrintable n k → Each FitsFields k
    → numbered_lines v n h ++ end_line d g ∷ (next ∷ after) ≡ numbered_lines v n k ++ end_line c f ∷ [] → ⊥
past-end v n h k next after c f d g ph fh pk fk e = by_next (next-is v n h k (end_line d g) (next ∷ after) c f ph fh pk fk e)
  where
    by_next : IsNextEntry v (n + length h) (end_line d g) ⊎ IsLast (end_line d g) (end_line c f) (next ∷ after) h k → ⊥
    by_next (inl one) = apart-end v (n + length h) d g one.entry (says-of (n + length h) one.entry one.line.printable one.line.fits) (sym one.line.is)
    by_next (inr last) = let none = last.none in cc

-- The states.

zero-small : Is32 0
zero-small = omega arith

begins-none : (o : ℕ) → o ≤ 2 → BeginTranscript o []
begins-none o known = record {
  version = 2;
  pool = 1;
  history = [];
  free = 0;
  after = lines_of 2 1 [] 0;
  told = record { head = record { since = known; known = omega arith; least = omega arith; most = omega arith }; printable = tt; fits = tt; free_fits = zero-small };
  begins = refl;
}

abbrev read_lines : ℕ → ℕ → List Entry → List (List ℕ)
read_lines v pool es = start_line v pool ∷ numbered_lines v 1 es

told-by : (o v p : ℕ) (bytes : List ℕ) (es : List Entry) (rest : List ℕ) (f : ℕ) → (r : IsReadTo o v p bytes es rest) → Is32 f → IsTold o v p es f
told-by o v p bytes es rest f r small = record { head = r.head; printable = r.printable; fits = r.fits; free_fits = small }

begins-read : (o v p : ℕ) (bytes : List ℕ) (es : List Entry) (rest : List ℕ) → (r : IsReadTo o v p bytes es rest) → BeginTranscript o (read_lines v p es)
begins-read o v p bytes es rest r = record {
  version = v;
  pool = p;
  history = es;
  free = 0;
  after = end_line (length es) 0 ∷ [];
  told = told-by o v p bytes es rest 0 r zero-small;
  begins = refl;
}

flat-read : (v pool : ℕ) (es : List Entry) (rest : List ℕ) → start_line v pool ++ (entry_lines v 1 es ++ rest) ≡ flat (read_lines v pool es) ++ rest
flat-read v pool es rest =
    ap (λ (t : List ℕ). start_line v pool ++ (t ++ rest)) (sym (flat-numbered v 1 es)) ∙ sym (append_assoc (start_line v pool) (flat (numbered_lines v 1 es)) rest)

read-are-lines : (o v p : ℕ) (bytes : List ℕ) (es : List Entry) (rest : List ℕ) → (r : IsReadTo o v p bytes es rest) → Each IsLine (read_lines v p es)
read-are-lines o v p bytes es rest r = (start-is-line v p, numbered-are-lines v 1 es r.printable r.fits)

-- a first line is of one version alone
one-version : (o v w p q : ℕ) → IsHead o v p → IsHead o w q → start_line w q ≡ start_line v p → w ≡ v
one-version o v w p q one other e =
    (start-same w v q p [] [] (wider w (head-version o w q other)) (wider v (head-version o v p one)) (wider q (head-pool o w q other)) (wider p (head-pool o v p one))
    (ap (λ (t : List ℕ). t ++ []) e)).0

first-same : (l m : List ℕ) (ls ms : List (List ℕ)) → l ∷ ls ≡ m ∷ ms → l ≡ m
first-same l m ls ms e = cc

-- behind the lines of entries neither an entry's line follows nor the last one
pub stops-at : (o v p : ℕ) (bytes : List ℕ) (es : List Entry) (rest : List ℕ) → (r : IsReadTo o v p bytes es rest)
    → ((next more : List ℕ) → rest ≡ next ++ more → (IsNextEntry v (1 + length es) next → ⊥) × (IsEnd (length es) next → ⊥)) → Stops o bytes (read_lines v p es) rest
stops-at o v p bytes es rest r bars = record {
  is = r.cut ∙ flat-read v p es rest;
  lines = read-are-lines o v p bytes es rest r;
  begins = begins-read o v p bytes es rest r;
  stuck = λ next more at b. stuck next more at b;
  partial = λ w q h f told same none. partial w q h f told same;
}
  where
    stuck : (next more : List ℕ) → rest ≡ next ++ more → BeginTranscript o (read_lines v p es ++ next ∷ []) → ⊥
    stuck next more at b =
        let all : lines_of b.version b.pool b.history b.free ≡ read_lines v p es ++ next ∷ b.after = b.begins ∙ append_assoc (read_lines v p es) (next ∷ []) b.after in
        let last : List (List ℕ) = end_line (length b.history) b.free ∷ [] in
        let version = one-version o v b.version p b.pool r.head b.told.head (first-same (start_line b.version b.pool) (start_line v p) (numbered_lines b.version 1 b.history ++ last) (numbered_lines v 1 es ++ next ∷ b.after) all) in
        let tail : numbered_lines v 1 b.history ++ last ≡ numbered_lines v 1 es ++ next ∷ b.after = ap (λ (n : ℕ). numbered_lines n 1 b.history ++ last) (sym version) ∙ ap (drop 1) all in
        by_next (next-is v 1 es b.history next b.after (length b.history) b.free r.printable r.fits b.told.printable b.told.fits (sym tail))
      where
        by_next : IsNextEntry v (1 + length es) next ⊎ IsLast next (end_line (length b.history) b.free) b.after es b.history → ⊥
        by_next (inl one) = (bars next more at).0 one
        by_next (inr last) =
            (bars next more at).1 (record { free = b.free; small = b.told.free_fits; is = last.same ∙ ap (λ (c : ℕ). end_line c b.free) last.count })

    partial : (w q : ℕ) (h : List Entry) (f : ℕ) → IsTold o w q h f → lines_of w q h f ≡ read_lines v p es → ⊥
    partial w q h f told same =
        let last : List (List ℕ) = end_line (length h) f ∷ [] in
        let version = one-version o v w p q r.head told.head (first-same (start_line w q) (start_line v p) (numbered_lines w 1 h ++ last) (numbered_lines v 1 es) same) in
        unended v 1 h es (length h) f r.printable r.fits (ap (λ (n : ℕ). numbered_lines n 1 h ++ last) (sym version) ∙ ap (drop 1) same)

count-read : (v pool : ℕ) (es : List Entry) (at : ℕ) → at ≡ length es + 2 → length (read_lines v pool es) + 1 ≡ at
count-read v pool es at is = let size = length-numbered v 1 es in omega (arith, size, is)

-- no line ends any more
pub missing-end : (o v p : ℕ) (bytes : List ℕ) (es : List Entry) (rest : List ℕ) (at : ℕ) → IsReadTo o v p bytes es rest → IsUncut rest → at ≡ length es + 2 → IsFirstBad o bytes at
missing-end o v p bytes es rest at r uncut is =
    first-bad o bytes (read_lines v p es) rest at (stops-at o v p bytes es rest r (λ next more cut_is. (
      λ one. uncut-line rest next more uncut (subst IsLine (sym one.line.is) (entry-is-line v (1 + length es) one.entry (says-of (1 + length es) one.entry one.line.printable one.line.fits))) cut_is,
      λ one. uncut-line rest next more uncut (subst IsLine (sym one.is) (end-is-line (length es) one.free)) cut_is,
    ))) (count-read v p es at is)

-- the next line is neither an entry's nor the last one
pub bad-line : (o v p : ℕ) (bytes : List ℕ) (es : List Entry) (rest line after : List ℕ) (at number count : ℕ) → IsReadTo o v p bytes es rest → IsCut rest line after → at ≡ length es + 2
    → number ≡ length es + 1 → count ≡ length es → is_end count line ≡ false → entry_in v number line ≡ None → IsFirstBad o bytes at
bad-line o v p bytes es rest line after at number count r c is num cnt no_end no_entry =
    let n : number ≡ 1 + length es = omega (arith, num) in
    let none : entry_in v (1 + length es) line ≡ None = ap (λ (m : ℕ). entry_in v m line) (sym n) ∙ no_entry in
    let unlast : is_end (length es) line ≡ false = ap (λ (m : ℕ). is_end m line) (sym cnt) ∙ no_end in
    first-bad o bytes (read_lines v p es) rest at (stops-at o v p bytes es rest r (λ next more cut_is. (
      λ one.
          let whole = entry-is-line v (1 + length es) one.entry (says-of (1 + length es) one.entry one.line.printable one.line.fits) in
          let same = line-cut line next after more c.line (subst IsLine (sym one.line.is) whole) (sym c.is ∙ cut_is) in
          entry-none v (1 + length es) line one.entry none (record { printable = one.line.printable; fits = one.line.fits; is = same.0 ∙ one.line.is }),
      λ one.
          let same = line-cut line next after more c.line (subst IsLine (sym one.is) (end-is-line (length es) one.free)) (sym c.is ∙ cut_is) in
          end-none (length es) line unlast (record { free = one.free; small = one.small; is = same.0 ∙ one.is }),
    ))) (count-read v p es at is)

-- the line of an entry
printable-more : (n : ℕ) (es : List Entry) (e : Entry) → ArePrintable n es → IsPrintable (n + length es) e → ArePrintable n (es ++ e ∷ [])
printable-more n [] e all here = let number : n + 0 ≡ n = omega arith in (subst (λ (m : ℕ). IsPrintable m e) number here, tt)
printable-more n (x ∷ xs) e all here =
    let number : n + suc (length xs) ≡ n + 1 + length xs = omega arith in
    (all.0, printable-more (n + 1) xs e all.1 (subst (λ (m : ℕ). IsPrintable m e) number here))

pub read-more : (o v p : ℕ) (bytes : List ℕ) (es : List Entry) (rest line after : List ℕ) (number : ℕ) (e : Entry) → IsReadTo o v p bytes es rest → IsCut rest line after
    → number ≡ length es + 1 → number < 2 ^ 32 → entry_in v number line ≡ Some e → IsReadTo o v p bytes (es ++ e ∷ []) after
read-more o v p bytes es rest line after number e r c num small is =
    let n : number ≡ 1 + length es = omega (arith, num) in
    let one = entry-sound v number line e small is in
    let text : line ≡ entry_line v (1 + length es) e = one.is ∙ ap (λ (m : ℕ). entry_line v m e) n in
    let lines : entry_lines v 1 (es ++ e ∷ []) ≡ entry_lines v 1 es ++ line =
    entry_lines-append v 1 es (e ∷ []) ∙ ap (λ (t : List ℕ). entry_lines v 1 es ++ t) (append-nil (entry_line v (1 + length es) e) ∙ sym text) in
    record {
      head = r.head;
      printable = printable-more 1 es e r.printable (subst (λ (m : ℕ). IsPrintable m e) n one.printable);
      fits = each-append FitsFields es (e ∷ []) r.fits (one.fits, tt);
      cut = r.cut ∙ ap (λ (t : List ℕ). start_line v p ++ t)
          (ap (λ (t : List ℕ). entry_lines v 1 es ++ t) c.is ∙ (sym (append_assoc (entry_lines v 1 es) line after) ∙ ap (λ (t : List ℕ). t ++ after) (sym lines)));
    }

-- the last line, at the end
pub read-all : (o v p : ℕ) (bytes : List ℕ) (es : List Entry) (rest line after : List ℕ) (count : ℕ) → IsReadTo o v p bytes es rest → IsCut rest line after → count ≡ length es → is_end count line ≡ true
    → length after ≡ 0 → IsTextWith o bytes v p es (free_in line)
unfolding text_of
read-all o v p bytes es rest line after count r c cnt is over =
    let free : ℕ = free_in line in
    let empty : after ≡ [] = nothing after over in
    let last : rest ≡ end_line (length es) free = c.is ∙ (ap (λ (t : List ℕ). line ++ t) empty ∙ (append-nil line ∙ (end-told count line is ∙ ap (λ (k : ℕ). end_line k free) cnt))) in
    record {
      told = told-by o v p bytes es rest free r (free-small line);
      text = r.cut ∙ (ap (λ (t : List ℕ). start_line v p ++ (entry_lines v 1 es ++ t)) last ∙ sym (append_assoc (start_line v p) (entry_lines v 1 es) (end_line (length es) free)));
    }
  where
    nothing : (xs : List ℕ) → length xs ≡ 0 → xs ≡ []
    nothing [] e = refl
    nothing (x ∷ xs) e = absurd (omega (arith, e))

-- a line behind the last one
pub past-last : (o v p : ℕ) (bytes : List ℕ) (es : List Entry) (rest line after : List ℕ) (at count : ℕ) → IsReadTo o v p bytes es rest → IsCut rest line after → at ≡ length es + 2
    → count ≡ length es → is_end count line ≡ true → 0 < length after → IsFirstBad o bytes (at + 1)
past-last o v p bytes es rest line after at count r c is cnt good more =
    first-bad o bytes before after (at + 1) (record {
      is = r.cut ∙ (ap (λ (t : List ℕ). start_line v p ++ (entry_lines v 1 es ++ t)) (c.is ∙ ap (λ (t : List ℕ). t ++ after) last) ∙ (flat-read v p es (ended ++ after) ∙ together));
      lines = each-joined IsLine (read_lines v p es) (ended ∷ []) (read-are-lines o v p bytes es rest r) (end-is-line (length es) one.free, tt);
      begins = record { version = v; pool = p; history = es; free = one.free; after = []; told = told-by o v p bytes es rest one.free r one.small; begins = sym (append-nil before) };
      stuck = λ next behind at b. stuck next b;
      partial = λ w q h f told same none. let size = ap (length {A = ℕ}) none in omega (arith, more, size);
    }) size
  where
    one : IsEnd count line
    one = end-sound count line good

    ended : List ℕ
    ended = end_line (length es) one.free

    before : List (List ℕ)
    before = read_lines v p es ++ ended ∷ []

    last : line ≡ ended
    last = one.is ∙ ap (λ (k : ℕ). end_line k one.free) cnt

    together : flat (read_lines v p es) ++ (ended ++ after) ≡ flat before ++ after
    together =
        sym (append_assoc (flat (read_lines v p es)) ended after)
        ∙ ap (λ (t : List ℕ). t ++ after) (ap (λ (t : List ℕ). flat (read_lines v p es) ++ t) (sym (append-nil ended)) ∙ sym (flat_map-append (λ l. l) (read_lines v p es) (ended ∷ [])))

    size : length before + 1 ≡ at + 1
    size = let all = length-numbered v 1 es in let joined = longer (numbered_lines v 1 es) in omega (arith, all, joined, is)
      where
        longer : (ls : List (List ℕ)) → length (ls ++ ended ∷ []) ≡ length ls + 1
        longer [] = refl
        longer (l ∷ ls) = let rest = longer ls in omega (arith, rest)

    stuck : (next : List ℕ) → BeginTranscript o (before ++ next ∷ []) → ⊥
    stuck next b =
        let all : lines_of b.version b.pool b.history b.free ≡ read_lines v p es ++ ended ∷ (next ∷ b.after) =
        b.begins ∙ (append_assoc before (next ∷ []) b.after ∙ append_assoc (read_lines v p es) (ended ∷ []) (next ∷ b.after)) in
        let end : List (List ℕ) = end_line (length b.history) b.free ∷ [] in
        let version = one-version o v b.version p b.pool r.head b.told.head (first-same (start_line b.version b.pool) (start_line v p) (numbered_lines b.version 1 b.history ++ end) (numbered_lines v 1 es ++ ended ∷ (next ∷ b.after)) all) in
        past-end v 1 es b.history next b.after (length b.history) b.free (length es) one.free r.printable r.fits b.told.printable b.told.fits
        (sym (ap (λ (n : ℕ). numbered_lines n 1 b.history ++ end) (sym version) ∙ ap (drop 1) all))

-- The first line.

pub read-first : (o : ℕ) (bytes line after : List ℕ) → IsCut bytes line after → is_start o line ≡ true → IsReadTo o (version_in line) (pool_in line) bytes [] after
read-first o bytes line after c good =
    let one = start-sound o line good in
    record { head = one.head; printable = tt; fits = tt; cut = c.is ∙ ap (λ (t : List ℕ). t ++ after) one.is }

-- no first line of a transcript stands there
no-first : (o : ℕ) (bytes : List ℕ) → o ≤ 2 → ((next more : List ℕ) (v p : ℕ) → bytes ≡ next ++ more → IsStart o v p next → ⊥) → IsFirstBad o bytes 1
no-first o bytes known bars = first-bad o bytes [] bytes 1 (record {
  is = refl;
  lines = tt;
  begins = begins-none o known;
  stuck = λ next more at b. bars next more b.version b.pool at (record { head = b.told.head; is = sym (first-same (start_line b.version b.pool) next (numbered_lines b.version 1 b.history ++ end_line (length b.history) b.free ∷ []) b.after b.begins) });
  partial = λ v p h f told same none. some v p h f same;
}) (omega arith)
  where
    some : (v p : ℕ) (h : List Entry) (f : ℕ) → lines_of v p h f ≡ [] → ⊥
    some v p h f e = cc

pub bad-first : (o : ℕ) (bytes line after : List ℕ) → o ≤ 2 → IsCut bytes line after → is_start o line ≡ false → IsFirstBad o bytes 1
bad-first o bytes line after known c bad = no-first o bytes known (λ next more v p at one.
    let same = line-cut line next after more c.line (subst IsLine (sym one.is) (start-is-line v p)) (sym c.is ∙ at) in
    start-none o v p line bad (record { head = one.head; is = same.0 ∙ one.is }))

pub missing-first : (o : ℕ) (bytes : List ℕ) → o ≤ 2 → IsUncut bytes → IsFirstBad o bytes 1
missing-first o bytes known uncut = no-first o bytes known (λ next more v p at one. uncut-line bytes next more uncut (subst IsLine (sym one.is) (start-is-line v p)) at)

pub above-zero : (n : ℕ) → (n == 0) ≡ false → 0 < n
above-zero zero e = cc
above-zero (suc n) e = omega arith

-- one more entry

pub count-more : (es : List Entry) (e : Entry) (at : ℕ) → at ≡ length es + 2 → at + 1 ≡ length (es ++ e ∷ []) + 2
count-more es e at is = let size = longer es in omega (arith, is, size)
  where
    longer : (es : List Entry) → length (es ++ e ∷ []) ≡ length es + 1
    longer [] = refl
    longer (x ∷ xs) = let rest = longer xs in omega (arith, rest)

pub ruleset reading = (cut-shorter, read-first, bad-first, missing-first)
