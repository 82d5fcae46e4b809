-- Writing the lines of entries by way of a page.
use Rattle.std.proofs.Common.{◌≡◌, ℕ, ◌+◌, ◌<◌, List, [], ◌∷◌, ◌++◌, length, take, drop, get_or, Option, None, Some, Result, Ok, Err, sym, ap, subst, ◌∙◌, arith, append_assoc, length-append, length-take-le, take_all}
use Rattle.std.proofs.lemmas.List.{take_more, append-nil, take-append-drop}
use Rattle.nm_io.specs.Held.{grown, GrowsByPrefix, Writes}
use Rattle.nm_io.proofs.Growth.{grown-grown, grown_nothing, grows_longer, grows_more}
use Rattle.std.proofs.Math.Seq.{drop-length, take-append_seam, drop-append_seam}
use Rattle.nm_io.specs.Gathered.{Gathered}
use Rattle.nm_io.proofs.Gathering.{gathered_more, gathered_fails, grows_past}
use Rattle.vale_entry.specs.declared.entry.Entry.{Entry}
use Rattle.vale_entry.specs.Transcript.{entry_line, entry_lines}

pub entry_lines-append : (v n : ℕ) (es fs : List Entry) → entry_lines v n (es ++ fs) ≡ entry_lines v n es ++ entry_lines v (n + length es) fs
entry_lines-append v n [] fs = ap (λ m. entry_lines v m fs) (let e : n ≡ n + 0 = omega arith in e)
entry_lines-append v n (e ∷ es) fs =
    let next : n + 1 + length es ≡ n + length (e ∷ es) = omega arith in
    ap (λ text. entry_line v n e ++ text) (entry_lines-append v (n + 1) es fs ∙ ap (λ m. entry_lines v (n + 1) es ++ entry_lines v m fs) next)
    ∙ sym (append_assoc (entry_line v n e) (entry_lines v (n + 1) es) (entry_lines v (n + length (e ∷ es)) fs))

entry_lines-more : (es : List Entry) (i : ℕ) (e : Entry) → i < length es → e ≡ get_or es i e → entry_lines 2 1 (take (i + 1) es) ≡ entry_lines 2 1 (take i es) ++ entry_line 2 (i + 1) e
entry_lines-more es i e h same =
    let number : 1 + length (take i es) ≡ i + 1 = omega (arith, length-take-le i es) in
    ap (entry_lines 2 1) (take_more es i e h ∙ ap (λ x. take i es ++ x ∷ []) (sym same))
    ∙ entry_lines-append 2 1 (take i es) (e ∷ [])
    ∙ ap (λ n. entry_lines 2 1 (take i es) ++ entry_lines 2 n (e ∷ [])) number
    ∙ ap (λ text. entry_lines 2 1 (take i es) ++ text) (append-nil (entry_line 2 (i + 1) e))

-- the next line is on its way
pub entries_more : (old middle new : Option (List ℕ)) (p q r : List ℕ) (es : List Entry) (i : ℕ) (e : Entry) → i < length es → e ≡ get_or es i e → Gathered old middle p q (entry_lines 2 1 (take i es)) → Gathered middle new q r (entry_line 2 (i + 1) e) → Gathered old new p r (entry_lines 2 1 (take (i + 1) es))
entries_more old middle new p q r es i e h same first second =
    subst (Gathered old new p r) (sym (entry_lines-more es i e h same)) (gathered_more old middle new p q r (entry_lines 2 1 (take i es)) (entry_line 2 (i + 1) e) first second)

-- the next line fails
pub entries_fail : (old middle new : Option (List ℕ)) (p q : List ℕ) (es : List Entry) (i : ℕ) (e : Entry) → i < length es → e ≡ get_or es i e → Gathered old middle p q (entry_lines 2 1 (take i es)) → GrowsByPrefix middle new (q ++ entry_line 2 (i + 1) e) → GrowsByPrefix old new (p ++ entry_lines 2 1 es)
entries_fail old middle new p q es i e h same first second =
    let front : List ℕ = entry_lines 2 1 (take i es) ++ entry_line 2 (i + 1) e in
    let rest : List ℕ = entry_lines 2 (1 + length (take (i + 1) es)) (drop (i + 1) es) in
    let whole : front ++ rest ≡ entry_lines 2 1 es =
    ap (λ text. text ++ rest) (sym (entry_lines-more es i e h same)) ∙ sym (entry_lines-append 2 1 (take (i + 1) es) (drop (i + 1) es)) ∙ ap (entry_lines 2 1) (take-append-drop (i + 1) es) in
    subst (λ (text : List ℕ). GrowsByPrefix old new (p ++ text)) whole
    (grows_past old new p front rest (gathered_fails old middle new p q (entry_lines 2 1 (take i es)) (entry_line 2 (i + 1) e) first second))

-- one part was written whole, and the next one whole or, by a failure, a prefix of it
pub writes_after : {T E : Type 0} (old middle new : Option (List ℕ)) (a b : List ℕ) (result : Result T E) → middle ≡ grown old a → Writes middle new result b → Writes old new result (a ++ b)
writes_after old middle new a b (Ok x) all part = part ∙ ap (λ held. grown held b) all ∙ grown-grown old a b
writes_after old middle new a b (Err e) all part = grows_more old middle new a b all part

-- a line is gathered, and nothing goes out yet
pub gathered_behind : (held : Option (List ℕ)) (p q a : List ℕ) → q ≡ p ++ a → Gathered held held p q a
gathered_behind held p q a is = record { count = 0; within = omega arith; held = sym (grown_nothing held); rest = is }

-- all that was gathered goes out
pub gathered_over : (old new : Option (List ℕ)) (p q r a : List ℕ) → q ≡ p ++ a → new ≡ grown old q → r ≡ [] → Gathered old new p r a
gathered_over old new p q r a is out empty = record {
  count = length (p ++ a);
  within = omega arith;
  held = out ∙ ap (grown old) (is ∙ sym (take_all (length (p ++ a)) (p ++ a) (omega arith)));
  rest = empty ∙ sym (drop-length (p ++ a));
}

-- nothing went out, or a prefix
pub grows_none : (held : Option (List ℕ)) (a : List ℕ) → GrowsByPrefix held held a
grows_none held a = record { count = 0; within = omega arith; held = sym (grown_nothing held) }

pub grows_as : (old new : Option (List ℕ)) (p q a : List ℕ) → q ≡ p ++ a → GrowsByPrefix old new q → GrowsByPrefix old new (p ++ a)
grows_as old new p q a is part = subst (GrowsByPrefix old new) is part

-- what stands behind nothing is all
pub behind_nothing : (p q a : List ℕ) → p ≡ [] → q ≡ p ++ a → q ≡ a
behind_nothing p q a empty is = is ∙ ap (λ text. text ++ a) empty

abbrev held_bytes : Option (List ℕ) → List ℕ
held_bytes None = []
held_bytes (Some bytes) = bytes

-- what lines in memory and a strip hold, once a line went their way
pub lines_gathered : (a b p q text : List ℕ) → Gathered (Some a) (Some b) p q text → b ++ q ≡ (a ++ p) ++ text
lines_gathered a b p q text went =
    let all : List ℕ = p ++ text in
    let held : b ≡ a ++ take went.count all = ap held_bytes went.held in
    ap (λ bytes. bytes ++ q) held ∙ ap (λ rest. (a ++ take went.count all) ++ rest) went.rest
    ∙ append_assoc a (take went.count all) (drop went.count all) ∙ ap (λ bytes. a ++ bytes) (take-append-drop went.count all) ∙ sym (append_assoc a p text)

-- the lines go out, and the strip stays
pub gathered_front : (old new : Option (List ℕ)) (p l m r a : List ℕ) → l ++ r ≡ p ++ a → new ≡ grown old l → m ≡ [] → Gathered old new p (m ++ r) a
gathered_front old new p l m r a is out empty = record {
  count = length l;
  within = omega (arith, ap length is, length-append l r);
  held = out ∙ ap (grown old) (sym (ap (take (length l)) (sym is) ∙ take-append_seam l r));
  rest = ap (λ bytes. bytes ++ r) empty ∙ sym (ap (drop (length l)) (sym is) ∙ drop-append_seam l r);
}

-- a prefix of them
pub grows_front : (old new : Option (List ℕ)) (p l r a : List ℕ) → l ++ r ≡ p ++ a → GrowsByPrefix old new l → GrowsByPrefix old new (p ++ a)
grows_front old new p l r a is part = subst (GrowsByPrefix old new) is (grows_longer old new l r part)
