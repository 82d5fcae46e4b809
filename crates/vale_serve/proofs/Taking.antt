-- Buffers are taken out of a session's by their indices.
use Rattle.std.proofs.Common.{ℕ, zero, suc, ◌≡◌, ◌≤◌, ◌+◌, ◌==◌, ◌&&◌, ◌||◌, not, Bool, true, false, cond, List, [], ◌∷◌, ◌++◌, length, take, position, slice_get, get_or, Some, refl, sym, ◌∙◌, ap, ap₂, subst, arith, length-append}
use Rattle.std.specs.List.{list_all, remove}
use Rattle.std.proofs.lemmas.Bool.{and_parts, eqb-true, eq-eqb}
use Rattle.std.proofs.lemmas.List.{map-append}
use Rattle.std.proofs.lemmas.Option.{get_or_from_slice_get}
use Rattle.nm_types.proofs.Tests.{not_false}
use Rattle.nm_region.specs.Buffers.{Buffer, indices_of}
use Rattle.vale_entry.specs.Holdings.{contains, are_distinct, buffers_without}
use Rattle.vale_entry.proofs.Counting.{count_of-cons, count_of-append, contains-count, contains-none, count-away}
use Rattle.vale_entry.proofs.Each.{each-append}
use Rattle.vale_entry.proofs.ListLaws.{each-at}
use Rattle.vale_entry.proofs.Removals.{length-remove_at}
use Rattle.vale_book.specs.BookView.{IsBufferOf, AreOf}
use Rattle.vale_serve.specs.Buffers.{is_buffer, holds, holds_all, IsTaken, times, AreTaken}
use Rattle.vale_serve.specs.Users.{AreSame}
use Rattle.vale_serve.proofs.Places.{found-at}

-- ---- what is held

pub holds-contains : (bufs : List Buffer) (n : ℕ) → holds bufs n ≡ contains n (indices_of bufs)
holds-contains [] n = refl
holds-contains (b ∷ bs) n = ap (λ (t : Bool). (b.index == n) || t) (holds-contains bs n)

-- numbers that stand as often as others are among them
pub same-contains : (n : ℕ) (xs ys : List ℕ) → AreSame xs ys → contains n xs ≡ contains n ys
same-contains n xs ys same = by (contains n xs) (contains n ys) refl refl
  where
    by : (s t : Bool) → contains n xs ≡ s → contains n ys ≡ t → s ≡ t
    by true true s t = refl
    by false false s t = refl
    by true false s t = absurd (let a = contains-count n xs s in let b = contains-none n ys t in let c = same n in omega (arith, a, b, c))
    by false true s t = absurd (let a = contains-none n xs s in let b = contains-count n ys t in let c = same n in omega (arith, a, b, c))

all-same : (bufs : List Buffer) (own named : List ℕ) → AreSame (indices_of bufs) own → list_all (holds bufs) named ≡ list_all (λ n. contains n own) named
all-same bufs own [] same = refl
all-same bufs own (n ∷ ns) same =
    ap₂ (λ (s t : Bool). s && t) (holds-contains bufs n ∙ same-contains n (indices_of bufs) own same) (all-same bufs own ns same)

pub holds-same : (bufs : List Buffer) (own named : List ℕ) → AreSame (indices_of bufs) own → holds_all bufs named ≡ (list_all (λ n. contains n own) named && are_distinct named)
holds-same bufs own named same = ap (λ (t : Bool). t && are_distinct named) (all-same bufs own named same)

-- ---- one is taken

abbrev one_if : Bool → ℕ
one_if t = cond t 1 0

times-remove : (n : ℕ) (bufs : List Buffer) (place : ℕ) (buf : Buffer) → slice_get bufs place ≡ Some buf
    → ◌≡◌ {A = ℕ} (times n (indices_of (remove bufs place)) + cond (buf.index == n) 1 0) (times n (indices_of bufs))
times-remove n [] place buf here = absurd cc
times-remove n (b ∷ bs) zero buf here =
    let same : b ≡ buf = cc in
    let sum = count_of-cons n b.index (indices_of bs) in
    let one : ◌≡◌ {A = ℕ} (cond (b.index == n) 1 0) (cond (buf.index == n) 1 0) = ap (λ (x : Buffer). one_if (x.index == n)) same in
    omega (arith, sum, one)
times-remove n (b ∷ bs) (suc place) buf here =
    let rest = times-remove n bs place buf here in
    let old = count_of-cons n b.index (indices_of bs) in
    let new = count_of-cons n b.index (indices_of (remove bs place)) in
    omega (arith, rest, old, new)

of-remove : (region : ℕ) (bufs : List Buffer) (place : ℕ) → AreOf region bufs → AreOf region (remove bufs place)
of-remove region [] zero of = tt
of-remove region [] (suc place) of = tt
of-remove region (b ∷ bs) zero of = of.1
of-remove region (b ∷ bs) (suc place) of = (of.0, of-remove region bs place of.1)

pub taken-one : (bufs new : List Buffer) (index place : ℕ) (buf : Buffer) → position (is_buffer index) bufs ≡ Some place → buf ≡ get_or bufs place buf → new ≡ remove bufs place
    → IsTaken bufs index buf new
taken-one bufs new index place buf e is left =
    let found = found-at (is_buffer index) bufs place e in
    let same : found.it ≡ buf = sym (get_or_from_slice_get bufs place found.it buf found.here) ∙ sym is in
    record {
      place = place;
      here = found.here ∙ ap (λ (b : Buffer). Some b) same;
      index_is = ap (λ (b : Buffer). b.index) (sym same) ∙ eqb-true found.it.index index found.passes;
      left = left;
    }

-- ---- one after the other

pub none-taken : (bufs : List Buffer) → AreTaken bufs [] [] bufs
none-taken bufs = record {
  named_is = refl;
  times_are = λ n. omega arith;
  fewer = omega arith;
  taken_of = λ region of. tt;
  left_of = λ region of. of;
}

pub taken-more : (start bufs new : List Buffer) (named : List ℕ) (index : ℕ) (taken : List Buffer) (buf last : Buffer) → AreTaken start named taken bufs → IsTaken bufs index buf new
    → last.index ≡ index → last.region ≡ buf.region → AreTaken start (named ++ index ∷ []) (taken ++ last ∷ []) new
taken-more start bufs new named index taken buf last are one last_is region_is = record {
  named_is = map-append (λ (b : Buffer). b.index) taken (last ∷ []) ∙ ap₂ (λ (ns : List ℕ) (n : ℕ). ns ++ n ∷ []) are.named_is last_is;
  times_are = λ n.
      let before = are.times_are n in
      let less = times-remove n bufs one.place buf one.here in
      let left = ap (λ (bs : List Buffer). times n (indices_of bs)) one.left in
      let same : ◌≡◌ {A = ℕ} (cond (buf.index == n) 1 0) (cond (index == n) 1 0) = ap (λ (m : ℕ). one_if (m == n)) one.index_is in
      let more = count_of-append n named (index ∷ []) in
      let single = count_of-cons n index [] in
      omega (arith, before, less, left, same, more, single);
  fewer =
      let before = are.fewer in
      let less = length-remove_at bufs one.place buf one.here in
      let left = ap (λ (bs : List Buffer). length bs) one.left in
      let more = length-append named (index ∷ []) in
      omega (arith, before, less, left, more);
  taken_of = λ region of.
      let at : IsBufferOf region buf = each-at (IsBufferOf region) bufs one.place buf (are.left_of region of) one.here in
      each-append (IsBufferOf region) taken (last ∷ []) (are.taken_of region of) (region_is ∙ at, tt);
  left_of = λ region of. subst (AreOf region) (sym one.left) (of-remove region bufs one.place (are.left_of region of));
}

all-at : (test : ℕ → Bool) (named : List ℕ) (i n : ℕ) → list_all test named ≡ true → slice_get named i ≡ Some n → test n ≡ true
all-at test [] i n all here = absurd cc
all-at test (m ∷ ms) zero n all here = let same : m ≡ n = cc in ap test (sym same) ∙ (and_parts (test m) (list_all test ms) all).0
all-at test (m ∷ ms) (suc i) n all here = all-at test ms i n (and_parts (test m) (list_all test ms) all).1 here

-- what is named once does not stand before its place
earlier-none : (named : List ℕ) (i n : ℕ) → are_distinct named ≡ true → slice_get named i ≡ Some n → contains n (take i named) ≡ false
earlier-none [] i n d here = absurd cc
earlier-none (m ∷ ms) zero n d here = refl
earlier-none (m ∷ ms) (suc i) n d here =
    let parts = and_parts (not (contains m ms)) (are_distinct ms) d in
    let rest = earlier-none ms i n parts.1 here in
    let off : (m == n) ≡ false = other (m == n) refl (not_false (contains m ms) parts.0) in
    ap₂ (λ (s t : Bool). s || t) off rest
  where
    there : (ns : List ℕ) (j : ℕ) → slice_get ns j ≡ Some n → contains n ns ≡ true
    there [] j e = absurd cc
    there (k ∷ ks) zero e = let same : k ≡ n = cc in ap (λ (t : Bool). t || contains n ks) (eq-eqb k n same)
    there (k ∷ ks) (suc j) e = ap (λ (t : Bool). (k == n) || t) (there ks j e) ∙ on (k == n)
      where
        on : (t : Bool) → (t || true) ≡ true
        on true = refl
        on false = refl

    other : (t : Bool) → (m == n) ≡ t → contains m ms ≡ false → t ≡ false
    other false e none = refl
    other true e none =
        let same : m ≡ n = eqb-true m n e in
        let on = there ms i here in
        let off : contains n ms ≡ false = subst (λ (k : ℕ). contains k ms ≡ false) same none in
        absurd cc

-- so it is still held where those before it were taken
pub still-holds : (start bufs : List Buffer) (named : List ℕ) (i index : ℕ) (taken : List Buffer) → holds_all start named ≡ true → AreTaken start (take i named) taken bufs
    → slice_get named i ≡ Some index → holds bufs index ≡ true
still-holds start bufs named i index taken all are here = by (holds bufs index) refl
  where
    by : (t : Bool) → holds bufs index ≡ t → t ≡ true
    by true e = refl
    by false e =
        let parts = and_parts (list_all (holds start) named) (are_distinct named) all in
        let first = contains-count index (indices_of start) (sym (holds-contains start index) ∙ all-at (holds start) named i index parts.0 here) in
        let gone = contains-none index (take i named) (earlier-none named i index parts.1 here) in
        let left = contains-none index (indices_of bufs) (sym (holds-contains bufs index) ∙ e) in
        let count = are.times_are index in
        absurd (omega (arith, first, gone, left, count))

-- ---- what is left

pub left-same : (bufs new : List Buffer) (own named : List ℕ) (taken : List Buffer) → AreSame (indices_of bufs) own → AreTaken bufs named taken new → holds_all bufs named ≡ true
    → ((n : ℕ) → times n own ≤ 1) → AreSame (indices_of new) (buffers_without named own)
left-same bufs new own named taken same are all once = λ n.
    let parts = and_parts (list_all (λ m. contains m own) named) (are_distinct named) (sym (holds-same bufs own named same) ∙ all) in
    let away = count-away n named own parts.1 parts.0 (once n) in
    let left = are.times_are n in
    let here = same n in
    omega (arith, away, left, here)

pub take-next : (named : List ℕ) (i n : ℕ) → slice_get named i ≡ Some n → take (i + 1) named ≡ take i named ++ n ∷ []
take-next [] i n e = absurd cc
take-next (m ∷ ms) zero n e = let same : m ≡ n = cc in ap (λ (k : ℕ). k ∷ []) same
take-next (m ∷ ms) (suc i) n e =
    let next : suc i + 1 ≡ suc (i + 1) = omega arith in
    ap (λ (k : ℕ). take k (m ∷ ms)) next ∙ ap (λ (ks : List ℕ). m ∷ ks) (take-next ms i n e)
