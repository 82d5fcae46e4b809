-- What writing and clearing do to the mark of a buffer.
use Rattle.std.proofs.Common.{ℕ, zero, suc, ◌≡◌, ◌+◌, ◌-◌, ◌<◌, ◌≤◌, Bool, true, false, List, [], ◌∷◌, ◌++◌, length, take, drop, refl, sym, ◌∙◌, ap, subst, arith}
use Rattle.std.specs.Prelude.{replicate}
use Rattle.std.proofs.Math.Seq.{drop-append-add, drop-append_seam}
use Rattle.std.proofs.lemmas.List.{append-nil, length-append, length-drop, length-take-le, length-replicate, take-append-drop, drop_all, drop-replicate, replicate-append-replicate}
use Rattle.nm_types.specs.Buffers.{cleared_but}
use denote.RawPtr.{Ptr, block_of}
use Rattle.nm_region.specs.Buffers.{Buffer}
use Rattle.nm_region.specs.Marked.{written_front, cleared_between, place_of, AreWritten, IsMarked, IsKept}
use Rattle.nm_region.proofs.Named.{written_over_is}

-- whatever is written into lent bytes, the mark at their end holds
pub marked-lent : (old bytes : List ℕ) (n : ℕ) → n ≡ 2048 → length old ≡ 2048 → IsMarked 2048 (take n (bytes ++ drop (length bytes) old))
marked-lent old bytes n is size =
    let whole = length-append bytes (drop (length bytes) old) in
    let rest = length-drop (length bytes) old in
    let enough : n ≤ length (bytes ++ drop (length bytes) old) = omega (arith, whole, rest, is, size) in
    let count : length (take n (bytes ++ drop (length bytes) old)) ≡ n = length-take-le n (bytes ++ drop (length bytes) old) enough in
    record {
      size = count ∙ is;
      within = omega arith;
      zero_behind = drop_all 2048 (take n (bytes ++ drop (length bytes) old)) (omega (arith, count, is));
    }

-- what is behind a later place of what is all zero is all zero
drop-twice : (k n : ℕ) (xs : List ℕ) → drop k (drop n xs) ≡ drop (n + k) xs
drop-twice k zero xs = let same : 0 + k ≡ k = omega arith in rw same refl
drop-twice k (suc n) [] = drop_all k [] (omega arith) ∙ sym (drop_all (suc n + k) [] (omega arith))
drop-twice k (suc n) (x ∷ xs) = let next : suc n + k ≡ suc (n + k) = omega arith in rw next (drop-twice k n xs)

pub zeros-behind : (used m : ℕ) (bytes : List ℕ) → IsMarked used bytes → used ≤ m → drop m bytes ≡ replicate (2048 - m) 0
zeros-behind used m bytes is later =
    let parts : used + (m - used) ≡ m = omega (arith, later) in
    let count : 2048 - used - (m - used) ≡ 2048 - m = omega (arith, later) in
    ap (λ (k : ℕ). drop k bytes) (sym parts)
    ∙ (sym (drop-twice (m - used) used bytes)
    ∙ (ap (λ (zs : List ℕ). drop (m - used) zs) is.zero_behind
    ∙ (drop-replicate (m - used) (2048 - used) 0 ∙ ap (λ (k : ℕ). replicate k 0) count)))

pub length-front : (bytes old : List ℕ) → length bytes ≤ length old → length (written_front bytes old) ≡ length old
length-front bytes old h =
    let whole = length-append bytes (drop (length bytes) old) in
    let rest = length-drop (length bytes) old in
    omega (arith, whole, rest)

pub marked-front : (used m : ℕ) (bytes old : List ℕ) → IsMarked used old → used ≤ m → length bytes ≤ m → m ≤ 2048 → IsMarked m (written_front bytes old)
marked-front used m bytes old is later long within =
    let size = is.size in
    let parts : length bytes + (m - length bytes) ≡ m = omega (arith, long) in
    record {
      size = length-front bytes old (omega (arith, long, within, size)) ∙ size;
      within = within;
      zero_behind =
          ap (λ (k : ℕ). drop k (written_front bytes old)) (sym parts)
          ∙ (drop-append-add bytes (drop (length bytes) old) (m - length bytes)
          ∙ (drop-twice (m - length bytes) (length bytes) old
          ∙ (ap (λ (k : ℕ). drop k old) parts ∙ zeros-behind used m old is later)));
    }

-- nothing is left behind a place up to which all was cleared
pub cleared-behind : (len used : ℕ) (old : List ℕ) → IsMarked used old → len ≤ used → cleared_between len used old ≡ cleared_but (take len old)
cleared-behind len used old is before =
    let size = is.size in
    let within = is.within in
    let front : length (take len old) ≡ len = length-take-le len old (omega (arith, size, before, within)) in
    let sum : used - len + (2048 - used) ≡ 2048 - length (take len old) = omega (arith, front, before, within) in
    ap (λ (zs : List ℕ). take len old ++ (replicate (used - len) 0 ++ zs)) is.zero_behind
    ∙ ap (λ (zs : List ℕ). take len old ++ zs) (replicate-append-replicate (used - len) (2048 - used) 0 ∙ ap (λ (k : ℕ). replicate k 0) sum)

pub clear-behind : (len used : ℕ) (old : List ℕ) → IsMarked used old → used ≤ len → len ≤ 2048 → old ≡ cleared_but (take len old)
clear-behind len used old is behind within =
    let size = is.size in
    let front : length (take len old) ≡ len = length-take-le len old (omega (arith, size, within)) in
    sym (take-append-drop len old)
    ∙ ap (λ (zs : List ℕ). take len old ++ zs) (zeros-behind used len old is behind ∙ ap (λ (k : ℕ). replicate (2048 - k) 0) (sym front))

pub marked-cleared : (len : ℕ) (old : List ℕ) → length old ≡ 2048 → len ≤ 2048 → IsMarked len (cleared_but (take len old))
marked-cleared len old size within =
    let front : length (take len old) ≡ len = length-take-le len old (omega (arith, size, within)) in
    let zeros = length-replicate {A = ℕ} (2048 - length (take len old)) 0 in
    let whole = length-append (take len old) (replicate (2048 - length (take len old)) 0) in
    record {
      size = omega (arith, front, zeros, whole, within);
      within = within;
      zero_behind = subst (λ (k : ℕ). drop k (cleared_but (take len old)) ≡ replicate (2048 - k) 0) front (drop-append_seam (take len old) (replicate (2048 - length (take len old)) 0));
    }

-- ---- a buffer in memory
pub full_is : (items : List ℕ) → length items ≡ 2048 → cleared_but items ≡ items
full_is items e =
    let none : 2048 - length items ≡ 0 = omega (arith, e) in
    ap (λ (k : ℕ). items ++ replicate k 0) none ∙ append-nil items

pub kept-new : (index : ℕ) (items : List ℕ) (at : Ptr) → items ≡ [] → at ≡ place_of (block_of at) index → IsKept 0 index false items at
kept-new index items at none place =
    let all : cleared_but items ≡ replicate 2048 0 = ap cleared_but none in
    record {
      mark = rw all (record { size = length-replicate {A = ℕ} 2048 0; within = omega arith; zero_behind = refl });
      whole = none;
      untouched = λ _. refl;
      place = place;
    }

pub kept-full : (used index : ℕ) (items : List ℕ) (at : Ptr) → length items ≡ 2048 → IsMarked used items → at ≡ place_of (block_of at) index → IsKept used index true items at
kept-full used index items at size mark place =
    record { mark = rw (full_is items size) mark; whole = size; untouched = λ e. absurd (let wrong : true ≡ false = e in cc); place = place }

-- a part of which some bytes are used is written
pub used-written : (used index : ℕ) (is_written : Bool) (items : List ℕ) (at : Ptr) → IsKept used index is_written items at → 0 < used → (is_written ≡ true) × (length items ≡ 2048)
used-written used index true items at is some = (refl, is.whole)
used-written used index false items at is some = absurd (let none = is.untouched refl in omega (arith, none, some))

-- none of a part's bytes is written, or all 2048
pub written-most : (is_written : Bool) (items : List ℕ) → AreWritten is_written items → length items ≤ 2048
written-most true items size = omega (arith, size)
written-most false items none = omega (arith, ap length none)

-- a part is where it was, for its buffer, once its bytes are in memory
pub placed-still : (index : ℕ) (at there : Ptr) → at ≡ there → there ≡ place_of (block_of there) index → at ≡ place_of (block_of at) index
placed-still index at there e place = subst (λ (p : Ptr). p ≡ place_of (block_of p) index) (sym e) place

pub same-buffer : (a b : Buffer) → a.region ≡ b.region → a.index ≡ b.index → a.bytes ≡ b.bytes → a ≡ b
same-buffer a b r i e = λ j. record { region = r j; index = i j; bytes = e j }

pub ruleset marks = (full_is, kept-new, kept-full, written-most, marked-lent, marked-front, cleared-behind, clear-behind, marked-cleared, written_over_is)
