-- How many lines there are, by their line feeds.
use Rattle.std.proofs.Common.{◌≡◌, ℕ, suc, ◌+◌, ◌-◌, ◌<◌, ◌≤◌, ◌==◌, drop, ◌&&◌, nat_lt, Bool, true, false, not, cond, List, [], ◌∷◌, length, slice_index, refl, sym, ap, ◌∙◌, arith}
use Rattle.std.specs.List.{slice_split, count_by, onto_first}
use Rattle.std.specs.Str.Lines.{lines, lines_of_parts}
use Rattle.std.proofs.lemmas.Bool.{lt-ltb}
use Rattle.std.proofs.lemmas.Bool.Decides.{nat_tests}
use Rattle.std.proofs.lemmas.List.Splits.{length-slice_split}
use Rattle.std.proofs.lemmas.List.Sums.{sum_by-cons, sum_by-append, count_by-le-length}
use Rattle.std.proofs.lemmas.Simd.{chunk-drop}
use lib.Lanes.{chunk}
use Rattle.vale_script.specs.Counts.{is_open}
use Rattle.vale_script.specs.Grammar.{is_line_feed}
use Rattle.vale_script.proofs.Cuts.{parts_more}

-- more than one part, or one that is not empty
abbrev room : List (List ℕ) → ℕ
room [] = 0
room (part ∷ parts) = length part + length parts

one-part : (part : List ℕ) → 0 < length part → length (lines_of_parts (part ∷ [])) ≡ 1
one-part part some =
    let test : (length part == 0) ≡ false = grind (arith, nat_tests) in
    ap (λ (b : Bool). length (cond b [] (part ∷ []))) test

grown : (b : ℕ) (parts : List (List ℕ)) → 0 < room parts → length (lines_of_parts (onto_first b parts)) ≡ length (lines_of_parts parts)
grown b [] some = absurd (omega arith)
grown b ([] ∷ []) some = absurd (omega arith)
grown b ((x ∷ part) ∷ []) some = one-part (b ∷ x ∷ part) (omega arith) ∙ sym (one-part (x ∷ part) (omega arith))
grown b (part ∷ next ∷ parts) some = refl

some-room : (x : Bool) (b : ℕ) (parts : List (List ℕ)) → 0 < length parts → 0 < room (cond x ([] ∷ parts) (onto_first b parts))
some-room true b parts some = omega (arith, some)
some-room false b [] some = absurd (omega arith)
some-room false b (part ∷ parts) some = omega arith

one-more : (x : Bool) (b : ℕ) (parts : List (List ℕ)) (n ended : ℕ) → 0 < length parts → 0 < room parts → length (lines_of_parts parts) ≡ n + ended
    → length (lines_of_parts (cond x ([] ∷ parts) (onto_first b parts))) ≡ (cond x 1 0 + n) + ended
one-more true b parts n ended some more so = ap length (parts_more [] parts some) ∙ omega (arith, so)
one-more false b parts n ended some more so = let none : n + ended ≡ (0 + n) + ended = omega arith in grown b parts more ∙ so ∙ none

last-byte : (x : Bool) (b : ℕ) → length (lines_of_parts (cond x ([] ∷ [] ∷ []) ((b ∷ []) ∷ []))) ≡ (0 + cond x 1 0) + cond (not x) 1 0
last-byte true b = refl
last-byte false b = refl

some-parts : (bytes : List ℕ) → 0 < length (slice_split is_line_feed bytes)
some-parts bytes = omega (arith, length-slice_split is_line_feed bytes)

open-behind : (b c : ℕ) (cs : List ℕ) → is_open (c ∷ cs) ≡ is_open (b ∷ c ∷ cs)
open-behind b c cs =
    let some : nat_lt 0 (length (c ∷ cs)) ≡ true = lt-ltb 0 (length (c ∷ cs)) (omega arith) in
    let more : nat_lt 0 (length (b ∷ c ∷ cs)) ≡ true = lt-ltb 0 (length (b ∷ c ∷ cs)) (omega arith) in
    let place : suc (length (c ∷ cs) - 1) ≡ length (b ∷ c ∷ cs) - 1 = omega arith in
    (λ i. (some ∙ sym more) i && not (is_line_feed (slice_index (b ∷ c ∷ cs) (place i))))

counted : (bytes : List ℕ) → length (lines bytes) ≡ count_by is_line_feed bytes + cond (is_open bytes) 1 0
counted [] = refl
counted (b ∷ []) = last-byte (is_line_feed b) b
counted (b ∷ c ∷ cs) =
    one-more (is_line_feed b) b (slice_split is_line_feed (c ∷ cs)) (count_by is_line_feed (c ∷ cs)) (cond (is_open (c ∷ cs)) 1 0) (some-parts (c ∷ cs))
    (some-room (is_line_feed c) c (slice_split is_line_feed cs) (some-parts cs)) (counted (c ∷ cs))
    ∙ ap (λ (x : Bool). (cond (is_line_feed b) 1 0 + count_by is_line_feed (c ∷ cs)) + cond x 1 0) (open-behind b c cs)
    ∙ ap (λ (n : ℕ). n + cond (is_open (b ∷ c ∷ cs)) 1 0) (sym (sum_by-cons (λ (x : ℕ). cond (is_line_feed x) 1 0) b (c ∷ cs)))

-- a block, and what is behind it
pub count_on : (bytes : List ℕ) (at count more all : ℕ) → count + count_by is_line_feed (drop at bytes) ≡ all → more ≡ count_by is_line_feed (chunk at 64 bytes)
    → (count + more) + count_by is_line_feed (drop (at + 64) bytes) ≡ all
count_on bytes at count more all so is =
    let cut : count_by is_line_feed (drop at bytes) ≡ count_by is_line_feed (chunk at 64 bytes) + count_by is_line_feed (drop (at + 64) bytes) =
    ap (count_by is_line_feed) (chunk-drop at 64 bytes) ∙ sum_by-append (λ (x : ℕ). cond (is_line_feed x) 1 0) (chunk at 64 bytes) (drop (at + 64) bytes) in
    omega (arith, so, is, cut)

-- no more line feeds than bytes
pub few_feeds : (bytes : List ℕ) (n m : ℕ) → n + m ≡ count_by is_line_feed bytes → n ≤ length bytes
few_feeds bytes n m is = let few = count_by-le-length is_line_feed bytes in omega (arith, is, few)

pub lines_counted : (bytes : List ℕ) (n : ℕ) → n ≡ count_by is_line_feed bytes → n + cond (is_open bytes) 1 0 ≡ length (lines bytes)
lines_counted bytes n is =
    ap (λ (k : ℕ). k + cond (is_open bytes) 1 0) is ∙ sym (counted bytes)

pub with_open_end : (bytes : List ℕ) (n : ℕ) → n ≡ count_by is_line_feed bytes → is_open bytes ≡ true → n + 1 ≡ length (lines bytes)
with_open_end bytes n is ended = ap (λ (b : Bool). n + cond b 1 0) (sym ended) ∙ lines_counted bytes n is

pub without_open_end : (bytes : List ℕ) (n : ℕ) → n ≡ count_by is_line_feed bytes → is_open bytes ≡ false → n ≡ length (lines bytes)
without_open_end bytes n is closed =
    let whole : n ≡ n + 0 = omega arith in
    whole ∙ ap (λ (b : Bool). n + cond b 1 0) (sym closed) ∙ lines_counted bytes n is

pub ruleset counts = (with_open_end, without_open_end)
