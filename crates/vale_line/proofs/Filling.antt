-- Frames written into the buffers of a lease.
use Rattle.std.proofs.Common.{ℕ, zero, suc, ◌≡◌, ◌+◌, ◌<◌, ◌≤◌, List, [], ◌∷◌, ◌++◌, length, take, drop, map, get_or, slice_set, inl, inr, refl, sym, ◌∙◌, ap, arith}
use Rattle.std.specs.Prelude.{All, min, nat_le, sum}
use Rattle.vale_line.proofs.FittingLemmas.{length-ones, ones_of, sum-cons, sum-ones}
use Rattle.std.proofs.Math.Seq.{take-append-add, drop-append-add}
use Rattle.std.proofs.lemmas.Bool.{cases_Bool, leb-true, leb-false}
use Rattle.nm_frag.proofs.PartLemmas.{length-parts}
use Rattle.std.proofs.lemmas.List.{length-append, length-drop, take-replicate, drop-drop, drop-map, length-map, length-take-le, take_all, drop_all}
use Rattle.std.proofs.lemmas.List.Elements.{All-head, All-tail, All-replicate}
use Rattle.nm_region.specs.Buffers.{Buffer}
use Rattle.nm_frag.specs.Parts.{slots_of_length, first_parts, parts_of}
use Rattle.vale_line.specs.declared.got.Got.{Got}
use Rattle.vale_line.specs.Fitting.{IsFrameSize}
use Rattle.vale_line.specs.Gots.{blank, got_of, buffer_of, buffers_of, gots_of_parts, gots_with, written_parts}
use Rattle.vale_line.specs.Leased.{first_size, sizes_behind, sizes_in}
use Rattle.vale_line.proofs.FrameLemmas.{length-parts_of}

-- parts written into the first buffers
pub take-written : (parts : List (List ℕ)) (gots : List Got) → length parts ≤ length gots → take (length parts) (written_parts parts gots) ≡ gots_of_parts parts (buffers_of gots)
take-written [] gots room = refl
take-written (p ∷ ps) [] room = absurd (omega (arith, room))
take-written (p ∷ ps) (g ∷ gs) room = ap (λ (rest : List Got). got_of p (length ps) g.buf ∷ rest) (take-written ps gs (omega (arith, room)))

pub drop-written : (parts : List (List ℕ)) (gots : List Got) → length parts ≤ length gots → drop (length parts) (written_parts parts gots) ≡ drop (length parts) gots
drop-written [] gots room = refl
drop-written (p ∷ ps) [] room = absurd (omega (arith, room))
drop-written (p ∷ ps) (g ∷ gs) room = drop-written ps gs (omega (arith, room))

pub length-written : (parts : List (List ℕ)) (gots : List Got) → length (written_parts parts gots) ≡ length gots
length-written [] gots = refl
length-written (p ∷ ps) [] = refl
length-written (p ∷ ps) (g ∷ gs) = let rest = length-written ps gs in omega (arith, rest)

-- the next part goes into the next buffer
pub written-more : (gots : List Got) (at left : ℕ) (rest : List ℕ) (g : Got) → at < length gots → get_or gots at g ≡ g
    → take (at + 1) (slice_set gots at (got_of (take 2048 rest) left g.buf)) ++ written_parts (first_parts left (drop 2048 rest)) (drop (at + 1) (slice_set gots at (got_of (take 2048 rest) left g.buf)))
    ≡ take at gots ++ written_parts (first_parts (suc left) rest) (drop at gots)
written-more [] at left rest g h e = absurd (omega (arith, h))
written-more (x ∷ xs) zero left rest g h e =
    let behind = length-parts left (drop 2048 rest) in
    ap (λ (n : ℕ). got_of (take 2048 rest) n g.buf ∷ written_parts (first_parts left (drop 2048 rest)) xs) (sym behind)
    ∙ ap (λ (y : Got). got_of (take 2048 rest) (length (first_parts left (drop 2048 rest))) y.buf ∷ written_parts (first_parts left (drop 2048 rest)) xs) (sym e)
written-more (x ∷ xs) (suc at) left rest g h e =
    let next : suc at + 1 ≡ suc (at + 1) = omega arith in
    rw next (ap (λ (ys : List Got). x ∷ ys) (written-more xs at left rest g (omega (arith, h)) e))

-- a cut at the length is one at any number behind it
at-min : {X : Type 0} (f : ℕ → X) (len n : ℕ) → (len ≤ n → f len ≡ f n) → f (min len n) ≡ f n
at-min f len n all = elim (cases_Bool (nat_le len n)) [
  | inl here ↦
      let few : len ≤ n = leb-true len n here in
      let same : min len n ≡ len = omega (arith, few) in
      ap f same ∙ all few
  | inr other ↦
      let many : n < len = leb-false len n other in
      let same : min len n ≡ n = omega (arith, many) in
      ap f same
]

pub take-min : (n : ℕ) (xs : List ℕ) → take (min (length xs) n) xs ≡ take n xs
take-min n xs = at-min (λ k. take k xs) (length xs) n (λ few. take_all (length xs) xs (omega arith) ∙ sym (take_all n xs few))

pub drop-min : (n : ℕ) (xs : List ℕ) → drop (min (length xs) n) xs ≡ drop n xs
drop-min n xs = at-min (λ k. drop k xs) (length xs) n (λ few. drop_all (length xs) xs (omega arith) ∙ sym (drop_all n xs few))

-- a lease's buffers, once a frame is filled in behind the filled ones: what stands before, what it
-- takes, and what is left
pub record FilledIn (gots new : List Got) (at : ℕ) (bytes : List ℕ) : Type 0 where
  pub filled : take (at + slots_of_length (length bytes)) new ≡ take at gots ++ gots_with bytes (buffers_of (drop at gots))
  pub left : drop (at + slots_of_length (length bytes)) new ≡ drop (at + slots_of_length (length bytes)) gots
  pub size : length new ≡ length gots

pub filled-in : (gots new : List Got) (at : ℕ) (bytes : List ℕ) → new ≡ take at gots ++ written_parts (parts_of bytes) (drop at gots)
    → at + slots_of_length (length bytes) ≤ length gots → FilledIn gots new at bytes
filled-in gots new at bytes is room =
    let n = slots_of_length (length bytes) in
    let parts = parts_of bytes in
    let count : length parts ≡ n = length-parts_of bytes in
    let front : length (take at gots) ≡ at = length-take-le at gots (omega (arith, room)) in
    let behind = length-drop at gots in
    let fits : length parts ≤ length (drop at gots) = omega (arith, count, behind, room) in
    let taken = take-written parts (drop at gots) fits in
    let rest = drop-written parts (drop at gots) fits in
    let seam : length (take at gots) + length parts ≡ at + n = omega (arith, front, count) in
    record {
      filled =
          ap (take (at + n)) is
          ∙ (ap (λ (k : ℕ). take k (take at gots ++ written_parts parts (drop at gots))) (sym seam)
          ∙ (take-append-add (take at gots) (written_parts parts (drop at gots)) (length parts) ∙ ap (λ (gs : List Got). take at gots ++ gs) taken));
      left =
          ap (drop (at + n)) is
          ∙ (ap (λ (k : ℕ). drop k (take at gots ++ written_parts parts (drop at gots))) (sym seam)
          ∙ (drop-append-add (take at gots) (written_parts parts (drop at gots)) (length parts)
          ∙ (rest ∙ (drop-drop (length parts) at gots ∙ ap (λ (k : ℕ). drop (at + k) gots) count))));
      size = ap length is ∙ (length-append (take at gots) (written_parts parts (drop at gots)) ∙ (let same = length-written parts (drop at gots) in omega (arith, front, same, behind, room)));
    }

pub drop-buffers : (n : ℕ) (gots : List Got) → buffers_of (drop n gots) ≡ drop n (buffers_of gots)
drop-buffers n gots = sym (drop-map buffer_of n gots)

-- the sizes that buffers tell behind some others
pub sizes-skip : (gots : List Got) (k : ℕ) → sizes_behind gots k ≡ sizes_in (drop k gots)
sizes-skip gots zero = refl
sizes-skip [] (suc k) = refl
sizes-skip (g ∷ gs) (suc k) = sizes-skip gs k

-- the first size, and those behind the buffers of its frame
pub sizes-first : (gots : List Got) (n : ℕ) → n ≡ first_size (sizes_in gots) → 1 ≤ n → (1 ≤ length gots) × ((d : Got) → suc (get_or gots 0 d).rest ≡ n) × (sizes_in gots ≡ n ∷ sizes_in (drop n gots))
sizes-first [] n is some = absurd (omega (arith, is, some))
sizes-first (g ∷ gs) n is some =
    let same : n ≡ suc g.rest = is in
    (omega arith, (λ d. sym same), rw same (ap (λ (ns : List ℕ). suc g.rest ∷ ns) (sizes-skip gs g.rest)))

pub get-drop : (gots : List Got) (i : ℕ) (d : Got) → get_or (drop i gots) 0 d ≡ get_or gots i d
get-drop gots zero d = refl
get-drop [] (suc i) d = refl
get-drop (g ∷ gs) (suc i) d = get-drop gs i d

-- few buffers behind as many others tell nothing
pub sizes-none : (gots : List Got) (k : ℕ) → length gots ≤ k → sizes_behind gots k ≡ []
sizes-none [] k few = refl
sizes-none (g ∷ gs) zero few = absurd (omega (arith, few))
sizes-none (g ∷ gs) (suc k) few = sizes-none gs k (omega (arith, few))

length-take : (k : ℕ) (gots : List Got) → length (take k gots) ≤ k
length-take zero gots = omega arith
length-take (suc k) [] = omega arith
length-take (suc k) (g ∷ gs) = let rest = length-take k gs in omega (arith, rest)

-- the next buffer tells the size of its frame
pub sizes-marked : (gots : List Got) (skip at s : ℕ) (g : Got) → at + s ≤ length gots → 1 ≤ s → suc g.rest ≡ s → sum (sizes_behind (take at gots) skip) + skip ≡ at
    → sizes_behind (take (at + s) (slice_set gots at g)) skip ≡ sizes_behind (take at gots) skip ++ s ∷ []
sizes-marked [] skip at s g room some same sums = absurd (omega (arith, room, some))
sizes-marked (x ∷ xs) zero zero s g room some same sums =
    let next : 0 + s ≡ suc g.rest = omega (arith, same) in
    rw next (ap (λ (ns : List ℕ). suc g.rest ∷ ns) (sizes-none (take g.rest xs) g.rest (length-take g.rest xs)) ∙ ap (λ (n : ℕ). n ∷ []) same)
sizes-marked (x ∷ xs) (suc skip) zero s g room some same sums = absurd (omega (arith, sums))
sizes-marked (x ∷ xs) zero (suc at) s g room some same sums =
    let next : suc at + s ≡ suc (at + s) = omega arith in
    let whole = sum-cons (suc x.rest) (sizes_behind (take at xs) x.rest) in
    rw next (ap (λ (ns : List ℕ). suc x.rest ∷ ns) (sizes-marked xs x.rest at s g (omega (arith, room)) some same (omega (arith, whole, sums))))
sizes-marked (x ∷ xs) (suc skip) (suc at) s g room some same sums =
    let next : suc at + s ≡ suc (at + s) = omega arith in
    rw next (sizes-marked xs skip at s g (omega (arith, room)) some same (omega (arith, sums)))

pub buffers-set : (gots : List Got) (at : ℕ) (g d : Got) → at < length gots → g.buf ≡ (get_or gots at d).buf → buffers_of (slice_set gots at g) ≡ buffers_of gots
buffers-set [] at g d within same = refl
buffers-set (x ∷ xs) zero g d within same = ap (λ (b : Buffer). b ∷ buffers_of xs) same
buffers-set (x ∷ xs) (suc at) g d within same = ap (λ (bs : List Buffer). x.buf ∷ bs) (buffers-set xs at g d (omega (arith, within)) same)

pub size-at : (ns : List ℕ) (i : ℕ) → All IsFrameSize ns → i < length ns → IsFrameSize (get_or ns i 0)
size-at [] i all within = absurd (omega (arith, within))
size-at (n ∷ ns) zero all within = All-head IsFrameSize n ns all
size-at (n ∷ ns) (suc i) all within = size-at ns i (All-tail IsFrameSize n ns all) (omega (arith, within))

-- sizes are at least as many as their sum where each is one
pub ones-most : (ns : List ℕ) → All IsFrameSize ns → length ns ≤ sum ns
ones-most [] all = omega arith
ones-most (n ∷ ns) all = let rest = ones-most ns (All-tail IsFrameSize n ns all) in let whole = sum-cons n ns in let some = (All-head IsFrameSize n ns all).0 in omega (arith, rest, whole, some)

blanks-tell : (ns : List ℕ) (bufs : List Buffer) → All IsFrameSize ns → sum ns ≡ length bufs → length bufs ≤ length ns → sizes_in (map blank bufs) ≡ ns
blanks-tell [] [] all total many = refl
blanks-tell [] (b ∷ bs) all total many = absurd (omega (arith, total))
blanks-tell (n ∷ ns) [] all total many = absurd (let most = ones-most (n ∷ ns) all in omega (arith, total, most))
blanks-tell (n ∷ ns) (b ∷ bs) all total many =
    let rest_all = All-tail IsFrameSize n ns all in
    let most = ones-most ns rest_all in
    let whole = sum-cons n ns in
    let some = (All-head IsFrameSize n ns all).0 in
    let one : n ≡ 1 = omega (arith, most, whole, some, total, many) in
    let rest = blanks-tell ns bs rest_all (omega (arith, whole, one, total)) (omega (arith, many)) in
    ap (λ (l : List ℕ). suc 0 ∷ l) rest ∙ ap (λ (k : ℕ). k ∷ ns) (sym one)

-- buffers with no frames tell of frames of one buffer
pub blank-sizes : (ns : List ℕ) (gots : List Got) → All IsFrameSize ns → sum ns ≡ length gots → length gots ≤ length ns → gots ≡ map blank (buffers_of gots) → sizes_in gots ≡ ns
blank-sizes ns gots all total many blanks =
    let long = length-map gots buffer_of in
    ap sizes_in blanks ∙ blanks-tell ns (buffers_of gots) all (omega (arith, total, long)) (omega (arith, many, long))

-- buffers with no frames tell of frames of one slot each

all-ones : (n : ℕ) → All IsFrameSize (ones_of n)
all-ones n = All-replicate IsFrameSize n 1 (omega arith, omega arith)

pub blank-ones : (gots : List Got) → gots ≡ map blank (buffers_of gots) → sizes_in gots ≡ ones_of (length gots)
blank-ones gots blanks =
    let n = length gots in
    let many = length-ones n in
    blank-sizes (ones_of n) gots (all-ones n) (sum-ones n) (omega (arith, many)) blanks

-- the first of sizes of one are as many as their sum
pub ones-first : (frames count : ℕ) (want : List ℕ) (gots : List Got) → ones_of count ≡ want → frames ≤ length want → sum (take frames want) ≡ length gots
    → ones_of (length gots) ≡ take frames want
ones-first frames count want gots is within total =
    let long : length want ≡ count = ap length (sym is) ∙ length-ones count in
    let taken : take frames want ≡ ones_of frames = ap (take frames) (sym is) ∙ take-replicate frames count 1 (omega (arith, within, long)) in
    let all : length gots ≡ frames = sym total ∙ (ap sum taken ∙ sum-ones frames) in
    ap ones_of all ∙ sym taken

pub ruleset blanks = (blank-ones)

pub ruleset ones = (length-ones, sum-ones)

pub ruleset told = (ones-first)

pub ruleset marks = (blank-sizes, ones-most)

pub ruleset filling = (length-map)

-- a lease in which all frames are filled has none left
pub none-left : (sizes : List ℕ) → length sizes ≡ 0 → sizes ≡ []
none-left [] is = refl
none-left (size ∷ sizes) is = absurd (omega (arith, is))

pub ruleset tests = (none-left)

pub ruleset parts_in = (take-min)
