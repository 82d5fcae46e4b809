-- Buffers that are moved from one end of a list to another.
use Rattle.std.proofs.Common.{ℕ, zero, suc, ◌≡◌, ◌+◌, List, [], ◌∷◌, ◌++◌, take, drop, map, refl, sym, ◌∙◌, ap, subst, arith}
use Rattle.std.proofs.lemmas.List.{map-append}
use Rattle.std.specs.Prelude.{IsPermutation}
use Rattle.std.proofs.lemmas.List.{take-append-drop}
use Rattle.std.proofs.lemmas.List.Sorted.{IsPermutation-append_comm}
use Rattle.nm_region.specs.Buffers.{Buffer, RegionState, name_of, names_of, region_names, opened_buffers, AreAllOf}
use Rattle.nm_region.proofs.Named.{names_of-opened}
use Rattle.vale_line.specs.declared.got.Got.{Got}
use Rattle.vale_line.specs.Gots.{blank, buffers_of}

-- the front of what is left is the next one
pub blanks-more : (bufs : List Buffer) (n : ℕ) (b : Buffer) (left : List Buffer) → drop n bufs ≡ b ∷ left → map blank (take (n + 1) bufs) ≡ map blank (take n bufs) ++ blank b ∷ []
blanks-more [] zero b left e = absurd (let wrong : [] ≡ b ∷ left = e in cc)
blanks-more [] (suc n) b left e = absurd (let wrong : [] ≡ b ∷ left = e in cc)
blanks-more (x ∷ xs) zero b left e = let same : x ≡ b = cc in ap (λ (y : Buffer). blank y ∷ []) same
blanks-more (x ∷ xs) (suc n) b left e = let next : suc n + 1 ≡ suc (n + 1) = omega arith in rw next (ap (λ (ys : List Got). blank x ∷ ys) (blanks-more xs n b left e))

pub front-more : (bufs : List Buffer) (n : ℕ) (b : Buffer) (left : List Buffer) → drop n bufs ≡ b ∷ left → take (n + 1) bufs ≡ take n bufs ++ b ∷ []
front-more [] zero b left e = absurd (let wrong : [] ≡ b ∷ left = e in cc)
front-more [] (suc n) b left e = absurd (let wrong : [] ≡ b ∷ left = e in cc)
front-more (x ∷ xs) zero b left e = let same : x ≡ b = cc in ap (λ (y : Buffer). y ∷ []) same
front-more (x ∷ xs) (suc n) b left e = let next : suc n + 1 ≡ suc (n + 1) = omega arith in rw next (ap (λ (ys : List Buffer). x ∷ ys) (front-more xs n b left e))

pub left-less : (bufs : List Buffer) (n : ℕ) (b : Buffer) (left : List Buffer) → drop n bufs ≡ b ∷ left → left ≡ drop (n + 1) bufs
left-less [] zero b left e = absurd (let wrong : [] ≡ b ∷ left = e in cc)
left-less [] (suc n) b left e = absurd (let wrong : [] ≡ b ∷ left = e in cc)
left-less (x ∷ xs) zero b left e = cc
left-less (x ∷ xs) (suc n) b left e = let next : suc n + 1 ≡ suc (n + 1) = omega arith in rw next (left-less xs n b left e)

-- buffers with no frame in them are the buffers
pub buffers-blank : (bufs : List Buffer) → buffers_of (map blank bufs) ≡ bufs
buffers-blank [] = refl
buffers-blank (b ∷ bs) = ap (λ (rest : List Buffer). b ∷ rest) (buffers-blank bs)

-- the first buffers of a region's stand behind the others
pub rotated : (r : RegionState) (n : ℕ) (out : List Buffer) → out ≡ drop n (opened_buffers r) ++ take n (opened_buffers r) → AreAllOf r out
rotated r n out is =
    let bufs = opened_buffers r in
    let parts = map-append name_of (drop n bufs) (take n bufs) in
    let whole : names_of (take n bufs) ++ names_of (drop n bufs) ≡ region_names r =
    sym (map-append name_of (take n bufs) (drop n bufs)) ∙ (ap names_of (take-append-drop n bufs) ∙ names_of-opened r) in
    let turned = IsPermutation-append_comm (names_of (take n bufs)) (names_of (drop n bufs)) in
    subst (λ (names : List (ℕ × ℕ)). IsPermutation (region_names r) names) (sym (ap names_of is ∙ parts))
    (subst (λ (names : List (ℕ × ℕ)). IsPermutation names (names_of (drop n bufs) ++ names_of (take n bufs))) whole turned)

pub ruleset moving = (buffers-blank, blanks-more, front-more, left-less)
