-- The shares of the main pass and of one other, cut and put together.
use Rattle.std.proofs.Common.{◌≡◌, ℕ, ◌+◌, ◌-◌, ◌*◌, ◌^◌, ◌≤◌, max, List, [], ◌∷◌, ◌++◌, sym, ap, ◌∙◌, arith, pow-add, pow_pos}
use Rattle.nm_turn.specs.declared.view.Share.{Share}
use Rattle.nm_turn.specs.Shares.{IsWhole, half, weight, both_parts, deepest, total, AddUp}
use Rattle.nm_turn.proofs.Shares.{weight-deeper, AddUp-total, total-AddUp}

weight-half : (d : ℕ) (p : Share) → p.depth + 1 ≤ d → weight d p ≡ weight d (half p) + weight d (half p)
weight-half d p le =
    let e : d - p.depth ≡ (d - (p.depth + 1)) + 1 = omega arith in
    let f : 2 ^ (d - p.depth) ≡ 2 ^ (d - (p.depth + 1)) * 2 ^ 1 = ap (λ (n : ℕ). 2 ^ n) e ∙ pow-add 2 (d - (p.depth + 1)) 1 in
    let x : ℕ = 2 ^ (d - (p.depth + 1)) in
    ap (λ (n : ℕ). p.share * n) f ∙ grind arith

weight-both : (d : ℕ) (p q : Share) → p.depth ≤ d → q.depth ≤ d → weight d (both_parts p q) ≡ weight d p + weight d q
weight-both d p q dp dq =
    let m : ℕ = max p.depth q.depth in
    let k : ℕ = d - m in
    let e : m + k ≡ d = omega arith in
    let wp : weight d p ≡ 2 ^ k * weight m p = ap (λ (n : ℕ). weight n p) (sym e) ∙ weight-deeper m k p (omega arith) in
    let wq : weight d q ≡ 2 ^ k * weight m q = ap (λ (n : ℕ). weight n q) (sym e) ∙ weight-deeper m k q (omega arith) in
    let wb : weight d (both_parts p q) ≡ 2 ^ k * weight m (both_parts p q) = ap (λ (n : ℕ). weight n (both_parts p q)) (sym e) ∙ weight-deeper m k (both_parts p q) (omega arith) in
    let z : m - m ≡ 0 = omega arith in
    let one : weight m (both_parts p q) ≡ (weight m p + weight m q) * 1 = ap (λ (n : ℕ). (weight m p + weight m q) * 2 ^ n) z in
    grind (arith, wp, wq, wb, one)

-- parts that count as much make up the whole as well
pub add-as : (ps qs : List Share) (d : ℕ) → deepest ps ≤ d → deepest qs ≤ d → total d ps ≡ total d qs → AddUp ps → AddUp qs
add-as ps qs d a b e up = total-AddUp d qs b (sym e ∙ AddUp-total d ps up a)

-- half of the first goes to the second
pub add-meets : (v s : Share) (ps : List Share) → AddUp (v ∷ s ∷ ps) → AddUp (half v ∷ both_parts s (half v) ∷ ps)
add-meets v s ps up =
    let d : ℕ = v.depth + 1 + s.depth + deepest ps in
    let halves = weight-half d v (omega arith) in
    let both = weight-both d s (half v) (omega arith) (omega arith) in
    add-as (v ∷ s ∷ ps) (half v ∷ both_parts s (half v) ∷ ps) d (omega arith) (omega arith) (omega (arith, halves, both)) up

-- half of the second goes to the first
pub add-tells : (v s : Share) (ps : List Share) → AddUp (v ∷ s ∷ ps) → AddUp (both_parts v (half s) ∷ half s ∷ ps)
add-tells v s ps up =
    let d : ℕ = v.depth + 1 + s.depth + deepest ps in
    let halves = weight-half d s (omega arith) in
    let both = weight-both d v (half s) (omega arith) (omega arith) in
    add-as (v ∷ s ∷ ps) (both_parts v (half s) ∷ half s ∷ ps) d (omega arith) (omega arith) (omega (arith, halves, both)) up

-- half of it is another's
pub add-forks : (v : Share) (ps : List Share) → AddUp (v ∷ ps) → AddUp (half v ∷ half v ∷ ps)
add-forks v ps up =
    let d : ℕ = v.depth + 1 + deepest ps in
    let halves = weight-half d v (omega arith) in
    add-as (v ∷ ps) (half v ∷ half v ∷ ps) d (omega arith) (omega arith) (omega (arith, halves)) up

-- both are put together
pub add-joins : (v s : Share) (ps : List Share) → AddUp (v ∷ s ∷ ps) → AddUp (both_parts v s ∷ ps)
add-joins v s ps up =
    let d : ℕ = v.depth + s.depth + deepest ps in
    let both = weight-both d v s (omega arith) (omega arith) in
    add-as (v ∷ s ∷ ps) (both_parts v s ∷ ps) d (omega arith) (omega arith) (omega (arith, both)) up

-- half of a part is never the whole
pub half-not-whole : (v : Share) (ps : List Share) → AddUp (v ∷ ps) → ¬ IsWhole (half v)
half-not-whole v ps up whole =
    let d : ℕ = max v.depth (deepest ps) in
    let e : v.depth + 1 + (d - v.depth) ≡ d + 1 = omega arith in
    let heavy : weight d v ≡ 2 ^ d * 2 ^ 1 = ap (λ (n : ℕ). n * 2 ^ (d - v.depth)) whole ∙ (sym (pow-add 2 (v.depth + 1) (d - v.depth)) ∙ (ap (λ (n : ℕ). 2 ^ n) e ∙ pow-add 2 d 1)) in
    let pos = pow_pos d in
    let x : ℕ = 2 ^ d in
    let all : weight d v + total d ps ≡ x = up in
    let twice : weight d v ≡ x + x = heavy ∙ grind arith in
    omega (arith, pos, all, twice)

-- the order does not matter
pub total-then : (d : ℕ) (ps qs : List Share) → total d (ps ++ qs) ≡ total d ps + total d qs
total-then d [] qs = omega arith
total-then d (p ∷ ps) qs = let e = total-then d ps qs in omega (arith, e)

pub deepest-then : (ps qs : List Share) → deepest (ps ++ qs) ≡ max (deepest ps) (deepest qs)
deepest-then [] qs = omega arith
deepest-then (p ∷ ps) qs = let e = deepest-then ps qs in omega (arith, e)

moved-total : (d : ℕ) (ps qs rs : List Share) → total d ((ps ++ qs) ++ rs) ≡ total d (qs ++ (ps ++ rs))
moved-total d ps qs rs =
    let a = total-then d (ps ++ qs) rs in
    let b = total-then d ps qs in
    let c = total-then d qs (ps ++ rs) in
    let e = total-then d ps rs in
    omega (arith, a, b, c, e)

deepest-left : (ps qs rs : List Share) → deepest ((ps ++ qs) ++ rs) ≤ deepest ps + deepest qs + deepest rs
deepest-left ps qs rs = omega (arith, deepest-then (ps ++ qs) rs, deepest-then ps qs)

deepest-right : (ps qs rs : List Share) → deepest (qs ++ (ps ++ rs)) ≤ deepest ps + deepest qs + deepest rs
deepest-right ps qs rs = omega (arith, deepest-then qs (ps ++ rs), deepest-then ps rs)

pub add-moved : (v : Share) (ps qs rs : List Share) → AddUp (v ∷ (ps ++ qs) ++ rs) → AddUp (v ∷ qs ++ (ps ++ rs))
add-moved v ps qs rs up =
    let d : ℕ = v.depth + deepest ps + deepest qs + deepest rs in
    add-as (v ∷ (ps ++ qs) ++ rs) (v ∷ qs ++ (ps ++ rs)) d (omega (arith, deepest-left ps qs rs)) (omega (arith, deepest-right ps qs rs)) (omega (arith, moved-total d ps qs rs)) up

pub add-moved-back : (v : Share) (ps qs rs : List Share) → AddUp (v ∷ qs ++ (ps ++ rs)) → AddUp (v ∷ (ps ++ qs) ++ rs)
add-moved-back v ps qs rs up =
    let d : ℕ = v.depth + deepest ps + deepest qs + deepest rs in
    add-as (v ∷ qs ++ (ps ++ rs)) (v ∷ (ps ++ qs) ++ rs) d (omega (arith, deepest-right ps qs rs)) (omega (arith, deepest-left ps qs rs)) (omega (arith, moved-total d ps qs rs)) up
