-- The arithmetic of shares: a fork halves, a join adds, and who has the whole is alone.
use Rattle.std.proofs.Common.{◌≡◌, ℕ, zero, suc, ◌+◌, ◌-◌, ◌*◌, ◌^◌, ◌<◌, ◌≤◌, max, List, [], ◌∷◌, ◌++◌, set, sym, ap, ◌∙◌, subst, arith, pow-add, pow_pos}
use mathlib.Core.Option.{some, some-injective, some-ne-none}
use lib.ListN.{get_elem?}
use Rattle.atomic_table.proofs.Lists.{set_else, set_again}
use Rattle.nm_turn.specs.declared.view.Share.{Share}
use Rattle.nm_turn.specs.Shares.{nothing, IsWhole, half, weight, both_parts, deepest, total, AddUp}

pub weight-deeper : (d k : ℕ) (p : Share) → p.depth ≤ d → weight (d + k) p ≡ 2 ^ k * weight d p
weight-deeper d k p le =
    let e : (d + k) - p.depth ≡ (d - p.depth) + k = omega arith in
    let f : 2 ^ ((d + k) - p.depth) ≡ 2 ^ (d - p.depth) * 2 ^ k = ap (λ (n : ℕ). 2 ^ n) e ∙ pow-add 2 (d - p.depth) k in
    let x : ℕ = 2 ^ (d - p.depth) in let y : ℕ = 2 ^ k in
    ap (λ (n : ℕ). p.share * n) f ∙ grind arith

total-deeper : (d k : ℕ) (ps : List Share) → deepest ps ≤ d → total (d + k) ps ≡ 2 ^ k * total d ps
total-deeper d k [] le = grind arith
total-deeper d k (p ∷ ps) le =
    let here = weight-deeper d k p (omega arith) in
    let there = total-deeper d k ps (omega arith) in
    grind (arith, here, there)

-- the parts make up the whole, counted at any depth that is deep enough
pub AddUp-total : (d : ℕ) (ps : List Share) → AddUp ps → deepest ps ≤ d → total d ps ≡ 2 ^ d
AddUp-total d ps a le =
    let k : ℕ = d - deepest ps in
    let e : deepest ps + k ≡ d = omega arith in
    subst (λ (n : ℕ). total n ps ≡ 2 ^ n) e (total-deeper (deepest ps) k ps (omega arith) ∙ (ap (λ (n : ℕ). 2 ^ k * n) a ∙ (grind arith ∙ sym (pow-add 2 (deepest ps) k))))

times_cancel : (a b c : ℕ) → 0 < c → c * a ≡ c * b → a ≡ b
times_cancel a b c pos e = grind arith

pub total-AddUp : (d : ℕ) (ps : List Share) → deepest ps ≤ d → total d ps ≡ 2 ^ d → AddUp ps
total-AddUp d ps le h =
    let k : ℕ = d - deepest ps in
    let e : deepest ps + k ≡ d = omega arith in
    times_cancel (total (deepest ps) ps) (2 ^ deepest ps) (2 ^ k) (pow_pos k)
    (sym (total-deeper (deepest ps) k ps (omega arith)) ∙ (ap (λ (n : ℕ). total n ps) e ∙ (h ∙ (ap (λ (n : ℕ). 2 ^ n) (sym e) ∙ (pow-add 2 (deepest ps) k ∙ grind arith)))))

total-set : (d : ℕ) (ps : List Share) (i : ℕ) (p q : Share) → get_elem? ps i ≡ some p → total d (set ps i q) + weight d p ≡ total d ps + weight d q
total-set d [] i p q at = absurd (some-ne-none p (sym at))
total-set d (x ∷ ps) zero p q at = let e : weight d x ≡ weight d p = ap (weight d) (some-injective x p at) in omega arith
total-set d (x ∷ ps) (suc i) p q at = let e = total-set d ps i p q at in omega (arith, e)

total-push : (d : ℕ) (ps : List Share) (q : Share) → total d (ps ++ q ∷ []) ≡ total d ps + weight d q
total-push d [] q = omega arith
total-push d (x ∷ ps) q = let e = total-push d ps q in omega (arith, e)

deepest-set : (ps : List Share) (i : ℕ) (q : Share) (d : ℕ) → deepest ps ≤ d → q.depth ≤ d → deepest (set ps i q) ≤ d
deepest-set [] i q d le lq = le
deepest-set (x ∷ ps) zero q d le lq = omega arith
deepest-set (x ∷ ps) (suc i) q d le lq = let e = deepest-set ps i q d (omega arith) lq in omega (arith, e)

deepest-push : (ps : List Share) (q : Share) (d : ℕ) → deepest ps ≤ d → q.depth ≤ d → deepest (ps ++ q ∷ []) ≤ d
deepest-push [] q d le lq = omega arith
deepest-push (x ∷ ps) q d le lq = let e = deepest-push ps q d (omega arith) lq in omega (arith, e)

depth-deepest : (ps : List Share) (i : ℕ) (p : Share) → get_elem? ps i ≡ some p → p.depth ≤ deepest ps
depth-deepest [] i p at = absurd (some-ne-none p (sym at))
depth-deepest (x ∷ ps) zero p at = let e : x.depth ≡ p.depth = ap (λ (s : Share). s.depth) (some-injective x p at) in omega arith
depth-deepest (x ∷ ps) (suc i) p at = let e = depth-deepest ps i p at in omega (arith, e)

weight-total : (d : ℕ) (ps : List Share) (i : ℕ) (p : Share) → get_elem? ps i ≡ some p → weight d p ≤ total d ps
weight-total d [] i p at = absurd (some-ne-none p (sym at))
weight-total d (x ∷ ps) zero p at = let e : weight d x ≡ weight d p = ap (weight d) (some-injective x p at) in omega arith
weight-total d (x ∷ ps) (suc i) p at = let e = weight-total d ps i p at in omega (arith, e)

-- a fork halves
pub AddUp-fork : (ps : List Share) (i : ℕ) (p : Share) → get_elem? ps i ≡ some p → AddUp ps → AddUp (set ps i (half p) ++ half p ∷ [])
AddUp-fork ps i p at a =
    let d : ℕ = deepest ps + 1 in
    let depth = depth-deepest ps i p at in
    let sums = AddUp-total d ps a (omega arith) in
    let was = total-set d ps i p (half p) at in
    let now = total-push d (set ps i (half p)) (half p) in
    let e : d - p.depth ≡ (d - (p.depth + 1)) + 1 = omega arith in
    let f : 2 ^ (d - p.depth) ≡ 2 ^ (d - (p.depth + 1)) * 2 ^ 1 = ap (λ (n : ℕ). 2 ^ n) e ∙ pow-add 2 (d - (p.depth + 1)) 1 in
    let two : weight d p ≡ weight d (half p) + weight d (half p) = ap (λ (n : ℕ). p.share * n) f ∙ grind arith in
    total-AddUp d (set ps i (half p) ++ half p ∷ []) (deepest-push (set ps i (half p)) (half p) d (deepest-set ps i (half p) d (omega arith) (omega arith)) (omega arith)) (omega (arith, sums, was, now, two))

-- a join adds
pub AddUp-join : (ps : List Share) (i j : ℕ) (p q : Share) → get_elem? ps i ≡ some p → get_elem? (set ps i (both_parts p q)) j ≡ some q → ¬ (j ≡ i) → get_elem? ps j ≡ some q
    → AddUp ps → AddUp (set (set ps i (both_parts p q)) j nothing)
AddUp-join ps i j p q at there apart there' a =
    let d : ℕ = deepest ps in
    let dp = depth-deepest ps i p at in
    let dq = depth-deepest ps j q there' in
    let r : Share = both_parts p q in
    let first = total-set d ps i p r at in
    let second = total-set d (set ps i r) j q nothing there in
    let m : ℕ = max p.depth q.depth in
    let k : ℕ = d - m in
    let e : m + k ≡ d = omega arith in
    let wp : weight d p ≡ 2 ^ k * weight m p = ap (λ (n : ℕ). weight n p) (sym e) ∙ weight-deeper m k p (omega arith) in
    let wq : weight d q ≡ 2 ^ k * weight m q = ap (λ (n : ℕ). weight n q) (sym e) ∙ weight-deeper m k q (omega arith) in
    let both : weight d r ≡ weight d p + weight d q = grind (arith, wp, wq) in
    total-AddUp d (set (set ps i r) j nothing) (deepest-set (set ps i r) j nothing d (deepest-set ps i r d (omega arith) (omega arith)) (omega arith)) (omega (arith, a, first, second, both))

-- a change that keeps the part
pub AddUp-same : (ps : List Share) (i : ℕ) (p : Share) → get_elem? ps i ≡ some p → AddUp ps → AddUp (set ps i p)
AddUp-same ps i p at a = subst AddUp (sym (set_again ps i p at)) a

zero_of_weight : (d : ℕ) (q : Share) → weight d q ≡ 0 → q.share ≡ 0
zero_of_weight d q e = let pos = pow_pos (d - q.depth) in let x : ℕ = 2 ^ (d - q.depth) in grind (arith, pos)

whole_weight : (d : ℕ) (p : Share) → p.depth ≤ d → IsWhole p → weight d p ≡ 2 ^ d
whole_weight d p le w =
    let e : p.depth + (d - p.depth) ≡ d = omega arith in
    ap (λ (n : ℕ). n * 2 ^ (d - p.depth)) w ∙ (sym (pow-add 2 p.depth (d - p.depth)) ∙ ap (λ (n : ℕ). 2 ^ n) e)

-- whoever has the whole is alone
pub IsWhole-alone : (ps : List Share) (i j : ℕ) (p q : Share) → AddUp ps → get_elem? ps i ≡ some p → get_elem? ps j ≡ some q → ¬ (j ≡ i) → IsWhole p → q.share ≡ 0
IsWhole-alone ps i j p q a at there apart w =
    let d : ℕ = deepest ps in
    let mine = whole_weight d p (depth-deepest ps i p at) w in
    let rest = total-set d ps i p nothing at in
    let other = weight-total d (set ps i nothing) j q (set_else ps i j nothing apart ∙ there) in
    zero_of_weight d q (omega (arith, a, mine, rest, other))

mul_le : (a b c d : ℕ) → a ≤ b → c ≤ d → a * c ≤ b * d
mul_le a b c d h k = grind arith

-- two parts together are some part
pub both_parts-live : (p q : Share) → 0 < p.share → 0 < (both_parts p q).share
both_parts-live p q lt =
    let m : ℕ = max p.depth q.depth in
    let pos = pow_pos (m - p.depth) in
    let x : ℕ = 2 ^ (m - p.depth) in
    let y : ℕ = weight m q in
    let one : 1 * 1 ≤ p.share * x = mul_le 1 p.share 1 x (omega arith) (omega arith) in omega arith
