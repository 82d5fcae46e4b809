-- Digits in pairs.
use Rattle.std.proofs.Common.{◌≡◌, ℕ, zero, suc, ◌+◌, ◌*◌, ◌<◌, ◌≤◌, List, [], ◌∷◌, ◌++◌, length, take, drop, get_or, refl, sym, ap, ◌∙◌, ◌/◌, arith, append_assoc, drop-cons, length-drop}
use Rattle.std.proofs.lemmas.List.{append-nil}
use Rattle.vale_fields.specs.Fields.{hex_value, bytes_of}

-- the next two digits
pub pairs_more : (ds done : List ℕ) (k : ℕ) → 2 * k + 1 < length ds
    → (done ++ (hex_value (get_or ds (2 * k) 0) * 16 + hex_value (get_or ds (2 * k + 1) 0)) ∷ []) ++ bytes_of (drop (2 * (k + 1)) ds) ≡ done ++ bytes_of (drop (2 * k) ds)
pairs_more ds done k inside =
    let x : ℕ = get_or ds (2 * k) 0 in
    let y : ℕ = get_or ds (suc (2 * k)) 0 in
    let first : drop (2 * k) ds ≡ x ∷ drop (suc (2 * k)) ds = drop-cons ds (2 * k) 0 (omega arith) in
    let second : drop (suc (2 * k)) ds ≡ y ∷ drop (suc (suc (2 * k))) ds = drop-cons ds (suc (2 * k)) 0 (omega arith) in
    let next : suc (2 * k) ≡ 2 * k + 1 = omega arith in
    let after : suc (suc (2 * k)) ≡ 2 * (k + 1) = omega arith in
    append_assoc done ((hex_value x * 16 + hex_value (get_or ds (2 * k + 1) 0)) ∷ []) (bytes_of (drop (2 * (k + 1)) ds))
    ∙ ap (λ (n : ℕ). done ++ (hex_value x * 16 + hex_value (get_or ds n 0)) ∷ bytes_of (drop (2 * (k + 1)) ds)) (sym next)
    ∙ ap (λ (n : ℕ). done ++ (hex_value x * 16 + hex_value y) ∷ bytes_of (drop n ds)) (sym after)
    ∙ ap (λ (t : List ℕ). done ++ bytes_of t) (sym (first ∙ ap (λ (t : List ℕ). x ∷ t) second))

-- fewer than two digits are no byte
pub few_bytes : (ds : List ℕ) → length ds < 2 → bytes_of ds ≡ []
few_bytes [] few = refl
few_bytes (x ∷ []) few = refl
few_bytes (x ∷ y ∷ ds) few = absurd (omega arith)

pub pairs_end : (ds done all : List ℕ) (k : ℕ) → k ≡ length ds / 2 → done ++ bytes_of (drop (2 * k) ds) ≡ all → done ≡ all
pairs_end ds done all k is e =
    let few : length (drop (2 * k) ds) < 2 = omega (arith, is, length-drop (2 * k) ds) in
    sym (append-nil done) ∙ ap (λ (t : List ℕ). done ++ t) (sym (few_bytes (drop (2 * k) ds) few)) ∙ e

pub ruleset pairs = (pairs_more, pairs_end)

-- the first digits, an even number of them, and those behind them
pub bytes-cut : (n m : ℕ) (ds : List ℕ) → m ≡ 2 * n → m ≤ length ds → bytes_of ds ≡ bytes_of (take m ds) ++ bytes_of (drop m ds)
bytes-cut zero m ds even within = let none : m ≡ 0 = omega (arith, even) in rw none refl
bytes-cut (suc n) m [] even within = absurd (omega (arith, even, within))
bytes-cut (suc n) m (x ∷ []) even within = absurd (omega (arith, even, within))
bytes-cut (suc n) m (x ∷ y ∷ ds) even within =
    let two : m ≡ suc (suc (2 * n)) = omega (arith, even) in
    rw two (ap (λ (t : List ℕ). (hex_value x * 16 + hex_value y) ∷ t) (bytes-cut n (2 * n) ds refl (omega (arith, even, within))))

-- the next block
pub blocks_more : (ds done all : List ℕ) → 16 ≤ length ds → done ++ bytes_of ds ≡ all → (done ++ bytes_of (take 16 ds)) ++ bytes_of (drop 16 ds) ≡ all
blocks_more ds done all long e =
    append_assoc done (bytes_of (take 16 ds)) (bytes_of (drop 16 ds))
    ∙ (ap (λ (t : List ℕ). done ++ t) (sym (bytes-cut 8 16 ds refl long)) ∙ e)

pub ruleset blocks = (blocks_more)
