-- Sixteen hexadecimal digits at once.
use Rattle.std.proofs.Common.{◌≡◌, ℕ, ◌+◌, ◌/◌, ◌%◌, suc, ◌*◌, ◌<◌, ◌≤◌, ◌==◌, ◌++◌, Bool, true, get_or, w8, List, [], ◌∷◌, length, map, take, slice_index_or, bit_and, bit_or, replicate, Fits, length-take-le, refl, sym, subst, ap, ◌∙◌, arith}
use Rattle.std.specs.Simd.Lanes.{Each1, zip2}
use Rattle.std.proofs.lemmas.Bool.{agree_below, agree_below_at, eqb-true}
use Rattle.std.proofs.lemmas.Bool.Decides.{nat_tests}
use Rattle.std.proofs.lemmas.Simd.{swz_l, SwzOk, SwzOk-from_below, get_or-swz_l_below, zip2_of_maps, zip2_splat, map-map, chunk-fits, below_from_Fits}
use Rattle.vale_fields.specs.Fields.{hex_value, bytes_of}
use Rattle.vale_fields.specs.declared.hex.TheConstants.{DECIMALS, LETTERS, AT_DECIMALS, AT_LETTERS}

pub places-fit : (xs : List ℕ) → length xs ≡ 16 → Each1 (λ n. n < 16) xs → SwzOk w8 16 16 0 xs
places-fit xs long low = SwzOk-from_below w8 16 1 16 0 xs refl (omega arith) low

looked-up : (table xs : List ℕ) (i : ℕ) → i + length xs ≤ 16 → Each1 (λ n. n < 16) xs → swz_l w8 16 table i xs ≡ map (λ n. get_or table n 0) xs
looked-up table [] i within low = refl
looked-up table (x ∷ xs) i within low =
    let place : 16 * ((i + 0) / 16) + x ≡ x = omega arith in
    let first : get_or (swz_l w8 16 table i (x ∷ xs)) 0 0 ≡ get_or table x 0 =
    get_or-swz_l_below w8 16 table i (x ∷ xs) 0 (omega arith) low.0 ∙ ap (λ n. get_or table n 0) place in
    λ k. first k ∷ looked-up table xs (suc i) (omega arith) low.1 k

pub looked-up-are : (table xs : List ℕ) → length xs ≡ 16 → Each1 (λ n. n < 16) xs → swz_l w8 16 table 0 xs ≡ map (λ n. get_or table n 0) xs
looked-up-are table xs long low = looked-up table xs 0 (omega arith) low

abbrev value : ℕ → ℕ
value b = bit_or (bit_and (get_or DECIMALS (b % 16) 0) (get_or AT_DECIMALS (b / 16) 0)) (bit_and (get_or LETTERS (b % 16) 0) (get_or AT_LETTERS (b / 16) 0))

abbrev is-value : ℕ → Bool
is-value b = value b == hex_value b

are-values : agree_below is-value (λ b. true) 256 ≡ true
unfolding hex_value
are-values = refl

values-are : (xs : List ℕ) → Each1 (λ x. x < 256) xs → map value xs ≡ map hex_value xs
values-are [] all = refl
values-are (x ∷ xs) all =
    let first : value x ≡ hex_value x = eqb-true (value x) (hex_value x) (agree_below_at is-value (λ b. true) 256 x are-values all.0) in
    λ k. first k ∷ values-are xs all.1 k

looked : (table xs ys places : List ℕ) (f : ℕ → ℕ) → places ≡ map f xs → ys ≡ map (λ n. get_or table n 0) places → ys ≡ map (λ x. get_or table (f x) 0) xs
looked table xs ys places f at is = is ∙ (ap (map (λ n. get_or table n 0)) at ∙ map-map (λ n. get_or table n 0) f xs)

abbrev IsSlice : List ℕ → Type 0
IsSlice ds = (k : ℕ) → Fits w8 (get_or ds k 0)

bytes-below : (ds : List ℕ) → IsSlice ds → Each1 (λ x. x < 256) (take 16 ds)
bytes-below ds fits = below_from_Fits w8 (take 16 ds) (chunk-fits w8 0 16 ds fits)

abbrev uppers : List ℕ → List ℕ
uppers ds = zip2 (λ a b. a / b) (take 16 ds) (replicate 16 16)

abbrev lowers : List ℕ → List ℕ
lowers ds = zip2 (λ a b. a % b) (take 16 ds) (replicate 16 16)

uppers-are : (ds : List ℕ) → 16 ≤ length ds → uppers ds ≡ map (λ x. x / 16) (take 16 ds)
uppers-are ds long = zip2_splat (λ a b. a / b) (take 16 ds) 16 16 (length-take-le 16 ds long)

lowers-are : (ds : List ℕ) → 16 ≤ length ds → lowers ds ≡ map (λ x. x % 16) (take 16 ds)
lowers-are ds long = zip2_splat (λ a b. a % b) (take 16 ds) 16 16 (length-take-le 16 ds long)

each-upper : (xs : List ℕ) → Each1 (λ x. x < 256) xs → Each1 (λ n. n < 16) (map (λ x. x / 16) xs)
each-upper [] all = tt
each-upper (x ∷ xs) all = (omega (arith, all.0), each-upper xs all.1)

pub uppers-low : (ds : List ℕ) → 16 ≤ length ds → IsSlice ds → Each1 (λ n. n < 16) (uppers ds)
uppers-low ds long fits = subst (λ (t : List ℕ). Each1 (λ n. n < 16) t) (sym (uppers-are ds long)) (each-upper (take 16 ds) (bytes-below ds fits))

-- what four tables say together of sixteen digits
pub tables-are : (ds a b c d : List ℕ) → 16 ≤ length ds → IsSlice ds
    → a ≡ map (λ n. get_or DECIMALS n 0) (lowers ds) → b ≡ map (λ n. get_or AT_DECIMALS n 0) (uppers ds)
    → c ≡ map (λ n. get_or LETTERS n 0) (lowers ds) → d ≡ map (λ n. get_or AT_LETTERS n 0) (uppers ds)
    → zip2 bit_or (zip2 bit_and a b) (zip2 bit_and c d) ≡ map hex_value (take 16 ds)
tables-are ds a b c d long fits ia ib ic id =
    let xs : List ℕ = take 16 ds in
    let low = lowers-are ds long in
    let high = uppers-are ds long in
    zip2_of_maps bit_or (λ x. bit_and (get_or DECIMALS (x % 16) 0) (get_or AT_DECIMALS (x / 16) 0)) (λ x. bit_and (get_or LETTERS (x % 16) 0) (get_or AT_LETTERS (x / 16) 0)) xs
    (zip2_of_maps bit_and (λ x. get_or DECIMALS (x % 16) 0) (λ x. get_or AT_DECIMALS (x / 16) 0) xs (looked DECIMALS xs a (lowers ds) (λ x. x % 16) low ia) (looked AT_DECIMALS xs b (uppers ds) (λ x. x / 16) high ib))
    (zip2_of_maps bit_and (λ x. get_or LETTERS (x % 16) 0) (λ x. get_or AT_LETTERS (x / 16) 0) xs (looked LETTERS xs c (lowers ds) (λ x. x % 16) low ic) (looked AT_LETTERS xs d (uppers ds) (λ x. x / 16) high id))
    ∙ values-are xs (bytes-below ds fits)

pub hex-low : (b : ℕ) → hex_value b < 16
unfolding hex_value
hex-low b = grind (arith, nat_tests)

abbrev pair : List ℕ → ℕ → ℕ → ℕ
pair vs i j = (slice_index_or (vs ++ vs) i 0 * 16 % 256 + slice_index_or (vs ++ vs) j 0) % 256

abbrev pub pairs_in : List ℕ → List ℕ
pairs_in vs = pair vs 0 1 ∷ pair vs 2 3 ∷ pair vs 4 5 ∷ pair vs 6 7 ∷ pair vs 8 9 ∷ pair vs 10 11 ∷ pair vs 12 13 ∷ pair vs 14 15 ∷ []

joined : (x y : ℕ) → (hex_value x * 16 % 256 + hex_value y) % 256 ≡ hex_value x * 16 + hex_value y
joined x y = omega (arith, hex-low x, hex-low y)

block-is : (xs : List ℕ) → length xs ≡ 16 → pairs_in (map hex_value xs) ≡ bytes_of xs
block-is (x0 ∷ x1 ∷ x2 ∷ x3 ∷ x4 ∷ x5 ∷ x6 ∷ x7 ∷ x8 ∷ x9 ∷ x10 ∷ x11 ∷ x12 ∷ x13 ∷ x14 ∷ x15 ∷ []) e =
    λ k. joined x0 x1 k ∷ joined x2 x3 k ∷ joined x4 x5 k ∷ joined x6 x7 k ∷ joined x8 x9 k ∷ joined x10 x11 k ∷ joined x12 x13 k ∷ joined x14 x15 k ∷ []
block-is xs e = absurd (omega arith)

-- the bytes of sixteen digits whose values are known
pub block-of : (vs xs : List ℕ) → length xs ≡ 16 → vs ≡ map hex_value xs → pairs_in vs ≡ bytes_of xs
block-of vs xs long is = ap pairs_in is ∙ block-is xs long
