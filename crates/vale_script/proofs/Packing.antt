-- Words as numbers: eight bytes fit 64 bits, and those behind them stand above.
use Rattle.std.proofs.Common.{ℕ, ◌+◌, ◌*◌, ◌^◌, ◌<◌, ◌≤◌, ◌≡◌, List, [], ◌∷◌, length, take, drop, refl, ap, ◌∙◌, arith}
use Rattle.std.specs.Int.{w64, from_le_bytes}
use Rattle.std.proofs.Math.Nat.{pow-le-pow_right}
use Rattle.vale_script.specs.Keys.{packed}

pub packed_fits : (n b i : ℕ) → n < 256 ^ i → b < 256 → i < 8 → n * 256 + b < 2 ^ 64
packed_fits n b i small byte few =
    let most : 256 ^ i ≤ 256 ^ 7 = pow-le-pow_right {n = 256} (omega arith) {i = i} {j = 7} (omega (arith, few)) in
    omega (arith, small, byte, most)

pub eight_as_number : (bytes : List ℕ) → length bytes ≡ 8 → from_le_bytes w64 bytes ≡ packed bytes
eight_as_number (a ∷ b ∷ c ∷ d ∷ f ∷ g ∷ h ∷ i ∷ []) e = omega arith
eight_as_number bytes e = absurd (omega arith)

pub cut : (word : List ℕ) → 8 ≤ length word → (length (take 8 word) ≡ 8) × (packed (drop 8 word) * 2 ^ 64 + packed (take 8 word) ≡ packed word)
cut (a ∷ b ∷ c ∷ d ∷ f ∷ g ∷ h ∷ i ∷ rest) e = (refl, omega arith)
cut word e = absurd (omega arith)

-- a word of eight bytes or more
pub packed_in_parts : (word rest : List ℕ) (n m : ℕ) → 8 ≤ length word → n ≡ packed (take 8 word) → rest ≡ drop 8 word → m ≡ packed rest → m * 2 ^ 64 + n ≡ packed word
packed_in_parts word rest n m long low behind above =
    ap (λ (k : ℕ). k * 2 ^ 64 + n) (above ∙ ap packed behind) ∙ ap (λ (k : ℕ). packed (drop 8 word) * 2 ^ 64 + k) low ∙ (cut word long).1
