-- Hexadecimal digits, pairs of them and addresses, read one after another.
use Rattle.std.specs.Prelude.{ℕ, ◌+◌, ◌*◌, if◌then◌else◌, List, [], ◌∷◌, slice_index, Option, Some, None}
use Rattle.nm_types.specs.declared.id.Mac.{Mac}
use Rattle.vale_words.specs.Words.{is_hex, hex_value}

infixl 10 ◌>>=◌
abbrev pub ◌>>=◌ : {A B : Type 0} → Option A → (A → Option B) → Option B
None >>= f = None
Some a >>= f = f a

abbrev pub digit_read : ℕ → Option ℕ
digit_read b = if is_hex b then Some (hex_value b) else None

abbrev pub pair_read : List ℕ → ℕ → Option ℕ
pair_read word i = do
  high ← digit_read (slice_index word i)
  low ← digit_read (slice_index word (i + 1))
  Some (high * 16 + low)

abbrev pub pairs_read : List ℕ → Option Mac
pairs_read word = do
  a ← pair_read word 0
  b ← pair_read word 3
  c ← pair_read word 6
  d ← pair_read word 9
  e ← pair_read word 12
  f ← pair_read word 15
  Some (record { 0 = a ∷ b ∷ c ∷ d ∷ e ∷ f ∷ [] })
