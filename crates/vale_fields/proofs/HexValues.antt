-- The table of hexadecimal digits.
use Rattle.std.proofs.Common.{◌≡◌, ℕ, ◌<◌, ◌==◌, Bool, true, get_or, nat_lt, refl}
use Rattle.std.proofs.lemmas.Bool.{agree_below, agree_below_at, eqb-true, ltb-true}
use Rattle.vale_fields.specs.Fields.{hex_value}
use Rattle.vale_fields.specs.declared.hex.TheConstants.{HEX_VALUES}

abbrev is-value : ℕ → Bool
is-value b = get_or HEX_VALUES b 0 == hex_value b

abbrev is-low : ℕ → Bool
is-low b = nat_lt (get_or HEX_VALUES b 0) 16

are-values : agree_below is-value (λ b. true) 256 ≡ true
unfolding hex_value
are-values = refl

are-low : agree_below is-low (λ b. true) 256 ≡ true
are-low = refl

-- what stands in the table for a byte
pub value_at : (b : ℕ) → b < 256 → get_or HEX_VALUES b 0 ≡ hex_value b
value_at b byte = eqb-true (get_or HEX_VALUES b 0) (hex_value b) (agree_below_at is-value (λ b. true) 256 b are-values byte)

pub low_at : (b : ℕ) → b < 256 → get_or HEX_VALUES b 0 < 16
low_at b byte = ltb-true (get_or HEX_VALUES b 0) 16 (agree_below_at is-low (λ b. true) 256 b are-low byte)

pub ruleset hex_values = (value_at, low_at)
