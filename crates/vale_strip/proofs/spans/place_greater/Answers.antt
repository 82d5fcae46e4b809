use Rattle.std.proofs.Common.{ℕ, ◌+◌, ◌-◌, ◌/◌, ◌%◌, ◌^◌, ◌<◌, refl, arith}
use Rattle.vale_strip.proofs.spans.place_greater.Goals as goal

-- a number that is not far above 100 has hundreds
has-hundreds : (n : ℕ) → n < 2 ^ 32 → (n + (2 ^ 64 - 100)) % 2 ^ 64 < 9900 → 0 < n / 100
has-hundreds n fits near = omega (arith, fits, near)

pub place_anew-requires-clause-high : goal.place_anew-requires-clause-high
place_anew-requires-clause-high c = (refl, has-hundreds c.args.number c.requires.fits c.if-number-lt9900.true, c.requires.fits)
