-- The numbers of a refusal fit their fields.
use Rattle.std.proofs.Common.{ℕ, ◌≡◌, ◌^◌, true, arith, Fits, w16, w32}
use Rattle.std.proofs.lemmas.Bool.{lt-ltb}
use Rattle.vale_entry.specs.Legal.{fits_u16, fits_u32}

pub fits-one : (n : ℕ) → Fits w32 n → fits_u32 n ≡ true
fits-one n fits = lt-ltb n (2 ^ 32) (omega (arith, fits))

pub fits-half : (n : ℕ) → Fits w16 n → fits_u16 n ≡ true
fits-half n fits = lt-ltb n (2 ^ 16) (omega (arith, fits))

pub ruleset check_faults = (fits-one, fits-half)
