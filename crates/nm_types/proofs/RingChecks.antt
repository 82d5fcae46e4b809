-- Positions that pass the checks are those that fit.
use Rattle.std.proofs.Common.{ℕ, true, false, ◌≡◌, ◌≤◌, ◌<◌, arith}
use Rattle.std.proofs.lemmas.Bool.Decides.{nat_tests}
use Rattle.nm_types.specs.Positions.{dist, Fits}
use Rattle.nm_types.specs.SyncChecks.{is_beyond}

pub is_beyond-reach : (size from to at : ℕ) → is_beyond size from to at ≡ false → dist size from at ≤ dist size from to
is_beyond-reach size from to at e = grind (arith, nat_tests)

pub is_beyond-within : (size from to at : ℕ) → is_beyond size from to at ≡ false → at < size
is_beyond-within size from to at e = grind (arith, nat_tests)

pub is_beyond-not : (size from to at : ℕ) → at < size → dist size from at ≤ dist size from to → is_beyond size from to at ≡ false
is_beyond-not size from to at h k = grind (arith, nat_tests)

pub Fits-from_beyond : (size accepted tail head cur : ℕ) → is_beyond size accepted tail head ≡ false → is_beyond size head tail cur ≡ false → Fits size accepted tail head cur
Fits-from_beyond size accepted tail head cur h c = record {
  head_within = is_beyond-within size accepted tail head h;
  cur_within = is_beyond-within size head tail cur c;
  head_reach = is_beyond-reach size accepted tail head h;
  cur_reach = is_beyond-reach size head tail cur c;
}

pub head_beyond-Fits : (size accepted tail head cur : ℕ) → is_beyond size accepted tail head ≡ true → Fits size accepted tail head cur → ⊥
head_beyond-Fits size accepted tail head cur h fits = let none = is_beyond-not size accepted tail head fits.head_within fits.head_reach in cc

pub cur_beyond-Fits : (size accepted tail head cur : ℕ) → is_beyond size head tail cur ≡ true → Fits size accepted tail head cur → ⊥
cur_beyond-Fits size accepted tail head cur h fits = let none = is_beyond-not size head tail cur fits.cur_within fits.cur_reach in cc

pub ruleset ring_checks = (Fits-from_beyond, head_beyond-Fits, cur_beyond-Fits)
