-- Buffers that were taken in parts go back in parts, and then nothing has changed.
use Rattle.std.proofs.Common.{ℕ, ◌≡◌, ◌+◌, List, ◌++◌, take, drop, sym, ◌∙◌, ap, subst}
use Rattle.std.proofs.Math.Seq.{take-add}
use Rattle.std.proofs.lemmas.List.{drop-drop}
use Rattle.nm_region.specs.Buffers.{Buffer}
use Rattle.nm_pool.specs.Free.{PoolState}
use Rattle.vale_parts.specs.FreeBuffers.{CanAllBeGiven, pool_less, pool_with_all}
use Rattle.vale_parts.specs.FreeLaws.{IsTakenBack}
use Rattle.vale_steps.proofs.GivenBack.{can-front, can-rest, with-both}

-- two parts that can go back, the first one first
pub record AreBack (was left : PoolState) (a b : List Buffer) : Type 0 where
  pub first : CanAllBeGiven left a
  pub second : CanAllBeGiven (pool_with_all a left) b
  pub same : pool_with_all b (pool_with_all a left) ≡ was

pub back-both : (was left : PoolState) (a b : List Buffer) → CanAllBeGiven left (a ++ b) → pool_with_all (a ++ b) left ≡ was → AreBack was left a b
back-both was left a b can same = record {
  first = can-front left a b can;
  second = can-rest left a b can;
  same = sym (with-both left a b) ∙ same;
}

-- the pool once one part more was taken
pub less-both : (was one two : PoolState) (n m : ℕ) → one ≡ pool_less n was → two ≡ pool_less m one → two ≡ pool_less (n + m) was
less-both was one two n m first second = second ∙ (ap (pool_less m) first ∙ ap (λ (bs : List Buffer). record was { free = bs }) (drop-drop m n was.free))

pub two-back : (was left : PoolState) (n m : ℕ) (a b : List Buffer) → IsTakenBack was (n + m) → left ≡ pool_less (n + m) was
    → a ≡ take n was.free → b ≡ take m (drop n was.free) → AreBack was left a b
two-back was left n m a b back is first second =
    let joined : a ++ b ≡ take (n + m) was.free = ap (λ (bs : List Buffer). bs ++ b) first ∙ (ap (λ (bs : List Buffer). take n was.free ++ bs) second ∙ sym (take-add n m was.free)) in
    back-both was left a b
    (subst (λ (p : PoolState). CanAllBeGiven p (a ++ b)) (sym is) (subst (CanAllBeGiven (pool_less (n + m) was)) (sym joined) back.can))
    (ap (pool_with_all (a ++ b)) is ∙ (ap (λ (bs : List Buffer). pool_with_all bs (pool_less (n + m) was)) joined ∙ back.same))

-- Two parts were taken, and no third one.
pub two-taken : (was one two left : PoolState) (n m : ℕ) (a b : List Buffer) → ((count : ℕ) → IsTakenBack was count)
    → a ≡ take n was.free → one ≡ pool_less n was → b ≡ take m one.free → two ≡ pool_less m one → left ≡ two → AreBack was left a b
two-taken was one two left n m a b back first less second more same =
    two-back was left n m a b (back (n + m)) (same ∙ less-both was one two n m less more) first
    (second ∙ ap (λ (p : PoolState). take m p.free) less)

-- All parts that were taken can go back, and then nothing has changed.
pub record AllBack (was left : PoolState) (bufs : List Buffer) : Type 0 where
  pub can : CanAllBeGiven left bufs
  pub same : pool_with_all bufs left ≡ was

pub all-back : (was left : PoolState) (n m k : ℕ) (a b d : List Buffer) → ((count : ℕ) → IsTakenBack was count) → left ≡ pool_less (n + m + k) was
    → a ≡ take n was.free → b ≡ take m (drop n was.free) → d ≡ take k (drop (n + m) was.free) → AllBack was left (a ++ b ++ d)
all-back was left n m k a b d back is first second third =
    let count = n + m + k in
    let joined : a ++ b ++ d ≡ take count was.free = rw (first, second, third) (ap (λ (bs : List Buffer). bs ++ take k (drop (n + m) was.free)) (sym (take-add n m was.free)) ∙ sym (take-add (n + m) k was.free)) in
    record {
      can = subst (λ (p : PoolState). CanAllBeGiven p (a ++ b ++ d)) (sym is) (subst (CanAllBeGiven (pool_less count was)) (sym joined) (back count).can);
      same = ap (pool_with_all (a ++ b ++ d)) is ∙ (ap (λ (bs : List Buffer). pool_with_all bs (pool_less count was)) joined ∙ (back count).same);
    }
