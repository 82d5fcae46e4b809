-- Each wanted frame has one fate, and the reply of its Grant counts it.
use Rattle.std.proofs.Common.{ℕ, zero, suc, ◌+◌, ◌<◌, ◌≤◌, ◌≡◌, ◌≢◌, ◌⊎◌, inl, inr, min, Bool, true, false, cond, List, [], ◌∷◌, ◌++◌, map, length, replicate, refl, sym, ◌∙◌, ap, subst, arith, append-nil, lt-ltb, le-ltb, filter, true≢false}
use Rattle.std.specs.List.{AllByRecursion as Each, range_with_len}
use Rattle.std.specs.Prelude.{nat_lt}
use Rattle.nm_types.specs.Frames.{Frame}
use Rattle.vale_entry.specs.World.{Offer}
use Rattle.vale_entry.specs.Legal.{world_of}
use Rattle.vale_entry.specs.Laws.{IsOfferOf}
use Rattle.vale_entry.specs.Fate.{wanted_at, offers_at, is_offer_to, Share, shares_at, Fate, Pending, Given, Full, Gone, fate_by}
use Rattle.vale_entry.specs.DeliveryLaws.{HaveFates, DroppedFramesAreCounted, NothingIsPendingAtTheEnd}
use Rattle.vale_entry.proofs.Each.{each-all, each-image}
use Rattle.vale_entry.proofs.Numbered.{world-numbered}
use Rattle.vale_entry.proofs.SharedOnce.{history-account}

map_same :
    (f : ℕ → Fate) (fate : Fate) (a n : ℕ) → ((j : ℕ) → a ≤ j → j < a + n → f j ≡ fate)
    → map f (range_with_len a n) ≡ replicate n fate
map_same f fate a zero same = refl
map_same f fate a (suc n) same =
    let here : f a ≡ fate = same a (omega arith) (omega arith) in
    let rest : map f (range_with_len (a + 1) n) ≡ replicate n fate =
    map_same f fate (a + 1) n (λ j low high. same j (omega (arith, low)) (omega (arith, high))) in
    cc

map_parts :
    (f : ℕ → Fate) (a m n : ℕ)
    → map f (range_with_len a (m + n)) ≡ map f (range_with_len a m) ++ map f
    (range_with_len (a + m) n)
map_parts f a zero n =
    let all : zero + n ≡ n = omega arith in
    let start : a + zero ≡ a = omega arith in
    rw (all, start) refl
map_parts f a (suc m) n =
    let all : suc m + n ≡ suc (m + n) = omega arith in
    let start : a + suc m ≡ (a + 1) + m = omega arith in
    rw (all, start) (ap (λ (xs : List Fate). f a ∷ xs) (map_parts f (a + 1) m n))

-- the frames that a share did not give
dropped_gone : (given gone : ℕ) (shares : List Share)
    → map (fate_by (record { given = given; full = 0; gone = gone } ∷ shares))
    (range_with_len given (0 + gone))
    ≡ replicate 0 Full ++ replicate gone Gone
dropped_gone given gone shares =
    let count : 0 + gone ≡ gone = omega arith in
    rw count
    (map_same (fate_by (record { given = given; full = 0; gone = gone } ∷ shares)) Gone given gone
    (λ j low high.
    let late : nat_lt j given ≡ false = le-ltb _ _ low in
    let some : nat_lt 0 gone ≡ true = lt-ltb _ _ (omega (arith, low, high)) in
    rw (late, some) refl))

dropped_full : (given full : ℕ) (shares : List Share)
    → map (fate_by (record { given = given; full = full; gone = 0 } ∷ shares))
    (range_with_len given (full + 0))
    ≡ replicate full Full ++ replicate 0 Gone
dropped_full given full shares =
    let count : full + 0 ≡ full = omega arith in
    rw count
    (map_same (fate_by (record { given = given; full = full; gone = 0 } ∷ shares)) Full given full
    (λ j low high.
    let late : nat_lt j given ≡ false = le-ltb _ _ low in
    rw late refl) ∙ sym (append-nil (replicate full Full)))

dropped_by : (given full gone : ℕ) (shares : List Share) → (full ≡ 0) ⊎ (gone ≡ 0)
    → map (fate_by (record { given = given; full = full; gone = gone } ∷ shares))
    (range_with_len given (full + gone))
    ≡ replicate full Full ++ replicate gone Gone
dropped_by given full gone shares (inl none) = rw none (dropped_gone given gone shares)
dropped_by given full gone shares (inr none) = rw none (dropped_full given full shares)

-- all the frames that a share counts
shared_fates :
    (share : Share) (shares : List Share) (n : ℕ) → share.given + share.full + share.gone ≡ n
    → (share.full ≡ 0) ⊎ (share.gone ≡ 0)
    → map (fate_by (share ∷ shares)) (range_with_len 0 n)
    ≡ replicate share.given Given ++ (replicate share.full Full ++ replicate share.gone Gone)
shared_fates share shares n sum cause =
    let whole : n ≡ share.given + (share.full + share.gone) = omega (arith, sum) in
    let zero : 0 + share.given ≡ share.given = omega arith in
    let front = map_same (fate_by (share ∷ shares)) Given 0 share.given (λ j low high.
    let early : nat_lt j share.given ≡ true = lt-ltb _ _ (omega (arith, high)) in
    rw early refl) in
    let back = dropped_by share.given share.full share.gone shares cause in
    rw (
      whole,
      map_parts (fate_by (share ∷ shares)) 0 share.given (share.full + share.gone),
      zero,
      front,
      back,
    ) refl

have_fates :
    (n : ℕ) (wanted : List Frame) (shares : List Share) → length wanted ≡ n → length shares ≤ 1
    → Each (λ (share : Share). share.given + share.full + share.gone ≡ length wanted) shares
    → Each (λ (share : Share). (share.full ≡ 0) ⊎ (share.gone ≡ 0)) shares
    → HaveFates (map (fate_by shares) (range_with_len 0 n)) wanted shares
have_fates n wanted [] size few sums causes = record {
  pending = λ e. rw size (map_same (λ (j : ℕ). Pending) Pending 0 n (λ j low high. refl));
  counted = tt;
}
have_fates n wanted (share ∷ []) size few sums causes = record {
  pending = λ e. absurd cc;
  counted = (shared_fates share [] n (sums.0 ∙ size) causes.0, tt);
}
have_fates n wanted (share ∷ other ∷ shares) size few sums causes = absurd (omega (arith, few))

pub dropped-counted : DroppedFramesAreCounted
dropped-counted pool h legal number to =
    let k = history-account pool h legal number to in
    let few : length (shares_at h number to) ≤ 1 = omega (arith, k.once) in
    have_fates (length (wanted_at pool h number to)) (wanted_at pool h number to)
    (shares_at h number to) refl few k.counted k.one_cause

-- The end.

no_owner : (offers : List Offer) → Each (IsOfferOf []) offers → offers ≡ []
no_owner [] all = refl
no_owner (offer ∷ offers) all = absurd (true≢false (sym all.0))

none_pending :
    (n : ℕ) (shares : List Share) → length shares ≡ min 1 n
    → Each (λ (fate : Fate). fate ≢ Pending) (map (fate_by shares) (range_with_len 0 n))
none_pending zero shares one = tt
none_pending (suc n) [] one = absurd (omega (arith, one))
none_pending (suc n) (share ∷ shares) one =
    each-image (λ (fate : Fate). fate ≢ Pending) (fate_by (share ∷ shares))
    (range_with_len 0 (suc n))
    (each-all (λ (j : ℕ). fate_by (share ∷ shares) j ≢ Pending)
    (λ j. settled (nat_lt j share.given) (nat_lt 0 share.gone)) (range_with_len 0 (suc n)))
  where
    settled : (early some : Bool) → cond early Given (cond some Gone Full) ≢ Pending
    settled true some = λ e. absurd cc
    settled false true = λ e. absurd cc
    settled false false = λ e. absurd cc

pub none-pending : NothingIsPendingAtTheEnd
none-pending pool h legal ended number to =
    let k = history-account pool h legal number to in
    let w = world_of pool h in
    let none : w.offers ≡ [] =
    no_owner w.offers
    (subst (λ (sessions : List ℕ). Each (IsOfferOf sessions) w.offers) ended
    (world-numbered pool h).offers_owned) in
    let size : length (offers_at w number to) ≡ 0 =
    ap (λ (os : List Offer). length (filter (is_offer_to number to) os)) none in
    none_pending (length (wanted_at pool h number to)) (shares_at h number to)
    (omega (arith, k.once, size))
