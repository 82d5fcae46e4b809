-- Pushed slots that name the buffers in their places: to exchange these changes nothing.
use Rattle.std.proofs.Common.{ℕ, zero, suc, ◌≡◌, ◌<◌, ◌≤◌, ◌+◌, List, length, map, reverse, Option, Some, None, option_map, refl, sym, ◌∙◌, ap, subst, arith}
use Rattle.std.specs.Prelude.{slice_get, slice_index_or}
use Rattle.std.proofs.lemmas.Bool.Decides.{nat_tests}
use Rattle.std.proofs.lemmas.List.{length-map}
use Rattle.std.proofs.lemmas.Option.{unwrap_or-slice_get, same_Some}
use Rattle.nm_types.specs.declared.id.PortId.{PortId}
use Rattle.nm_types.specs.declared.place.Place.{Place}
use Rattle.nm_types.specs.Positions.{IsRing, slots_from}
use Rattle.nm_types.specs.Exchange.{exchanged, swapped}
use Rattle.nm_types.proofs.Exchanges.{held_at-exchanged}
use Rattle.nm_types.proofs.RingSteps.{length-slots_from}
use Rattle.nm_hold.specs.Holds.{HoldState, places_of, index_at, standing_at, is_named_at, SamePlaces, AreNumbers}
use Rattle.nm_hold.proofs.Shown.{named_stands}
use Rattle.nm_port.specs.RingSlots.{RingSlots}
use Rattle.nm_port.specs.Sides.{number_at, name_at}
use Rattle.nm_port.specs.Exchanges.{CanExchange, AreExchanged, KeepFirst, pushed_count_of, user_position, user_place}
use Rattle.nm_port.specs.Lending.{AreChanged, AreSwapped}
use Rattle.nm_port.proofs.Pushes.{seen_more}
use Rattle.nm_port.proofs.Keeping.{slot_is_place, index_from}
use Rattle.nm_port.proofs.Exchanged.{none_exchanged, exchanged_next}
use Rattle.nm_port.proofs.Undoing.{one_more_change}

-- a buffer that changes places with itself
swapped_same : (a i : ℕ) → swapped a a i ≡ i
swapped_same a i = grind (arith, nat_tests)

module _ (h : HoldState) (q : Place) (idx : ℕ) (there : index_at h q ≡ Some idx) where
  same_places : SamePlaces (exchanged (places_of h) q idx) (places_of h)
  same_places p = sym (held_at-exchanged (places_of h) q idx idx p there ∙ by_index (index_at h p))
    where
      by_index : (o : Option ℕ) → option_map (swapped idx idx) o ≡ o
      by_index None = refl
      by_index (Some i) = ap (λ (n : ℕ). Some n) (swapped_same idx i)

  same_named : (was i : ℕ) → index_at h q ≡ Some was → is_named_at h i ≡ is_named_at h (swapped was idx i)
  same_named was i stood =
      let same : was ≡ idx = same_Some was idx (sym stood ∙ there) in
      ap (is_named_at h) (sym (ap (λ (w : ℕ). swapped w idx i) same ∙ swapped_same idx i))

-- what the first pushed slots name
abbrev names : RingSlots → ℕ → List ℕ
names r n = map (name_at r) (slots_from r.ring.size r.ring.accepted_head n)

pub names_count : (r : RingSlots) (n : ℕ) → length (names r n) ≡ n
names_count r n = length-map (slots_from r.ring.size r.ring.accepted_head n) (name_at r) ∙ length-slots_from r.ring.size r.ring.accepted_head n

module _ (h : HoldState) (id : PortId) (r : RingSlots) (is : IsRing r.ring) (can : CanExchange h id r) where
  abbrev own_name : ℕ → ℕ
  own_name k = name_at r (user_position r k)

  module _ (numbers : List ℕ) (numbered : AreNumbers h r.side id numbers) where
    stands_there : (k : ℕ) → k < pushed_count_of r → slice_index_or numbers (user_position r k) 0 ≡ own_name k → index_at h (user_place id r k) ≡ Some (own_name k)
    stands_there k below own =
        let at = user_position r k in
        let found = named_stands (standing_at h (own_name k)) (can.named k below) in
        let low : 2 ≤ own_name k = (can.is_hold.standing (own_name k) found.0 found.1).low in
        let there : slice_get numbers at ≡ Some (own_name k) = index_from (slice_get numbers at) (own_name k) (unwrap_or-slice_get numbers at 0 ∙ own) low in
        index_from (index_at h (user_place id r k)) (own_name k) (ap (number_at h) (sym (slot_is_place r.side id at)) ∙ numbered at (own_name k) there) low

    pub kept_exchanged : (n : ℕ) → n ≤ pushed_count_of r → KeepFirst r numbers n → AreExchanged h h id r n
    kept_exchanged zero few kept = none_exchanged h id r can.is_hold
    kept_exchanged (suc n) few kept =
        let next : suc n ≡ n + 1 = omega arith in
        let below : n < pushed_count_of r = omega (arith, few) in
        let there = stands_there n below (kept n (omega arith)) in
        subst (λ (m : ℕ). AreExchanged h h id r m) (sym next)
        (exchanged_next h h h id r n is can (kept_exchanged n (omega (arith, few)) (λ k less. kept k (omega (arith, less)))) below
        (same_places h (user_place id r n) (own_name n) there) refl (same_named h (user_place id r n) (own_name n) there) refl can.is_hold)

    kept_change : (k : ℕ) → k < pushed_count_of r → slice_index_or numbers (user_position r k) 0 ≡ own_name k → AreChanged h h (user_place id r k) (own_name k) (own_name k)
    kept_change k below own =
        let there = stands_there k below own in
        record {
          stood = there;
          named = can.named k below;
          names_named = can.named k below;
          places = same_places h (user_place id r k) (own_name k) there;
          names = λ i. same_named h (user_place id r k) (own_name k) there (own_name k) i there;
          bufs = refl;
          ports = refl;
          is_hold = can.is_hold;
        }

    pub kept_swapped : (n : ℕ) → n ≤ pushed_count_of r → KeepFirst r numbers n → AreSwapped h id r (reverse (names r n)) h
    kept_swapped zero few kept = refl
    kept_swapped (suc n) few kept =
        let next : suc n ≡ n + 1 = omega arith in
        let below : n < pushed_count_of r = omega (arith, few) in
        let change = kept_change n below (kept n (omega arith)) in
        let so_far = kept_swapped n (omega (arith, few)) (λ k less. kept k (omega (arith, less))) in
        subst (λ (m : ℕ). AreSwapped h id r (reverse (names r m)) h) (sym next)
        (rw (seen_more (name_at r) r.ring.size r.ring.accepted_head n) (one_more_change h h h id r (names r n) n (own_name n) (names_count r n) so_far change))
