-- A push all of whose frames were taken, where no earlier push is still out: of its slots all but the
-- last stay the user's, and so does the slot at the tail.
use Rattle.std.proofs.Common.{ℕ, zero, suc, ◌≡◌, ◌<◌, ◌+◌, ◌-◌, Bool, true, false, if◌then◌else◌, List, [], ◌∷◌, ◌++◌, map, Option, Some, None, inl, inr, refl, sym, ◌∙◌, ap, subst, arith}
use Rattle.std.specs.Prelude.{◌||◌, is_some, IsSome, unwrap_or}
use Rattle.std.proofs.lemmas.Bool.{cases_Bool}
use Rattle.std.proofs.lemmas.List.{map-append}
use Rattle.std.proofs.lemmas.List.Folds.{list_any-append}
use Rattle.nm_types.specs.declared.id.PortId.{PortId}
use Rattle.nm_types.specs.declared.id.Side.{Side}
use Rattle.nm_types.specs.declared.id.Side.TheVariants.{Tx}
use Rattle.nm_types.specs.declared.place.Place.{Place}
use Rattle.nm_types.specs.declared.place.Place.TheVariants as place
use Rattle.nm_types.specs.Places.{is_same_place}
use Rattle.nm_types.specs.Positions.{IsRing, step_on, slots_from}
use Rattle.nm_types.proofs.RingSteps.{step_on-step_on, slots_from-add}
use Rattle.nm_types.proofs.Tests.{false_true}
use Rattle.nm_hold.specs.declared.standing.Standing.{Standing}
use Rattle.nm_hold.specs.Holds.{HoldState, index_at, standing_at, stands_at, is_named_at, is_named_in}
use Rattle.nm_hold.proofs.Spots.{same_place-is}
use Rattle.nm_port.specs.RingSlots.{RingSlots}
use Rattle.nm_port.specs.Sides.{place_on}
use Rattle.nm_port.specs.Filling.{FlaggedBy}
use Rattle.nm_port.specs.Exchanges.{IsNamedThere, pushed_count_of, user_position, user_place, CanExchange, AreExchanged, is_among, named_if, AreRenamed, tx_places, named_after_push, ArePushedOut}
use Rattle.nm_port.proofs.Pushes.{seen_more}
use Rattle.nm_port.proofs.Seeing.{ports_same}
use Rattle.nm_port.proofs.Exchanged.{user_apart}

-- whether a place is named, where it is the first or one of the middle, or one of the middle or the last
one_named : (first middle last was : Bool) → (middle ≡ true → (was ≡ true) × (last ≡ false))
    → (if first then true else if last then false else was) ≡ (if first || middle then true else if middle || last then false else was)
one_named true middle last was kept = refl
one_named false true last was kept = let k = kept refl in rw (k.1, k.0) refl
one_named false false last was kept = refl

module _ (h : HoldState) (id : PortId) (r : RingSlots) (is : IsRing r.ring) (can : CanExchange h id r) (side : r.side ≡ Tx) (some : 0 < pushed_count_of r) (behind : step_on r.ring.size r.ring.last_tail 1 ≡ r.ring.accepted_head) where
  abbrev n : ℕ
  n = pushed_count_of r

  abbrev tx : ℕ → Place
  tx k = place.Tx id (user_position r k)

  abbrev first_one : List Place
  first_one = tx_places id r.ring.size r.ring.last_tail 1

  abbrev middle : ℕ → List Place
  middle count = tx_places id r.ring.size r.ring.accepted_head count

  abbrev pub last_one : List Place
  last_one = tx_places id r.ring.size (user_position r (n - 1)) 1

  tx_is : (k : ℕ) → user_place id r k ≡ tx k
  tx_is k = ap (λ (s : Side). place_on s id (user_position r k)) side

  last_is : last_one ≡ tx (n - 1) ∷ []
  last_is = let none : n - 1 + 0 ≡ n - 1 = omega arith in ap (λ (at : ℕ). place.Tx id at ∷ []) (step_on-step_on r.ring.size r.ring.accepted_head (n - 1) 0 ∙ ap (user_position r) none)

  behind_tail : tx_places id r.ring.size r.ring.last_tail n ≡ first_one ++ middle (n - 1)
  behind_tail =
      let count : n ≡ 1 + (n - 1) = omega (arith, some) in
      ap (tx_places id r.ring.size r.ring.last_tail) count
      ∙ (ap (map (place.Tx id)) (slots_from-add r.ring.size r.ring.last_tail 1 (n - 1) ∙ ap (λ (at : ℕ). slots_from r.ring.size r.ring.last_tail 1 ++ slots_from r.ring.size at (n - 1)) behind)
      ∙ map-append (place.Tx id) (slots_from r.ring.size r.ring.last_tail 1) (slots_from r.ring.size r.ring.accepted_head (n - 1)))

  pushed_are : middle n ≡ middle (n - 1) ++ last_one
  pushed_are =
      let count : n ≡ n - 1 + 1 = omega (arith, some) in
      ap middle count ∙ (ap (map (place.Tx id)) (slots_from-add r.ring.size r.ring.accepted_head (n - 1) 1)
      ∙ map-append (place.Tx id) (slots_from r.ring.size r.ring.accepted_head (n - 1)) (slots_from r.ring.size (user_position r (n - 1)) 1))

  module _ (was : Place → Bool) (flagged : FlaggedBy h was) where
    at_place : (q : Place) → IsSome (index_at h q) → IsNamedThere h q → was q ≡ true
    at_place q held there = by_index (index_at h q) refl held
      where
        by_cell : (i : ℕ) (o : Option Standing) → standing_at h i ≡ o → is_named_at h i ≡ true → stands_at q (standing_at h i) ≡ true → was q ≡ true
        by_cell i None e named stands = false_true (sym (ap is_named_in e) ∙ named)
        by_cell i (Some s) e named stands =
            let here : q ≡ s.home.place = same_place-is q s.home.place (sym (ap (stands_at q) e) ∙ stands) in
            ap was here ∙ (sym (flagged i s e) ∙ (sym (ap is_named_in e) ∙ named))

        by_index : (o : Option ℕ) → index_at h q ≡ o → IsSome o → was q ≡ true
        by_index None e some = absurd cc
        by_index (Some i) e some = by_cell i (standing_at h i) refl (there i e) (can.is_hold.held q i e)

    was_named : (k : ℕ) → k < n → was (tx k) ≡ true
    was_named k below = subst (λ (q : Place). was q ≡ true) (tx_is k) (at_place (user_place id r k) (can.held k below) (can.there k below))

    apart : (k : ℕ) → k < n - 1 → (q : Place) → tx k ≡ q → is_same_place (tx (n - 1)) q ≡ false
    apart k below q here = elim (cases_Bool (is_same_place (tx (n - 1)) q)) [
      | inl same ↦ (let alike : tx k ≡ tx (n - 1) = here ∙ sym (same_place-is (tx (n - 1)) q same) in
          absurd (user_apart id r k (n - 1) is can.fits below (omega (arith, some)) (tx_is k ∙ (alike ∙ sym (tx_is (n - 1))))))
      | inr other ↦ other
    ]

    among : (m : ℕ) (q : Place) → m < n → is_among (middle m) q ≡ true → (was q ≡ true) × (is_same_place (tx (n - 1)) q ≡ false)
    among zero q few e = false_true e
    among (suc m) q few e =
        let next : suc m ≡ m + 1 = omega arith in
        let more : middle (suc m) ≡ middle m ++ tx m ∷ [] = ap middle next ∙ seen_more (place.Tx id) r.ring.size r.ring.accepted_head m in
        let both : (is_among (middle m) q || (is_same_place (tx m) q || false)) ≡ true =
        sym (ap (λ (places : List Place). is_among places q) more ∙ list_any-append (λ (p : Place). is_same_place p q) (middle m) (tx m ∷ [])) ∙ e in
        elim (cases_Bool (is_among (middle m) q)) [
          | inl before ↦ among m q (omega (arith, few)) before
          | inr none ↦ (let here : tx m ≡ q = same_place-is (tx m) q (or_right (is_among (middle m) q) (is_same_place (tx m) q) both none) in
              (subst (λ (p : Place). was p ≡ true) here (was_named m (omega (arith, few))), apart m (omega (arith, few)) q here))
        ]
      where
        or_right : (a b : Bool) → (a || (b || false)) ≡ true → a ≡ false → b ≡ true
        or_right true b e f = false_true (sym f)
        or_right false true e f = refl
        or_right false false e f = false_true e

    flags_are : (q : Place) → named_if true first_one (named_if false last_one was) q ≡ named_after_push id r n was q
    flags_are q =
        let last : is_among last_one q ≡ (is_same_place (tx (n - 1)) q || false) = ap (λ (places : List Place). is_among places q) last_is in
        let taken : is_among (tx_places id r.ring.size r.ring.last_tail n) q ≡ (is_among first_one q || is_among (middle (n - 1)) q) =
        ap (λ (places : List Place). is_among places q) behind_tail ∙ list_any-append (λ (p : Place). is_same_place p q) first_one (middle (n - 1)) in
        let pushed : is_among (middle n) q ≡ (is_among (middle (n - 1)) q || is_among last_one q) =
        ap (λ (places : List Place). is_among places q) pushed_are ∙ list_any-append (λ (p : Place). is_same_place p q) (middle (n - 1)) last_one in
        let one = one_named (is_among first_one q) (is_among (middle (n - 1)) q) (is_among last_one q) (was q)
        (λ e. (let found = among (n - 1) q (omega (arith, some)) e in (found.0, last ∙ ap (λ (b : Bool). b || false) found.1))) in
        one ∙ (ap (λ (b : Bool). if b then true else if is_among (middle (n - 1)) q || is_among last_one q then false else was q) (sym taken)
        ∙ ap (λ (b : Bool). if is_among (tx_places id r.ring.size r.ring.last_tail n) q then true else if b then false else was q) (sym pushed))

  pub all_pushed_out : (h1 h2 h3 : HoldState) → AreExchanged h h1 id r n → AreRenamed h1 h2 false last_one → AreRenamed h2 h3 true first_one → ArePushedOut h h3 id r n
  all_pushed_out h1 h2 h3 exchange pushed freed =
      let same : (q : Place) → index_at h3 q ≡ index_at h1 q = (λ q. freed.same q ∙ pushed.same q) in
      record {
        seen = λ ports sided e. ports_same h1 h3 (λ q. ap (λ (o : Option ℕ). unwrap_or o 0) (same q)) ports ∙ exchange.seen ports sided e;
        held = λ q. ap (λ (o : Option ℕ). is_some o) (same q) ∙ exchange.held q;
        flags = λ was flagged idx s e. freed.flags (named_if false last_one was) (pushed.flags was (exchange.flags was flagged)) idx s e ∙ flags_are was flagged s.home.place;
        bufs = freed.bufs ∙ (pushed.bufs ∙ exchange.bufs);
        ports = freed.ports ∙ (pushed.ports ∙ exchange.ports);
        is_hold = freed.is_hold;
      }
