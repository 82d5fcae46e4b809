-- The own side of a push that passes the checks, and what its exchange asks.
use Rattle.std.proofs.Common.{ℕ, zero, suc, ◌≡◌, ◌≢◌, ◌<◌, ◌≤◌, ◌+◌, Bool, true, nat_eq, List, ◌∷◌, [], ◌++◌, length, map, get_or, Option, Some, None, refl, sym, ◌∙◌, ap, arith}
use Rattle.std.specs.Prelude.{IsSome}
use Rattle.std.specs.List.{IsDistinct, range_with_len}
use Rattle.std.proofs.lemmas.List.{length-map}
use Rattle.std.proofs.lemmas.Map.Keys.{apart_from_distinct}
use Rattle.nm_types.specs.declared.id.PortId.{PortId}
use Rattle.nm_types.specs.declared.id.Side.{Side}
use Rattle.nm_types.specs.declared.id.Side.TheVariants.{Tx, Rx}
use Rattle.nm_types.specs.declared.place.Place.{Place}
use Rattle.nm_types.specs.Positions.{IsRing, FitsRing, step_on, slots_from}
use Rattle.nm_types.specs.Slots.{Pushed}
use Rattle.nm_types.specs.SyncChecks.{contains_index, begun_after, EachPasses}
use Rattle.nm_types.specs.OwnPorts.{named_of, ring_at, refusal_at}
use Rattle.nm_types.proofs.RingSteps.{length-slots_from}
use Rattle.nm_types.proofs.Tests.{false_true, same_true}
use Rattle.nm_slot.proofs.CheckLaws.{passed_slots_pass, passed_names_once}
use Rattle.nm_hold.specs.declared.standing.Standing.{Standing}
use Rattle.nm_hold.specs.Offsets.{ArePortsOnce}
use Rattle.nm_hold.specs.Holds.{HoldState, buffers_of, index_at, standing_at, is_named_at, is_named_in, stands_at}
use Rattle.nm_hold.proofs.Spots.{same_place-is}
use Rattle.nm_port.specs.declared.port.UserPort.{UserPort}
use Rattle.nm_own.specs.declared.own.OwnSide.TheInside.{Inside}
use Rattle.nm_port.specs.RingSlots.{RingSlots}
use Rattle.nm_port.specs.Sides.{place_on, name_at, names_pushed, pushed_seen, pushed_seen_at}
use Rattle.nm_port.specs.Own.{own_seen, slots_on, slots_at, whole_at, named_places, places_of_port, is_filled}
use Rattle.nm_port.specs.Regions.{SideState, side_seen}
use Rattle.nm_own.specs.Kept.{IsKept}
use Rattle.nm_own.specs.FittingRings.{IsFittingRing}
use Rattle.nm_port.specs.Exchanges.{IsNamedThere, pushed_count_of, user_position, user_place, is_among, CanExchange}
use Rattle.nm_own.proofs.Tests.{some_of}
use Rattle.nm_own.proofs.Closing.{Has, has_port}
use Rattle.nm_own.proofs.Naming.{are_named}
use Rattle.nm_port.proofs.Seeing.{get-slots}
use Rattle.nm_port.proofs.Pushes.{names-seen}
use Rattle.nm_port.proofs.Checked.{found, no_ring, side_found, refusal_is_seen, passed_fits, tx_ring_found}
use Rattle.nm_own.proofs.Offered.{rx_ring_found}

-- what is asked of a ring whose push passes the checks
each_named : (side : Side) (whole : Bool) (pool : ℕ) (named earlier : List ℕ) (begun : ℕ) (f : ℕ → Pushed) (size first a n : ℕ) → EachPasses side whole pool named earlier begun (map f (map (step_on size first) (range_with_len a n)))
    → (k : ℕ) → k < n → (contains_index named (f (step_on size first (a + k))).slot.buf_idx ≡ true) × (2 ≤ (f (step_on size first (a + k))).slot.buf_idx)
each_named side whole pool named earlier begun f size first a zero passes k below = absurd (omega arith)
each_named side whole pool named earlier begun f size first a (suc n) passes zero below =
    let same : a ≡ a + 0 = omega arith in
    rw (← same) ((passes.0.held, passes.0.least))
each_named side whole pool named earlier begun f size first a (suc n) passes (suc k) below =
    let same : a + 1 + k ≡ a + suc k = omega arith in
    rw (← same) (each_named side whole pool named (earlier ++ (f (step_on size first a)).slot.buf_idx ∷ []) (begun_after begun (f (step_on size first a)).slot) f size first (a + 1) n passes.1 k (omega arith))

-- the own side of a push that passes
pub record Passes (h : HoldState) (ports : List UserPort) (side : Side) (id : PortId) (p : UserPort) (r : RingSlots) : Type 0 where
  pub has : Has h ports id p
  pub on : slots_on side p ≡ Some r
  pub at : slots_at side ports id.0 ≡ Some r
  pub passes : refusal_at side id.0 (own_seen h ports) ≡ None

pub passes_of : (o : Inside) (side : Side) (id : PortId) (r : RingSlots) → IsKept o → slots_at side o.ports.items id.0 ≡ Some r → refusal_at side id.0 (own_seen o.hold o.ports.items) ≡ None
    → (p : UserPort) × Passes o.hold o.ports.items side id p r
passes_of o side id r kept at passes =
    let f = found o.ports.items side id r at in
    (f.p, record { has = has_port o id f.p kept f.there; on = f.on; at = at; passes = passes })

module _ (h : HoldState) (ports : List UserPort) (side : Side) (id : PortId) (p : UserPort) (r : RingSlots) (x : Passes h ports side id p r) where
  pub ring_is : IsRing r.ring
  ring_is = by_side side x.at
    where
      by_side : (s : Side) → slots_at s ports id.0 ≡ Some r → IsRing r.ring
      by_side Tx at = tx_ring_found ports id r x.has.rings at
      by_side Rx at = rx_ring_found ports id r x.has.rings at

  pub own_side : r.side ≡ side
  own_side = side_found ports side id r x.has.sided x.at

  pub positions_fit : FitsRing r.ring r.ring.head r.ring.cur
  positions_fit = passed_fits h ports side id r x.has.sided ring_is x.at x.passes

  pub ports_once : ArePortsOnce (map places_of_port ports)
  ports_once = rw (← x.has.places) x.has.is_hold.once

  pub named_there : (q : Place) → is_among (named_places ports) q ≡ true → IsNamedThere h q
  named_there q among i e = by_cell (standing_at h i) refl (x.has.is_hold.held q i e)
    where
      by_cell : (o : Option Standing) → standing_at h i ≡ o → stands_at q (standing_at h i) ≡ true → is_named_at h i ≡ true
      by_cell None none stands = false_true (ap (stands_at q) (sym none) ∙ stands)
      by_cell (Some s) some stands =
          let same : q ≡ s.home.place = same_place-is q s.home.place (sym (ap (stands_at q) some) ∙ stands) in
          ap is_named_in some ∙ (x.has.flagged i s some ∙ (ap (is_among (named_places ports)) (sym same) ∙ among))

  slots_pass : EachPasses r.side (whole_at ports id.0) (buffers_of h) (named_of (own_seen h ports)) [] 0 (pushed_seen h id r)
  slots_pass = passed_slots_pass r.side (whole_at ports id.0) (buffers_of h) (named_of (own_seen h ports)) r.ring (pushed_seen h id r) (sym (refusal_is_seen h ports side id r x.has.sided ring_is x.at) ∙ x.passes)

  each : (k : ℕ) → k < pushed_count_of r → is_named_at h (name_at r (user_position r k)) ≡ true
  each k below =
      let named = named_of (own_seen h ports) in
      let one = each_named r.side (whole_at ports id.0) (buffers_of h) named [] 0 (pushed_seen_at h id r) r.ring.size r.ring.accepted_head 0 (pushed_count_of r) slots_pass k below in
      let first : 0 + k ≡ k = omega arith in
      let at = rw first at one in
      are_named h ports x.has.sided x.has.rings x.has.flagged x.has.is_hold (name_at r (user_position r k)) at.1 ∙ at.0

  names_once : (j k : ℕ) → j < k → k < pushed_count_of r → name_at r (user_position r j) ≢ name_at r (user_position r k)
  names_once j k less below same =
      let names = names_pushed r in
      let named = named_of (own_seen h ports) in
      let once : IsDistinct nat_eq names = rw (names-seen h id r) at (passed_names_once r.side (whole_at ports id.0) (buffers_of h) named (pushed_seen h id r) slots_pass).distinct in
      let long : length names ≡ pushed_count_of r = length-map (slots_from r.ring.size r.ring.accepted_head (pushed_count_of r)) (name_at r) ∙ length-slots_from r.ring.size r.ring.accepted_head (pushed_count_of r) in
      let apart = apart_from_distinct nat_eq names j k 0 once less (omega (arith, long, below)) in
      let at : (i : ℕ) → i < pushed_count_of r → get_or names i 0 ≡ name_at r (user_position r i) = (λ i few. (let first : 0 + i ≡ i = omega arith in
      get-slots (name_at r) r.ring.size r.ring.accepted_head 0 (pushed_count_of r) i 0 few ∙ ap (λ (n : ℕ). name_at r (user_position r n)) first)) in
      false_true (sym apart ∙ same_true (get_or names j 0) (get_or names k 0) (at j (omega arith) ∙ (same ∙ sym (at k below))))

  pub can_exchange_at : ((k : ℕ) → k < pushed_count_of r → is_filled ports (place_on side id (user_position r k)) ≡ true) → ((k : ℕ) → k < pushed_count_of r → is_among (named_places ports) (place_on side id (user_position r k)) ≡ true)
      → CanExchange h id r
  can_exchange_at filled named = record {
    fits = positions_fit;
    held = λ k below. some_of (index_at h (user_place id r k)) (rw own_side (x.has.filled (place_on side id (user_position r k)) ∙ filled k below));
    there = λ k below. rw own_side (named_there (place_on side id (user_position r k)) (named k below));
    named = each;
    once = names_once;
    is_hold = x.has.is_hold;
  }

-- a ring whose check passes is there, and its positions fit
pub passing_ring : (o : Inside) (s : SideState) (side : Side) (id : PortId) → IsKept o → side_seen o.hold o.ports.items ≡ s → IsSome (ring_at side s.own id.0) → refusal_at side id.0 s.own ≡ None
    → (r : RingSlots) × IsFittingRing o.ports.items id.0 side r
passing_ring o s side id kept seen there passes = by_ring (slots_at side o.ports.items id.0) refl
  where
    by_ring : (found : Option RingSlots) → slots_at side o.ports.items id.0 ≡ found → (r : RingSlots) × IsFittingRing o.ports.items id.0 side r
    by_ring None none = absurd (no_ring o.hold o.ports.items side id.0 none (rw (← seen) at there))
    by_ring (Some r) at =
        let x = passes_of o side id r kept at (rw (← seen) at passes) in
        (r, record { at = at; ring = ring_is o.hold o.ports.items side id x.0 r x.1; fits = positions_fit o.hold o.ports.items side id x.0 r x.1 })
