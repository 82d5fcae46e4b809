-- How a ring and its places are seen.
use Rattle.std.proofs.Common.{ℕ, zero, suc, ◌≡◌, ◌<◌, ◌+◌, nat_eq, List, [], ◌∷◌, map, get_or, Option, Some, None, option_map, inl, inr, refl, ◌∙◌, ap, arith, set}
use Rattle.std.specs.Prelude.{option_and_then}
use Rattle.std.specs.List.{range_with_len}
use Rattle.std.proofs.lemmas.Bool.{cases_Bool}
use Rattle.std.proofs.lemmas.List.FromFn.{get_or-map-range_with_len}
use Rattle.nm_types.specs.declared.id.PortId.{PortId}
use Rattle.nm_types.specs.declared.id.Side.{Side}
use Rattle.nm_types.specs.declared.id.Side.TheVariants.{Tx, Rx}
use Rattle.nm_types.specs.Positions.{IsRing, FitsRing, dist, step_on}
use Rattle.nm_types.specs.OwnPorts.{buffer_in, pushed_at, pushed_in, port_with_id, ring_at, ring_on, OwnRing}
use Rattle.nm_types.proofs.RingSteps.{dist-below, dist-step_on, step_on-below}
use Rattle.nm_hold.specs.Holds.{HoldState, port_of}
use Rattle.nm_port.specs.declared.port.UserPort.{UserPort}
use Rattle.nm_port.specs.RingSlots.{RingSlots}
use Rattle.nm_port.specs.Sides.{pushed_seen, pushed_seen_at, number_at}
use Rattle.nm_port.specs.Own.{number_on, ring_seen, port_seen, own_seen, port_at, slots_on, IsTxSide, AreSided, extra_number_at, positions_of}
use Rattle.nm_types.specs.declared.place.Place.{Place}
use Rattle.nm_types.specs.declared.place.Place.TheVariants as place

-- two functions that agree at the slots from one on give the same list
pub map-slots : {X : Type 0} (f g : ℕ → X) (size first a n : ℕ) → ((k : ℕ) → k < a + n → f (step_on size first k) ≡ g (step_on size first k))
    → map f (map (step_on size first) (range_with_len a n)) ≡ map g (map (step_on size first) (range_with_len a n))
map-slots f g size first a zero same = refl
map-slots {X = X} f g size first a (suc n) same =
    ap (λ (x : X). x ∷ map f (map (step_on size first) (range_with_len (a + 1) n))) (same a (omega arith))
    ∙ ap (λ (xs : List X). g (step_on size first a) ∷ xs) (map-slots f g size first (a + 1) n (λ k below. same k (omega arith)))

pub get-slots : {X : Type 0} (f : ℕ → X) (size first a n k : ℕ) (d : X) → k < n → get_or (map f (map (step_on size first) (range_with_len a n))) k d ≡ f (step_on size first (a + k))
get-slots f size first a zero k d below = absurd (omega arith)
get-slots f size first a (suc n) zero d below = let same : a ≡ a + 0 = omega arith in ap (λ (i : ℕ). f (step_on size first i)) same
get-slots f size first a (suc n) (suc k) d below =
    let same : a + 1 + k ≡ a + suc k = omega arith in
    get-slots f size first (a + 1) n k d (omega arith) ∙ ap (λ (i : ℕ). f (step_on size first i)) same

-- the buffer in the place of a user slot
pub buffer_seen : (h : HoldState) (id : PortId) (side : Side) (r : RingSlots) (k : ℕ) → r.side ≡ side → IsRing r.ring → k < dist r.ring.size r.ring.accepted_head r.ring.last_tail
    → buffer_in side (ring_seen h id r) (step_on r.ring.size r.ring.accepted_head k) ≡ number_on h side id (step_on r.ring.size r.ring.accepted_head k)
buffer_seen h id Tx r k e is below =
    let at = step_on r.ring.size r.ring.accepted_head k in
    let within = step_on-below r.ring.size r.ring.accepted_head k is.accepted in
    rw e (get_or-map-range_with_len (number_on h Tx id) 0 r.ring.size at at 0 within (omega arith))
buffer_seen h id Rx r k e is below =
    let at = step_on r.ring.size r.ring.accepted_head k in
    let all = dist-below r.ring.size r.ring.accepted_head r.ring.last_tail is.accepted in
    let there : dist r.ring.size r.ring.accepted_head at ≡ k = dist-step_on r.ring.size r.ring.accepted_head k is.accepted (omega arith) in
    let first : 0 + k ≡ k = omega arith in
    rw (e, there) (get-slots (number_on h Rx id) r.ring.size r.ring.accepted_head 0 (dist r.ring.size r.ring.accepted_head r.ring.last_tail) k 0 below ∙ ap (λ (i : ℕ). number_on h Rx id (step_on r.ring.size r.ring.accepted_head i)) first)

-- what a sync whose positions fit finds pushed
pub pushed_is_seen : (h : HoldState) (id : PortId) (side : Side) (r : RingSlots) → r.side ≡ side → IsRing r.ring → FitsRing r.ring r.ring.head r.ring.cur
    → pushed_in side (ring_seen h id r) ≡ pushed_seen h id r
pushed_is_seen h id side r e is fits =
    map-slots (pushed_at side (ring_seen h id r)) (pushed_seen_at h id r) r.ring.size r.ring.accepted_head 0 (dist r.ring.size r.ring.accepted_head r.ring.head)
    (λ k below. (let within : k < dist r.ring.size r.ring.accepted_head r.ring.last_tail = omega (arith, fits.head_reach) in
    same (step_on r.ring.size r.ring.accepted_head k) (buffer_seen h id side r k e is within)))
  where
    same : (at : ℕ) → buffer_in side (ring_seen h id r) at ≡ number_on h side id at → pushed_at side (ring_seen h id r) at ≡ pushed_seen_at h id r at
    same at b = rw (b, e) refl

pub side_of_found : (ports : List UserPort) (side : Side) (id : ℕ) (p : UserPort) (r : RingSlots) → AreSided ports → port_at ports id ≡ Some p → slots_on side p ≡ Some r → r.side ≡ side
side_of_found [] side id p r sided found on = absurd cc
side_of_found (q ∷ ports) side id p r sided found on = elim (cases_Bool (nat_eq q.id.0 id)) [
  | inl here ↦ (let is : q ≡ p = (let e : Some q ≡ Some p = rw here at found in cc) in at_side side (rw (← is) at on))
  | inr other ↦ side_of_found ports side id p r sided.1 (rw other at found) on
]
  where
    at_side : (side : Side) → slots_on side q ≡ Some r → r.side ≡ side
    at_side Tx e = tx_side q.tx e sided.0.0
      where
        tx_side : (o : Option RingSlots) → o ≡ Some r → IsTxSide o → r.side ≡ Tx
        tx_side None e is = absurd cc
        tx_side (Some t) e is = let same : t ≡ r = cc in rw (← same) is
    at_side Rx e = let same : q.rx ≡ r = cc in rw (← same) sided.0.1

-- a port as it is seen, and its rings
pub port_is_seen : (h : HoldState) (ports : List UserPort) (id : ℕ) → port_with_id (own_seen h ports) id ≡ option_map (port_seen h) (port_at ports id)
port_is_seen h [] id = refl
port_is_seen h (p ∷ ports) id = elim (cases_Bool (nat_eq p.id.0 id)) [
  | inl here ↦ rw here refl
  | inr other ↦ rw other (port_is_seen h ports id)
]

pub ring_on_seen : (h : HoldState) (p : UserPort) (side : Side) → ring_on side (port_seen h p) ≡ option_map (ring_seen h p.id) (slots_on side p)
ring_on_seen h p Tx = refl
ring_on_seen h p Rx = refl

-- the ring of a port, as it is seen
pub ring_is_seen : (h : HoldState) (ports : List UserPort) (side : Side) (id : ℕ) → ring_at side (own_seen h ports) id ≡ option_and_then (λ (p : UserPort). option_map (ring_seen h p.id) (slots_on side p)) (port_at ports id)
ring_is_seen h [] side id = refl
ring_is_seen h (p ∷ ports) side id = elim (cases_Bool (nat_eq p.id.0 id)) [
  | inl here ↦ rw here (on side)
  | inr other ↦ rw other (ring_is_seen h ports side id)
]
  where
    on : (side : Side) → ring_on side (port_seen h p) ≡ option_map (ring_seen h p.id) (slots_on side p)
    on Tx = refl
    on Rx = refl

pub map-same : {X : Type 0} (f g : ℕ → X) (xs : List ℕ) → ((x : ℕ) → f x ≡ g x) → map f xs ≡ map g xs
map-same f g [] same = refl
map-same {X = X} f g (x ∷ xs) same = ap (λ (y : X). y ∷ map f xs) (same x) ∙ ap (λ (ys : List X). g x ∷ ys) (map-same f g xs same)

-- a port whose places hold the same buffers is seen the same
module _ (h new : HoldState) (p : UserPort) (same : (q : Place) → port_of q ≡ p.id.0 → number_at new q ≡ number_at h q) where
  number_same : (side : Side) (at : ℕ) → number_on new side p.id at ≡ number_on h side p.id at
  number_same Tx at = same (place.Tx p.id at) refl
  number_same Rx at = same (place.Rx p.id at) refl

  ring_same : (r : RingSlots) → ring_seen new p.id r ≡ ring_seen h p.id r
  ring_same r = rw (map-same (number_on new r.side p.id) (number_on h r.side p.id) (positions_of r.side r.ring) (number_same r.side)) refl

  tx_same : (tx : Option RingSlots) → option_map (ring_seen new p.id) tx ≡ option_map (ring_seen h p.id) tx
  tx_same None = refl
  tx_same (Some r) = ap (λ (o : OwnRing). Some o) (ring_same r)

  pub port_same : port_seen new p ≡ port_seen h p
  port_same = rw (tx_same p.tx, ring_same p.rx, map-same (extra_number_at new p.id) (extra_number_at h p.id) (range_with_len 0 p.extra) (λ at. same (place.Extra p.id at) refl)) refl

pub ports_same : (h new : HoldState) → ((q : Place) → number_at new q ≡ number_at h q) → (ports : List UserPort) → map (port_seen new) ports ≡ map (port_seen h) ports
ports_same h new same [] = refl
ports_same h new same (p ∷ ports) = rw (port_same h new p (λ q e. same q), ports_same h new same ports) refl

pub map-set : {X Y : Type 0} (f : X → Y) (xs : List X) (at : ℕ) (x : X) → map f (set xs at x) ≡ set (map f xs) at (f x)
map-set f [] at x = refl
map-set f (y ∷ ys) zero x = refl
map-set {Y = Y} f (y ∷ ys) (suc at) x = ap (λ (zs : List Y). f y ∷ zs) (map-set f ys at x)
