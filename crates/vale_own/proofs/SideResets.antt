-- What a reset and a detach make of a session's side.
use Rattle.std.proofs.Common.{ℕ, ◌+◌, ◌<◌, ◌≡◌, Bool, true, false, cond, not, ◌==◌, nat_eq, List, [], ◌∷◌, ◌++◌, map, filter, fold, flat_map, length, get_or, Option, Some, None, option_map, refl, sym, ◌∙◌, ap, ap₂, arith, inl, inr}
use Rattle.std.specs.Prelude.{find}
use Rattle.std.specs.List.{AllByRecursion as Each, IsDistinct}
use Rattle.std.proofs.lemmas.Bool.{cases_Bool, eqb-true, eqb-false, ne_eqb}
use Rattle.std.proofs.lemmas.List.{length-set, get_or-set_other}
use Rattle.nm_types.specs.declared.id.Side.{Side}
use Rattle.nm_types.specs.declared.id.Side.TheVariants.{Tx, Rx}
use Rattle.nm_types.specs.Positions.{RingState, IsRing, dist, step_on, pending_slots, user_slots}
use Rattle.nm_types.specs.Slots.{SlotState}
use Rattle.nm_types.specs.OwnPorts.{OwnRing, OwnPort, OwnState, buffers_in, held_if, blank_slot, port_if, with_ring_on, port_with_id}
use Rattle.nm_types.specs.OwnSyncs.{with_slot_reset, ring_after_reset, own_after_reset, own_after_finish}
use Rattle.vale_entry.specs.World.{Port}
use Rattle.vale_entry.specs.Closing.{ports_without}
use Rattle.vale_entry.proofs.Counting.{count_of, count_of-append}
use Rattle.vale_entry.proofs.Each.{each-map, each-both}
use Rattle.vale_entry.proofs.Removals.{each-filter}
use Rattle.vale_own.specs.Side.{id_of, port_of_side, IsPending, IsTxRing, IsTxRingIf, IsRxRing, IsSoundPort, IsSound}
use Rattle.vale_own.proofs.SidePlaces.{each-slot, in-ports}
use Rattle.vale_own.proofs.SideSound.{pending-apart, each-pending}
use Rattle.vale_own.proofs.SideMoves.{changed-ids, changed-same, Moved}
use Rattle.vale_own.proofs.SideSends.{tx-seen, ring-keeps-id}

-- slots that are reset, and others
reset-other : (r : OwnRing) (ats : List ℕ) (slots : List SlotState) (at : ℕ) → Each (λ x. nat_eq x at ≡ false) ats → get_or (fold (with_slot_reset Tx r) slots ats) at blank_slot ≡ get_or slots at blank_slot
reset-other r [] slots at apart = refl
reset-other r (x ∷ ats) slots at apart = reset-other r ats (with_slot_reset Tx r slots x) at apart.1 ∙ get_or-set_other slots x at _ blank_slot (λ e. eqb-false x at apart.0 (sym e))

reset-length : (side : Side) (r : OwnRing) (ats : List ℕ) (slots : List SlotState) → length (fold (with_slot_reset side r) slots ats) ≡ length slots
reset-length side r [] slots = refl
reset-length side r (x ∷ ats) slots = reset-length side r ats (with_slot_reset side r slots x) ∙ length-set slots _ _

reset-ring : (ring : RingState) → IsRing ring → ring.last_tail < ring.size
reset-ring ring is = let w = is.within in let o = is.one_tail in omega arith

reset-tx : (r : OwnRing) → IsTxRing r → IsTxRing (ring_after_reset Tx r)
reset-tx r is = record {
  positions = record { is_size = is.positions.is_size; accepted = is.positions.accepted; within = reset-ring r.ring is.positions; one_tail = refl };
  slots = reset-length Tx r (user_slots r.ring) r.slots ∙ is.slots;
  held = is.held;
  pending = each-both (IsPending r) (λ (at : ℕ). Each (λ x. nat_eq x at ≡ false) (user_slots r.ring)) (IsPending (ring_after_reset Tx r)) still (pending_slots r.ring) is.pending
      (each-pending r.ring (λ (at : ℕ). Each (λ x. nat_eq x at ≡ false) (user_slots r.ring)) apart);
}
  where
    apart : (k : ℕ) → k < dist r.ring.size (step_on r.ring.size r.ring.last_tail 1) r.ring.accepted_head → Each (λ x. nat_eq x (step_on r.ring.size (step_on r.ring.size r.ring.last_tail 1) k) ≡ false) (user_slots r.ring)
    apart k below = each-slot (λ (x : ℕ). nat_eq x (step_on r.ring.size (step_on r.ring.size r.ring.last_tail 1) k) ≡ false) r.ring.size r.ring.accepted_head (dist r.ring.size r.ring.accepted_head r.ring.last_tail)
        (λ j less. ne_eqb (step_on r.ring.size r.ring.accepted_head j) (step_on r.ring.size (step_on r.ring.size r.ring.last_tail 1) k) (pending-apart r.ring k j is.positions below less))

    still : (at : ℕ) → IsPending r at → Each (λ x. nat_eq x at ≡ false) (user_slots r.ring) → IsPending (ring_after_reset Tx r) at
    still at k others =
        let slot = reset-other r (user_slots r.ring) r.slots at others in
        record { named = ap (λ x. x.buf_idx) slot ∙ k.named; fits = (let same = ap (λ x. x.len) slot in let le = k.fits in omega (arith, same, le)) }

reset-rx : (r : OwnRing) → IsRxRing r → IsRxRing (ring_after_reset Rx r)
reset-rx r is = record {
  positions = record { is_size = is.positions.is_size; accepted = is.positions.accepted; within = reset-ring r.ring is.positions; one_tail = refl };
  slots = reset-length Rx r (user_slots r.ring) r.slots ∙ is.slots;
  held = is.held;
}

reset-port : (side : Side) (q : OwnPort) → IsSoundPort q → IsSoundPort (with_ring_on side (ring_after_reset side) q)
reset-port Tx q is = record { tx = over q.tx is.tx; rx = is.rx }
  where
    over : (o : Option OwnRing) → IsTxRingIf o → IsTxRingIf (option_map (ring_after_reset Tx) o)
    over None k = tt
    over (Some r) k = reset-tx r k
reset-port Rx q is = record { tx = is.tx; rx = reset-rx q.rx is.rx }

reset-buffers : (side : Side) (q : OwnPort) → buffers_in (with_ring_on side (ring_after_reset side) q) ≡ buffers_in q
reset-buffers Tx q = over q.tx
  where
    over : (o : Option OwnRing) → held_if (option_map (ring_after_reset Tx) o) ++ (q.rx.held ++ q.extra) ≡ held_if o ++ (q.rx.held ++ q.extra)
    over None = refl
    over (Some r) = refl
reset-buffers Rx q = refl

reset-all : (side : Side) (id : ℕ) (ports : List OwnPort) → flat_map buffers_in (map (port_if id (with_ring_on side (ring_after_reset side))) ports) ≡ flat_map buffers_in ports
reset-all side id [] = refl
reset-all side id (q ∷ ports) = ap₂ (λ (xs ys : List ℕ). xs ++ ys) (by (q.id.0 == id)) (reset-all side id ports)
  where
    by : (b : Bool) → buffers_in (cond b (with_ring_on side (ring_after_reset side) q) q) ≡ buffers_in q
    by true = reset-buffers side q
    by false = refl

pub reset-moved : (id : ℕ) (side : Side) (s : OwnState) → IsSound s → Moved s (own_after_reset id side s) [] []
reset-moved id side s sound = record {
  pool_is = refl;
  each = each-map IsSoundPort IsSoundPort (port_if id (with_ring_on side (ring_after_reset side))) (λ q is. by q (q.id.0 == id) is) s.ports sound.each;
  apart = rw (changed-ids id (with_ring_on side (ring_after_reset side)) (ring-keeps-id side (ring_after_reset side)) s.ports) sound.apart;
  bytes = refl;
  less = λ b. omega arith;
  moved = λ b. ap (λ (bs : List ℕ). count_of b bs + 0) (reset-all side id s.ports);
}
  where
    by : (q : OwnPort) (b : Bool) → IsSoundPort q → IsSoundPort (cond b (with_ring_on side (ring_after_reset side) q) q)
    by q true is = reset-port side q is
    by q false is = is

pub reset-ports : (id : ℕ) (side : Side) (s : OwnState) (session : ℕ) (shut : Option ℕ) → map (port_of_side session shut) (own_after_reset id side s).ports ≡ map (port_of_side session shut) s.ports
reset-ports id side s session shut = changed-same id (with_ring_on side (ring_after_reset side)) (port_of_side session shut) (on side) s.ports
  where
    on : (sd : Side) (q : OwnPort) → port_of_side session shut (with_ring_on sd (ring_after_reset sd) q) ≡ port_of_side session shut q
    on Tx q = tx-seen session shut (ring_after_reset Tx) (λ r. refl) q
    on Rx q = refl

-- a port that is gone
pub distinct-filtered : (id : ℕ) (ports : List OwnPort) → IsDistinct nat_eq (map id_of ports) → IsDistinct nat_eq (map id_of (filter (λ (q : OwnPort). not (q.id.0 == id)) ports))
unfolding IsDistinct
distinct-filtered id [] apart = tt
distinct-filtered id (q ∷ ports) apart = by (q.id.0 == id) refl (distinct-filtered id ports apart.1)
  where
    others : (qs : List OwnPort) → Each (λ y. nat_eq q.id.0 y ≡ false) (map id_of qs) → Each (λ y. nat_eq q.id.0 y ≡ false) (map id_of (filter (λ (x : OwnPort). not (x.id.0 == id)) qs))
    others [] all = tt
    others (x ∷ qs) all = at (x.id.0 == id) refl (others qs all.1)
      where
        at : (b : Bool) → (x.id.0 == id) ≡ b → Each (λ y. nat_eq q.id.0 y ≡ false) (map id_of (filter (λ (z : OwnPort). not (z.id.0 == id)) qs))
            → Each (λ y. nat_eq q.id.0 y ≡ false) (map id_of (filter (λ (z : OwnPort). not (z.id.0 == id)) (x ∷ qs)))
        at true e rest = rw e rest
        at false e rest = rw e (all.0, rest)

    by : (b : Bool) → (q.id.0 == id) ≡ b → IsDistinct nat_eq (map id_of (filter (λ (x : OwnPort). not (x.id.0 == id)) ports)) → IsDistinct nat_eq (map id_of (filter (λ (x : OwnPort). not (x.id.0 == id)) (q ∷ ports)))
    by true e rest = rw e rest
    by false e rest = rw e (others ports apart.0, rest)

filter-others : (q : OwnPort) (id : ℕ) (ports : List OwnPort) → q.id.0 ≡ id → Each (λ y. nat_eq q.id.0 y ≡ false) (map id_of ports) → filter (λ (x : OwnPort). not (x.id.0 == id)) ports ≡ ports
filter-others q id [] is all = refl
filter-others q id (x ∷ ports) is all =
    let other : (x.id.0 == id) ≡ false = ne_eqb x.id.0 id (λ e. eqb-false q.id.0 x.id.0 all.0 (is ∙ sym e)) in
    rw other (ap (λ (qs : List OwnPort). x ∷ qs) (filter-others q id ports is all.1))

gone-counts : (b id : ℕ) (ports : List OwnPort) (p : OwnPort) → IsDistinct nat_eq (map id_of ports) → find (λ (q : OwnPort). q.id.0 == id) ports ≡ Some p
    → count_of b (flat_map buffers_in (filter (λ (q : OwnPort). not (q.id.0 == id)) ports)) + count_of b (buffers_in p) ≡ count_of b (flat_map buffers_in ports)
unfolding IsDistinct
gone-counts b id [] p apart found = absurd cc
gone-counts b id (q ∷ ports) p apart found =
    let all = count_of-append b (buffers_in q) (flat_map buffers_in ports) in
    elim (cases_Bool (q.id.0 == id)) [
      | inl here ↦ (let is : q ≡ p = (let first : Some q ≡ Some p = rw here at found in cc) in
          let same = ap (λ (x : OwnPort). count_of b (buffers_in x)) is in
          rw (here, filter-others q id ports (eqb-true q.id.0 id here) apart.0) (omega (arith, all, same)))
      | inr other ↦ (let rest = gone-counts b id ports p apart.1 (rw other at found) in
          let new = count_of-append b (buffers_in q) (flat_map buffers_in (filter (λ (x : OwnPort). not (x.id.0 == id)) ports)) in
          rw other (omega (arith, all, rest, new)))
    ]

pub finish-moved : (id : ℕ) (s : OwnState) (p : OwnPort) → IsSound s → port_with_id s id ≡ Some p → Moved s (own_after_finish id (buffers_in p) s) (buffers_in p) []
finish-moved id s p sound found = record {
  pool_is = refl;
  each = each-filter IsSoundPort (λ (q : OwnPort). not (q.id.0 == id)) s.ports sound.each;
  apart = distinct-filtered id s.ports sound.apart;
  bytes = refl;
  less = λ b. in-ports id s.ports p b found;
  moved = λ b. let all = gone-counts b id s.ports p sound.apart found in omega (arith, all);
}

pub finish-ports : (id session : ℕ) (ports : List OwnPort) → map (port_of_side session None) (filter (λ (q : OwnPort). not (q.id.0 == id)) ports) ≡ ports_without id (map (port_of_side session (Some id)) ports)
finish-ports id session [] = refl
finish-ports id session (q ∷ ports) = by (q.id.0 == id) refl (finish-ports id session ports)
  where
    by : (b : Bool) → (q.id.0 == id) ≡ b → map (port_of_side session None) (filter (λ (x : OwnPort). not (x.id.0 == id)) ports) ≡ ports_without id (map (port_of_side session (Some id)) ports)
        → map (port_of_side session None) (filter (λ (x : OwnPort). not (x.id.0 == id)) (q ∷ ports)) ≡ ports_without id (map (port_of_side session (Some id)) (q ∷ ports))
    by true e rest = rw e rest
    by false e rest = rw e (ap (λ (qs : List Port). port_of_side session None q ∷ qs) rest)
