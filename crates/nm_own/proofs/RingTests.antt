-- Whether a ring has slots at its head, as it is seen.
use Rattle.std.proofs.Common.{ℕ, zero, suc, ◌≡◌, ◌≤◌, ◌<◌, ◌+◌, ◌⊎◌, true, false, nat_eq, nat_le, not, List, length, Option, Some, None, inl, inr, refl, sym, ◌∙◌, ap, arith}
use Rattle.std.specs.Prelude.{is_none}
use Rattle.std.specs.Option.{option_map_or}
use Rattle.std.proofs.lemmas.Bool.{cases_Bool, cases_eq}
use Rattle.std.proofs.lemmas.Bool.Decides.{nat_tests}
use Rattle.std.proofs.lemmas.Option.{same_Some}
use Rattle.nm_types.specs.declared.id.PortId.{PortId}
use Rattle.nm_types.specs.declared.id.Side.{Side}
use Rattle.nm_types.specs.declared.id.Side.TheVariants.{Tx, Rx}
use Rattle.nm_types.specs.Positions.{IsRing, dist}
use Rattle.nm_types.specs.SyncChecks.{ring_refusal}
use Rattle.nm_types.specs.OwnPorts.{OwnRing, OwnState, ring_at}
use Rattle.nm_types.specs.OwnEdits.{has_slots, has_room}
use Rattle.nm_types.proofs.PartLemmas.{slots-one}
use Rattle.nm_types.proofs.RingSteps.{dist-cases, dist_self}
use Rattle.nm_hold.specs.Holds.{HoldState}
use Rattle.nm_port.specs.declared.port.UserPort.{UserPort}
use Rattle.nm_port.specs.RingSlots.{RingSlots, slots_ahead, head_has_slot}
use Rattle.nm_port.specs.Own.{own_seen, ring_seen, slots_at, AreRings}
use Rattle.nm_port.proofs.Checked.{ring_found, ring_not_found, tx_ring_found}
use Rattle.nm_own.specs.Acts.{IsRingAt}
use Rattle.nm_own.proofs.Offered.{rx_ring_found}
use Rattle.nm_own.proofs.SlotsAhead.{fits_is}

-- one slot is before the tail where the head is not there
one_before : (size head tail : ℕ) → head < size → tail < size → nat_le 1 (dist size head tail) ≡ not (nat_eq head tail)
one_before size head tail within last = elim (cases_eq head tail) [
  | inl same ↦
      let none : dist size head tail ≡ 0 = ap (dist size head) (sym same) ∙ dist_self size head within in
      let less : nat_le 1 (dist size head tail) ≡ false = grind (arith, nat_tests, none) in
      let alike : nat_eq head tail ≡ true = grind (arith, nat_tests, same) in
      rw (less, alike) refl
  | inr other ↦
      let some : 1 ≤ dist size head tail = apart (dist size head tail) size head tail within last (dist-cases size head tail within last) other in
      let less : nat_le 1 (dist size head tail) ≡ true = grind (arith, nat_tests, some) in
      let unlike : nat_eq head tail ≡ false = grind (arith, nat_tests) in
      rw (less, unlike) refl
]
  where
    apart : (d size head tail : ℕ) → head < size → tail < size → (head + d ≡ tail) ⊎ (head + d ≡ tail + size) → (head ≡ tail → ⊥) → 1 ≤ d
    apart zero size head tail within last (inl e) other = absurd (other (omega (arith, e)))
    apart zero size head tail within last (inr e) other = absurd (omega (arith, e))
    apart (suc d) size head tail within last there other = omega arith

pub has_slots-one : (r : OwnRing) → IsRing r.ring → has_slots 1 r ≡ head_has_slot r.ring
has_slots-one r is = elim (cases_Bool (is_none (ring_refusal r.ring r.ring.head r.ring.cur))) [
  | inl e ↦ rw (e, one_before r.ring.size r.ring.head r.ring.tail (fits_is r.ring e).head_within is.within) refl
  | inr e ↦ rw e refl
]

-- as many slots are before the tail as a ring tells that are ahead, if some are asked for
pub has_slots-ahead : (n : ℕ) (r : OwnRing) → IsRing r.ring → 1 ≤ n → has_slots n r ≡ nat_le n (slots_ahead r.ring)
has_slots-ahead n r is some = elim (cases_Bool (is_none (ring_refusal r.ring r.ring.head r.ring.cur))) [
  | inl e ↦ rw (e, is.one_tail) refl
  | inr e ↦ (let less : nat_le n 0 ≡ false = grind (arith, nat_tests, some) in rw (e, less) refl)
]

pub rings_seen : (side : Side) (h : HoldState) (ports : List UserPort) (port : PortId) → AreRings ports → IsRingAt side (own_seen h ports) port.0
rings_seen side h ports port rings r at = by_ring (slots_at side ports port.0) refl
  where
    by_side : (side : Side) (q : RingSlots) → slots_at side ports port.0 ≡ Some q → IsRing q.ring
    by_side Tx q there = tx_ring_found ports port q rings there
    by_side Rx q there = rx_ring_found ports port q rings there

    by_ring : (o : Option RingSlots) → slots_at side ports port.0 ≡ o → IsRing r.ring
    by_ring None there = absurd (let no = sym (ring_not_found h ports side port.0 there) ∙ at in cc)
    by_ring (Some q) there =
        let same : ring_seen h port q ≡ r = same_Some (ring_seen h port q) r (sym (ring_found h ports side port q there) ∙ at) in
        rw (← same) (by_side side q there)

-- room for a frame that fits a buffer
pub room_short : (s : OwnState) (id : ℕ) (bytes : List ℕ) → IsRingAt Tx s id → length bytes ≤ 2048 → has_room s id (length bytes) ≡ option_map_or (λ (q : OwnRing). head_has_slot q.ring) (ring_at Tx s id) false
room_short s id bytes rings few = ap (λ (n : ℕ). option_map_or (has_slots n) (ring_at Tx s id) false) (slots-one (length bytes) few) ∙ by (ring_at Tx s id) refl
  where
    by : (o : Option OwnRing) → ring_at Tx s id ≡ o → option_map_or (has_slots 1) o false ≡ option_map_or (λ (q : OwnRing). head_has_slot q.ring) o false
    by None at = refl
    by (Some r) at = has_slots-one r (rings r at)
