-- The places that hold a buffer, and the named buffers among those of all indices.
use Rattle.std.proofs.Common.{ℕ, zero, suc, ◌≡◌, ◌<◌, ◌+◌, true, false, nat_eq, nat_lt, List, [], ◌∷◌, ◌++◌, map, replicate, Option, Some, None, inl, inr, refl, sym, ◌∙◌, ap, arith, rules}
use Rattle.std.specs.Prelude.{is_some, unwrap_or}
use Rattle.std.specs.List.{AllByRecursion, range_with_len}
use Rattle.std.proofs.lemmas.Bool.{cases_Bool, cases_lt}
use Rattle.std.proofs.lemmas.List.{length-replicate}
use Rattle.nm_types.specs.declared.id.Side.TheVariants.{Rx}
use Rattle.nm_types.specs.declared.place.Place.{Place}
use Rattle.nm_types.specs.declared.place.Place.TheVariants as place
use Rattle.nm_types.specs.Positions.{IsRing, dist, step_on, is_user_slot}
use Rattle.nm_types.specs.Buffers.{IsPoolSize}
use Rattle.nm_types.specs.SyncChecks.{contains_index}
use Rattle.nm_types.specs.OwnPorts.{named_of}
use Rattle.nm_types.proofs.RingSteps.{dist-below, dist-step_on, step_on-below}
use Rattle.nm_types.proofs.Lists.{each-joined}
use Rattle.nm_types.proofs.Tests.{both_true, less_true, or_first, or_second, false_true, same_true}
use Rattle.nm_hold.specs.declared.standing.Standing.{Standing}
use Rattle.nm_hold.specs.Holds.{HoldState, buffers_of, empty_hold, index_at, standing_at, cell_at, stands_at, places_in, is_named_at, is_named_in, IsHold}
use Rattle.nm_hold.proofs.Spots.{nat_eq-is}
use Rattle.nm_port.specs.declared.port.UserPort.{UserPort}
use Rattle.nm_port.specs.RingSlots.{RingSlots}
use Rattle.nm_port.specs.Sides.{place_on, number_at}
use Rattle.nm_port.specs.Own.{own_seen, named_ring_places, named_tx_places, named_places_of, named_places, size_if, is_filled, is_filled_in, AreWhole, AreFilled, AreFlagged, AreRings, AreSided, IsTxSide, IsRingIf}
use Rattle.nm_own.proofs.Naming.{are_named, named_is_seen}

pub all_range : {X : Type 0} (P : X → Type 0) (f : ℕ → X) (a n : ℕ) → ((k : ℕ) → k < a + n → P (f k)) → AllByRecursion P (map f (range_with_len a n))
all_range P f a zero each = tt
all_range P f a (suc n) each = (each a (omega arith), all_range P f (a + 1) n (λ k below. each k (omega arith)))

-- a property of places that hold a buffer, over a list of them
abbrev HoldIn : List UserPort → Place → Type 0
HoldIn ports q = is_filled ports q ≡ true

-- each user slot is a slot that holds a buffer
pub all_slots : (P : Place → Type 0) (f : ℕ → Place) (size first a n : ℕ) → ((k : ℕ) → k < a + n → P (f (step_on size first k)))
    → AllByRecursion P (map f (map (step_on size first) (range_with_len a n)))
all_slots P f size first a zero each = tt
all_slots P f size first a (suc n) each = (each a (omega arith), all_slots P f size first (a + 1) n (λ k below. each k (omega arith)))

module _ (all : List UserPort) where
  tx_filled : (p : UserPort) (tx : Option RingSlots) → IsTxSide tx → IsRingIf tx → ((at : ℕ) → at < size_if tx → HoldIn all (place.Tx p.id at)) → AllByRecursion (HoldIn all) (named_tx_places p.id tx)
  tx_filled p None side is here = tt
  tx_filled p (Some r) side is here =
      all_slots (HoldIn all) (place_on r.side p.id) r.ring.size r.ring.accepted_head 0 (dist r.ring.size r.ring.accepted_head r.ring.last_tail)
      (λ k below. rw side (here (step_on r.ring.size r.ring.accepted_head k) (step_on-below r.ring.size r.ring.accepted_head k is.accepted)))

  port_filled : (p : UserPort) → IsTxSide p.tx → p.rx.side ≡ Rx → IsRingIf p.tx → IsRing p.rx.ring → ((q : Place) → is_filled_in q p ≡ true → HoldIn all q)
      → AllByRecursion (HoldIn all) (named_places_of p)
  port_filled p tx rx tx_ring rx_ring here =
      each-joined (HoldIn all) (named_tx_places p.id p.tx) _ (tx_filled p p.tx tx tx_ring (λ at below. here (place.Tx p.id at) (both_true (nat_eq p.id.0 p.id.0) (nat_lt at (size_if p.tx)) (same_true p.id.0 p.id.0 refl) (less_true at (size_if p.tx) below))))
      (each-joined (HoldIn all) (named_ring_places p.id p.rx) _ received
      (all_range (HoldIn all) (place.Extra p.id) 0 p.extra (λ k below. here (place.Extra p.id k) (both_true (nat_eq p.id.0 p.id.0) (nat_lt k p.extra) (same_true p.id.0 p.id.0 refl) (less_true k p.extra (omega arith))))))
    where
      received : AllByRecursion (HoldIn all) (named_ring_places p.id p.rx)
      received =
          let ring = p.rx.ring in
          all_slots (HoldIn all) (place_on p.rx.side p.id) ring.size ring.accepted_head 0 (dist ring.size ring.accepted_head ring.last_tail)
          (λ k below. rw rx (here (place.Rx p.id (step_on ring.size ring.accepted_head k)) (both_true (nat_eq p.id.0 p.id.0) (is_user_slot ring (step_on ring.size ring.accepted_head k)) (same_true p.id.0 p.id.0 refl) (user k below))))
        where
          user : (k : ℕ) → k < 0 + dist p.rx.ring.size p.rx.ring.accepted_head p.rx.ring.last_tail → is_user_slot p.rx.ring (step_on p.rx.ring.size p.rx.ring.accepted_head k) ≡ true
          user k below =
              let ring = p.rx.ring in
              let at = step_on ring.size ring.accepted_head k in
              let within = dist-below ring.size ring.accepted_head ring.last_tail rx_ring.accepted in
              let there = dist-step_on ring.size ring.accepted_head k rx_ring.accepted (omega arith) in
              let inside = step_on-below ring.size ring.accepted_head k rx_ring.accepted in
              both_true (nat_lt at ring.size) (nat_lt (dist ring.size ring.accepted_head at) (dist ring.size ring.accepted_head ring.last_tail)) (less_true at ring.size inside)
              (less_true (dist ring.size ring.accepted_head at) (dist ring.size ring.accepted_head ring.last_tail) (omega arith))

  ports_filled : (ports : List UserPort) → AreSided ports → AreRings ports → ((q : Place) → is_filled ports q ≡ true → HoldIn all q) → AllByRecursion (HoldIn all) (named_places ports)
  ports_filled [] sided rings there = tt
  ports_filled (p ∷ ports) sided rings there =
      each-joined (HoldIn all) (named_places_of p) (named_places ports) (port_filled p sided.0.0 sided.0.1 rings.0.0 rings.0.1 (λ q here. there q (or_first (is_filled_in q p) (is_filled ports q) here)))
      (ports_filled ports sided.1 rings.1 (λ q here. there q (or_second (is_filled_in q p) (is_filled ports q) here)))

pub named_are_filled : (ports : List UserPort) → AreSided ports → AreRings ports → AllByRecursion (λ q. is_filled ports q ≡ true) (named_places ports)
named_are_filled ports sided rings = ports_filled ports ports sided rings (λ q here. here)

-- an index that no buffer has is in no place
low_number : (h : HoldState) (q : Place) (idx : ℕ) (o : Option ℕ) → IsHold h → index_at h q ≡ o → is_some o ≡ true → idx < 2 → nat_eq (unwrap_or o 0) idx ≡ false
low_number h q idx None is e some low = absurd cc
low_number h q idx (Some n) is e some low = by_standing (standing_at h n) refl
  where
    by_standing : (o : Option Standing) → standing_at h n ≡ o → nat_eq n idx ≡ false
    by_standing None none = false_true (ap (stands_at q) (sym none) ∙ is.held q n e)
    by_standing (Some s) there = let low_n = (is.standing n s there).low in elim (cases_Bool (nat_eq n idx)) [
      | inl same ↦ absurd (let here : n ≡ idx = nat_eq-is n idx same in omega arith)
      | inr other ↦ other
    ]

none_low : (h : HoldState) (qs : List Place) (idx : ℕ) → IsHold h → idx < 2 → AllByRecursion (λ q. is_some (index_at h q) ≡ true) qs → contains_index (map (number_at h) qs) idx ≡ false
none_low h [] idx is low filled = refl
none_low h (q ∷ qs) idx is low filled = rw (low_number h q idx (index_at h q) is refl filled.0 low, none_low h qs idx is low filled.1) refl

-- whether a buffer is a named one, whatever its index
pub is_named_seen : (h : HoldState) (ports : List UserPort) (idx : ℕ) → IsHold h → AreSided ports → AreRings ports → AreFlagged h ports → AreFilled h ports
    → is_named_at h idx ≡ contains_index (named_of (own_seen h ports)) idx
is_named_seen h ports idx is sided rings flagged filled = elim (cases_lt idx 2) [
  | inl low ↦ by_standing low (standing_at h idx) refl
  | inr high ↦ are_named h ports sided rings flagged is idx high
]
  where
    held : (qs : List Place) → AllByRecursion (λ q. is_filled ports q ≡ true) qs → AllByRecursion (λ q. is_some (index_at h q) ≡ true) qs
    held [] all = tt
    held (q ∷ qs) all = (filled q ∙ all.0, held qs all.1)

    by_standing : idx < 2 → (o : Option Standing) → standing_at h idx ≡ o → is_named_in o ≡ contains_index (named_of (own_seen h ports)) idx
    by_standing low None e = rw (named_is_seen h ports sided rings) (sym (none_low h (named_places ports) idx is low (held (named_places ports) (named_are_filled ports sided rings))))
    by_standing low (Some s) e = absurd (let low_idx = (is.standing idx s e).low in omega arith)

-- an empty hold
none_some : (s : Standing) → None ≡ Some s → ⊥
none_some s e = cc

none_at : (k i : ℕ) → cell_at (replicate k None) i ≡ None
none_at zero i = refl
none_at (suc k) zero = refl
none_at (suc k) (suc i) = none_at k i

no_places : (k : ℕ) → places_in (replicate k None) ≡ []
no_places zero = refl
no_places (suc k) = no_places k

pub empty_is_hold : (n : ℕ) → IsPoolSize n → IsHold (empty_hold n)
empty_is_hold n size = record {
  pool = (let none : Option Standing = None in let count : buffers_of (empty_hold n) ≡ n = omega (arith, length-replicate (n + 2) none) in rw count size);
  sizes = search rules;
  once = tt;
  standing = λ idx s e. absurd (none_some s (sym (none_at (n + 2) idx) ∙ e));
  held = λ q idx e. absurd (none_held q idx e);
}
  where
    none_held : (q : Place) (idx : ℕ) → index_at (empty_hold n) q ≡ Some idx → ⊥
    none_held q idx e = let none = rw (no_places (n + 2)) at e in cc

pub empty_is_filled : (n : ℕ) → AreFilled (empty_hold n) []
empty_is_filled n q = rw (no_places (n + 2)) refl

-- what holds of an own side without ports
pub record Fresh (h : HoldState) (n : ℕ) : Type 0 where
  pub flagged : AreFlagged h []
  pub hold : IsHold h
  pub places : h.ports ≡ []
  pub filled : AreFilled h []
  pub whole : AreWhole h
  pub count : buffers_of h ≡ n

pub fresh : (h : HoldState) (n : ℕ) → h ≡ empty_hold n → IsPoolSize n → Fresh h n
fresh h n e size = rw e (record {
  flagged = λ idx s there. absurd (none_some s (sym (none_at (n + 2) idx) ∙ there));
  hold = empty_is_hold n size;
  places = refl;
  filled = empty_is_filled n;
  whole = λ idx s there. absurd (none_some s (sym (none_at (n + 2) idx) ∙ there));
  count = (let none : Option Standing = None in omega (arith, length-replicate (n + 2) none));
})
