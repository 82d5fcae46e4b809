-- The pushed slots of a ring, one behind the other.
use Rattle.std.proofs.Common.{ℕ, ◌≡◌, ◌<◌, ◌≤◌, ◌+◌, ◌-◌, ◌&&◌, true, nat_lt, List, [], ◌∷◌, ◌++◌, map, take, refl, sym, ◌∙◌, ap, arith}
use Rattle.std.proofs.lemmas.Bool.Decides.{nat_tests}
use Rattle.std.proofs.lemmas.List.{map-append, take-map}
use Rattle.std.proofs.lemmas.List.FromFn.{map-range_with_len_more, take-map-range_with_len}
use Rattle.nm_types.specs.Positions.{RingState, IsRing, FitsRing, dist, step_on, slots_from, pushed_slots, is_user_slot, pending_slots}
use Rattle.nm_types.specs.Slots.{Pushed, pushed_names}
use Rattle.nm_types.specs.declared.id.PortId.{PortId}
use Rattle.nm_hold.specs.Holds.{HoldState}
use Rattle.nm_port.specs.RingSlots.{RingSlots}
use Rattle.nm_port.specs.Sides.{pushed_seen, pushed_seen_at, name_at, names_pushed}
use Rattle.nm_types.proofs.RingSteps.{dist-below, dist-step_on, step_on-below, slots_from-add, step_on-dist}

-- a pushed slot is one of the user's
pub pushed_is_user : (ring : RingState) (k : ℕ) → IsRing ring → FitsRing ring ring.head ring.cur → k < dist ring.size ring.accepted_head ring.head → is_user_slot ring (step_on ring.size ring.accepted_head k) ≡ true
pushed_is_user ring k is fits below =
    let within = dist-below ring.size ring.accepted_head ring.head is.accepted in
    let inside = step_on-below ring.size ring.accepted_head k is.accepted in
    let there = dist-step_on ring.size ring.accepted_head k is.accepted (omega arith) in
    both (step_on ring.size ring.accepted_head k) ring.size (dist ring.size ring.accepted_head (step_on ring.size ring.accepted_head k)) (dist ring.size ring.accepted_head ring.last_tail) inside (rw there (omega (arith, fits.head_reach)))
  where
    both : (a b c d : ℕ) → a < b → c < d → (nat_lt a b && nat_lt c d) ≡ true
    both a b c d h k = let left : nat_lt a b ≡ true = grind (arith, nat_tests) in let right : nat_lt c d ≡ true = grind (arith, nat_tests) in rw (left, right) refl

-- as a loop over the pushed slots reads the ring
pub user_at : (ring read : RingState) (size first count k : ℕ) → size ≡ read.size → read ≡ ring → first ≡ ring.accepted_head → count ≡ dist ring.size ring.accepted_head ring.head → IsRing ring → FitsRing ring ring.head ring.cur → k < count
    → is_user_slot ring (step_on size first k) ≡ true
user_at ring read size first count k sized same from number is fits below = rw (sized, same, from) (pushed_is_user ring k is fits (omega (arith, number, below)))

pub seen_more : {X : Type 0} (f : ℕ → X) (size first k : ℕ) → map f (slots_from size first (k + 1)) ≡ map f (slots_from size first k) ++ f (step_on size first k) ∷ []
seen_more f size first k = ap (map f) (map-range_with_len_more (step_on size first) 0 k k (omega arith)) ∙ map-append f (slots_from size first k) (step_on size first k ∷ [])

pub listed_more : {X : Type 0} (f : ℕ → X) (size first k : ℕ) (old new : List X) (x : X) → new ≡ old ++ x ∷ [] → old ≡ map f (slots_from size first k) → x ≡ f (step_on size first k)
    → new ≡ map f (slots_from size first (k + 1))
listed_more {X = X} f size first k old new x added are is =
    added ∙ (ap (λ (xs : List X). xs ++ x ∷ []) are ∙ (ap (λ (y : X). map f (slots_from size first k) ++ y ∷ []) is ∙ sym (seen_more f size first k)))

-- all slots from one of them on
pub seen_split : {X : Type 0} (f : ℕ → X) (size first count k : ℕ) → k < count
    → map f (slots_from size first count) ≡ (map f (slots_from size first k) ++ f (step_on size first k) ∷ []) ++ map f (slots_from size (step_on size first (k + 1)) (count - (k + 1)))
seen_split {X = X} f size first count k below =
    let sum : count ≡ (k + 1) + (count - (k + 1)) = omega arith in
    ap (λ (n : ℕ). map f (slots_from size first n)) sum ∙ (ap (map f) (slots_from-add size first (k + 1) (count - (k + 1)))
    ∙ (map-append f (slots_from size first (k + 1)) (slots_from size (step_on size first (k + 1)) (count - (k + 1)))
    ∙ ap (λ (xs : List X). xs ++ map f (slots_from size (step_on size first (k + 1)) (count - (k + 1)))) (seen_more f size first k)))

pub names_taken : (f : ℕ → Pushed) (size first count k : ℕ) → k ≤ count → pushed_names (map f (slots_from size first k)) ≡ take k (pushed_names (map f (slots_from size first count)))
names_taken f size first count k below =
    sym (take-map (λ (p : Pushed). p.slot.buf_idx) k (map f (slots_from size first count)) ∙ ap pushed_names (take-map f k (slots_from size first count) ∙ ap (map f) (take-map-range_with_len (step_on size first) 0 count k below)))

-- what pushed slots name, with the buffers in their places or without
pub names-seen : (h : HoldState) (port : PortId) (r : RingSlots) → pushed_names (pushed_seen h port r) ≡ names_pushed r
names-seen h port r = over (pushed_slots r.ring r.ring.head)
  where
    over : (ats : List ℕ) → pushed_names (map (pushed_seen_at h port r) ats) ≡ map (name_at r) ats
    over [] = refl
    over (at ∷ ats) = ap (λ (names : List ℕ). name_at r at ∷ names) (over ats)

-- the slots still pushed, and behind them those pushed now
pub offered_are : (ring : RingState) → IsRing ring → slots_from ring.size (step_on ring.size ring.last_tail 1) (dist ring.size (step_on ring.size ring.last_tail 1) ring.accepted_head + dist ring.size ring.accepted_head ring.head)
    ≡ pending_slots ring ++ pushed_slots ring ring.head
offered_are ring is =
    let first = step_on ring.size ring.last_tail 1 in
    let tail : ring.last_tail < ring.size = (let w = is.within in let o = is.one_tail in omega arith) in
    let within = step_on-below ring.size ring.last_tail 1 tail in
    let pending = dist ring.size first ring.accepted_head in
    let pushed = dist ring.size ring.accepted_head ring.head in
    slots_from-add ring.size first pending pushed
    ∙ ap (λ (at : ℕ). slots_from ring.size first pending ++ slots_from ring.size at pushed) (step_on-dist ring.size first ring.accepted_head within is.accepted)

-- what is read of all slots offered
pub offered_seen : {X : Type 0} (f : ℕ → X) (ring at : RingState) (size first count : ℕ) → IsRing ring → size ≡ at.size → at ≡ ring → first ≡ step_on ring.size ring.last_tail 1
    → count ≡ dist ring.size first ring.accepted_head + dist ring.size ring.accepted_head ring.head → map f (slots_from size first count) ≡ map f (pending_slots ring ++ pushed_slots ring ring.head)
offered_seen f ring at size first count is sized same there all = rw (all, there, sized, same) (ap (map f) (offered_are ring is))

-- the next pushed slot of a loop over them: it is one of the user's, so many steps behind the accepted head
pub record IsNext (ring : RingState) (k at : ℕ) : Type 0 where
  pub user : is_user_slot ring at ≡ true
  pub steps : k < ring.size
  pub there : at ≡ step_on ring.size ring.accepted_head k

pub next_is : (ring : RingState) (size first count k at : ℕ) → IsRing ring → FitsRing ring ring.head ring.cur → size ≡ ring.size → first ≡ ring.accepted_head → count ≡ dist ring.size ring.accepted_head ring.head → k < count → at ≡ step_on size first k → IsNext ring k at
next_is ring size first count k at is fits sized start counted below here =
    let few = dist-below ring.size ring.accepted_head ring.head is.accepted in
    let there : at ≡ step_on ring.size ring.accepted_head k = rw (here, sized, start) refl in
    let pushed : k < dist ring.size ring.accepted_head ring.head = omega (arith, below, counted) in
    record {
      user = rw there (pushed_is_user ring k is fits pushed);
      steps = omega (arith, few, pushed);
      there = there;
    }
