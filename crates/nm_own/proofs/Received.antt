-- The places of pushed receive slots, emptied one after another.
use Rattle.std.proofs.Common.{ℕ, ◌≡◌, ◌<◌, ◌+◌, false, nat_lt, List, [], ◌∷◌, ◌++◌, ◌∙◌, ap, arith}
use Rattle.std.specs.Prelude.{IsSome}
use Rattle.std.proofs.lemmas.Bool.Decides.{nat_tests}
use Rattle.nm_types.specs.declared.id.PortId.{PortId}
use Rattle.nm_types.specs.Positions.{IsRing, FitsRing, slots_from}
use Rattle.nm_types.proofs.RingSteps.{dist-below, dist-step_on, step_on-below}
use Rattle.nm_region.specs.Buffers.{Buffer}
use Rattle.nm_hold.specs.Holds.{HoldState, index_at}
use Rattle.nm_port.specs.RingSlots.{RingSlots}
use Rattle.nm_port.specs.Sides.{place_on}
use Rattle.nm_port.specs.Closing.{AreTaken}
use Rattle.nm_port.specs.Exchanges.{pushed_count_of, user_position, user_place, is_among}
use Rattle.nm_port.specs.Receives.{user_places}
use Rattle.nm_port.proofs.Pushes.{seen_more}
use Rattle.nm_port.proofs.Ranges.{is_slot_from, among_slots}

pub user_more : (id : PortId) (r : RingSlots) (k : ℕ) → user_places id r (k + 1) ≡ user_places id r k ++ user_place id r k ∷ []
user_more id r k = seen_more (place_on r.side id) r.ring.size r.ring.accepted_head k

pub user_not_yet : (id : PortId) (r : RingSlots) (k : ℕ) → IsRing r.ring → FitsRing r.ring r.ring.head r.ring.cur → k < pushed_count_of r → is_among (user_places id r k) (user_place id r k) ≡ false
user_not_yet id r k is fits below =
    let within = dist-below r.ring.size r.ring.accepted_head r.ring.head is.accepted in
    let inside = step_on-below r.ring.size r.ring.accepted_head k is.accepted in
    among_slots r.side id (slots_from r.ring.size r.ring.accepted_head k) (user_position r k)
    ∙ (is_slot_from r.ring.size r.ring.accepted_head k (user_position r k) is.accepted (omega arith) inside
    ∙ (ap (λ (d : ℕ). nat_lt d k) (dist-step_on r.ring.size r.ring.accepted_head k is.accepted (omega arith)) ∙ not_below k))
  where
    not_below : (n : ℕ) → nat_lt n n ≡ false
    not_below n = grind (arith, nat_tests)

pub user_still_held : (h now : HoldState) (id : PortId) (r : RingSlots) (k : ℕ) (before after : List Buffer) → AreTaken h now (user_places id r k) before after → IsRing r.ring → FitsRing r.ring r.ring.head r.ring.cur → k < pushed_count_of r
    → IsSome (index_at h (user_place id r k)) → IsSome (index_at now (user_place id r k))
user_still_held h now id r k before after taken is fits below there = rw (taken.index (user_place id r k), user_not_yet id r k is fits below) there
