-- Where a port stands in the order of the ports: the same in the list that is kept, and once a ring of
-- it has changed.
use Rattle.std.proofs.Common.{ℕ, ◌≡◌, ◌+◌, nat_eq, List, [], ◌∷◌, map, inl, inr, refl, ap}
use Rattle.std.specs.List.{position_or_len}
use Rattle.std.proofs.lemmas.Bool.{cases_Bool}
use Rattle.nm_types.specs.declared.id.Side.TheVariants.{Rx}
use Rattle.nm_types.specs.OwnPorts.{OwnPort, OwnState, Arrival, port_if, with_ring_on}
use Rattle.nm_hold.specs.Holds.{HoldState}
use Rattle.nm_port.specs.declared.port.UserPort.{UserPort}
use Rattle.nm_port.specs.Own.{own_seen}
use Rattle.nm_port.specs.Receives.{ring_with_arrival, own_with_arrival}
use Rattle.nm_own.specs.LentSlots.{index_of_port}
use Rattle.nm_own.specs.PortPlaces.{place_with_id}

-- the same in the list of ports that is seen
pub place_seen : (h : HoldState) (ports : List UserPort) (id : ℕ) → place_with_id (own_seen h ports) id ≡ index_of_port id ports
place_seen h [] id = refl
place_seen h (p ∷ ports) id = elim (cases_Bool (nat_eq p.id.0 id)) [
  | inl here ↦ rw here refl
  | inr other ↦ rw other (ap (λ (n : ℕ). 1 + n) (place_seen h ports id))
]

-- a frame that comes leaves it
module _ (id : ℕ) (came : Arrival) where
  abbrev with_ring_if : OwnPort → OwnPort
  with_ring_if = port_if id (with_ring_on Rx (ring_with_arrival came))

  same_places : (ports : List OwnPort) → position_or_len (λ (p : OwnPort). nat_eq p.id.0 id) (map with_ring_if ports) ≡ position_or_len (λ (p : OwnPort). nat_eq p.id.0 id) ports
  same_places [] = refl
  same_places (p ∷ ports) = elim (cases_Bool (nat_eq p.id.0 id)) [
    | inl here ↦ rw (here, here) refl
    | inr other ↦ rw (other, other) (ap (λ (n : ℕ). 1 + n) (same_places ports))
  ]

pub place_stays : (id : ℕ) (s : OwnState) (came : Arrival) → place_with_id (own_with_arrival id s came) id ≡ place_with_id s id
place_stays id s came = same_places id came s.ports
